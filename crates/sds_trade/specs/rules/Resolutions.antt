-- What is to be done with a row of a batch where certain rows stand.
use Rattle.std.specs.Prelude.{ℕ, Bool, true, false, List, Option, None, Some, is_none, option_map}
use Rattle.std.specs.List.{list_any}
use Rattle.std.specs.Ordering.{is_gt}
use Rattle.sds_value.specs.declared.kind.Value.{Value}
use Rattle.sds_value.specs.declared.row.Event.TheVariants.{Insert, Update, Delete}
use Rattle.sds_value.specs.declared.table.TableDef.{TableDef}
use Rattle.sds_value.specs.Values.{value_order}
use Rattle.sds_types.specs.declared.conflict.ConflictDef.{ConflictDef}
use Rattle.sds_types.specs.declared.conflict.Resolution.{Resolution}
use Rattle.sds_types.specs.declared.conflict.Resolution.TheVariants.{Apply, SkipRow, SkipBatch, Broken}
use Rattle.sds_types.specs.declared.conflict.ResolveType.{ResolveType}
use Rattle.sds_types.specs.declared.conflict.ResolveType.TheVariants.{Fallback, Ignore, Manual, NewerWins}
use Rattle.sds_types.specs.declared.conflict.Verdict.{Verdict}
use Rattle.sds_types.specs.declared.conflict.Verdict.TheVariants as verdicts
use Rattle.sds_types.specs.declared.load_row.Addend.{Addend}
use Rattle.sds_types.specs.declared.load_row.LoadRow.{LoadRow}
use Rattle.sds_types.specs.declared.row.Key.{Key}
use Rattle.sds_types.specs.declared.row.Row.{Row}
use Rattle.sds_types.specs.declared.row.RowStep.{RowStep}
use Rattle.sds_types.specs.declared.row.RowStep.TheVariants as step
use Rattle.sds_types.specs.declared.row.TableRow.{TableRow}
use Rattle.sds_types.specs.declared.rule.Rule.TheVariants.{ManualConflict, OldMissing, SumOutOfRange}
use Rattle.sds_trade.specs.rules.Conflicts.{target_row, verdict}
use Rattle.sds_trade.specs.rules.RowValues.{gives, new_value, old_value, sums_fit, new_key, key_alone, inserted_row, updated_row}
use Rattle.sds_trade.specs.rules.Tables.{value_at, row_at}

-- a step is made where the sums on the values that it begins with have 64 bits
abbrev pub step_if : Bool → RowStep → Resolution
step_if true made = Apply made
step_if false made = Broken SumOutOfRange

abbrev pub insert_of : List TableDef → LoadRow → Resolution
insert_of defs row = step_if (sums_fit row (key_alone defs row))
    (step.Insert row.table (inserted_row defs row))

abbrev pub update_of : List TableDef → LoadRow → Key → Row → Resolution
update_of defs row key kept = step_if (sums_fit row kept.0)
    (step.Update row.table key (updated_row defs row kept))

-- FALLBACK: the row is made to stand. An insert updates a row of its key that stands
abbrev pub insert_or_update : List TableDef → LoadRow → Key → Option Row → Resolution
insert_or_update defs row key None = insert_of defs row
insert_or_update defs row key (Some kept) = update_of defs row key kept

-- an update goes to the row of its old key, else to that of its new key, else it inserts
abbrev pub update_or_insert : List TableDef → List TableRow → LoadRow → Option Row → Resolution
update_or_insert defs rows row None = let key = new_key defs row in
    insert_or_update defs row key (row_at defs rows row.table key)
update_or_insert defs rows row (Some kept) = update_of defs row row.key kept

-- a delete of a row that doesn't stand is skipped
abbrev pub delete_or_skip : LoadRow → Option Row → Resolution
delete_or_skip row None = SkipRow
delete_or_skip row (Some kept) = Apply (step.Delete row.table row.key)

abbrev pub fallback : List TableDef → List TableRow → LoadRow → Resolution
fallback defs rows row = let target = target_row defs rows row in elim row.event [
  | Insert ↦ insert_or_update defs row row.key target
  | Update ↦ update_or_insert defs rows row target
  | Delete ↦ delete_or_skip row target
]

-- NEWER WINS: the incoming value of the named column, of a delete the old one, where it is given
abbrev pub incoming_value : LoadRow → ℕ → Option Value
incoming_value row column = elim (gives row column) [
  | false ↦ None
  | true ↦ elim row.event [
    | Insert ↦ Some (new_value row column)
    | Update ↦ Some (new_value row column)
    | Delete ↦ option_map (λ (old : List Value). old_value row old column) row.old
  ]
]

abbrev pub by_newer : List TableDef → List TableRow → LoadRow → Value → Option Value → Resolution
by_newer defs rows row kept None = Broken OldMissing
by_newer defs rows row kept (Some incoming) =
    elim (is_gt (value_order incoming kept)) [ true ↦ fallback defs rows row | false ↦ SkipRow ]

-- the greater value wins, and a tie skips the row; where no row stands there is nothing to compare
abbrev pub by_newer_value : List TableDef → List TableRow → LoadRow → Option ℕ → Option Row
    → Resolution
by_newer_value defs rows row column None = fallback defs rows row
by_newer_value defs rows row None (Some kept) = Broken OldMissing
by_newer_value defs rows row (Some column) (Some kept) =
    by_newer defs rows row (value_at kept.0 column) (incoming_value row column)

abbrev pub skip_of : Bool → Resolution
skip_of true = SkipRow
skip_of false = SkipBatch

-- a conflict, by its resolution; without a setting it falls back
abbrev pub by_resolve_type : List TableDef → List TableRow → LoadRow → ConflictDef → ResolveType
    → Resolution
by_resolve_type defs rows row def Fallback = fallback defs rows row
by_resolve_type defs rows row def Ignore = skip_of def.resolve_row_only
by_resolve_type defs rows row def Manual = Broken ManualConflict
by_resolve_type defs rows row def NewerWins =
    by_newer_value defs rows row def.detect_expression (target_row defs rows row)

abbrev pub by_setting : List TableDef → List TableRow → LoadRow → Option ConflictDef → Resolution
by_setting defs rows row None = fallback defs rows row
by_setting defs rows row (Some def) = by_resolve_type defs rows row def def.resolve_type

abbrev pub by_verdict : List TableDef → List TableRow → LoadRow → Option ConflictDef → Verdict
    → Resolution
by_verdict defs rows row setting verdicts.No = fallback defs rows row
by_verdict defs rows row setting verdicts.OldMissing = Broken OldMissing
by_verdict defs rows row setting verdicts.Yes = by_setting defs rows row setting

-- the batch doesn't give the old value that an addend is reckoned from
abbrev pub lacks_addend : LoadRow → Bool
lacks_addend row = list_any (λ (addend : Addend). is_none addend.add) row.adds

-- what is to be done with a row under a setting
abbrev pub resolution_of : List TableDef → Option ConflictDef → List TableRow → LoadRow → Resolution
resolution_of defs setting rows row = elim (lacks_addend row) [
  | true ↦ Broken OldMissing
  | false ↦ by_verdict defs rows row setting (verdict setting row (target_row defs rows row))
]

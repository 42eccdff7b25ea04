-- Whether a row of a batch conflicts with the row that stands.
use Rattle.std.specs.Prelude.{ℕ, Bool, true, false, not, ◌&&◌, List, Option, None, Some, is_some}
use Rattle.std.specs.List.{filter, list_any}
use Rattle.sds_value.specs.declared.kind.Value.{Value}
use Rattle.sds_value.specs.declared.row.Event.{Event}
use Rattle.sds_value.specs.declared.row.Event.TheVariants.{Insert, Update, Delete}
use Rattle.sds_value.specs.declared.table.TableDef.{TableDef}
use Rattle.sds_types.specs.declared.conflict.ConflictDef.{ConflictDef}
use Rattle.sds_types.specs.declared.conflict.DetectType.{DetectType}
use Rattle.sds_types.specs.declared.conflict.DetectType.TheVariants.{UsePkData, UseOldData, UseChangedData, UseTimestamp, UseVersion}
use Rattle.sds_types.specs.declared.conflict.Verdict.{Verdict}
use Rattle.sds_types.specs.declared.conflict.Verdict.TheVariants.{No, Yes, OldMissing}
use Rattle.sds_types.specs.declared.load_row.LoadRow.{LoadRow}
use Rattle.sds_types.specs.declared.row.Row.{Row}
use Rattle.sds_types.specs.declared.row.TableRow.{TableRow}
use Rattle.sds_trade.specs.rules.RowValues.{gives, new_value, old_value}
use Rattle.sds_trade.specs.rules.Tables.{same_value, value_at, row_at}

-- the row that stands where a row is to go: of an insert by the new key, else by the old key
abbrev pub target_row : List TableDef → List TableRow → LoadRow → Option Row
target_row defs rows row = row_at defs rows row.table row.key

abbrev pub yes_if : Bool → Verdict
yes_if true = Yes
yes_if false = No

-- the old value of a column isn't the one that stands
abbrev pub differs_at : LoadRow → List Value → Row → ℕ → Bool
differs_at row old kept column =
    not (same_value (old_value row old column) (value_at kept.0 column))

-- the new value of a column isn't its old one
abbrev pub changes_at : LoadRow → List Value → ℕ → Bool
changes_at row old column = not (same_value (old_value row old column) (new_value row column))

abbrev pub given_columns : LoadRow → List ℕ
given_columns row = filter (gives row) row.columns

-- an old value that is given isn't the one that stands
abbrev pub old_differs : LoadRow → List Value → Row → Bool
old_differs row old kept = list_any (differs_at row old kept) (given_columns row)

-- such an old value of a column that the update changes; a delete changes all
abbrev pub changed_differs : LoadRow → List Value → Row → Event → Bool
changed_differs row old kept Delete = old_differs row old kept
changed_differs row old kept event = list_any (λ (column : ℕ).
    changes_at row old column && differs_at row old kept column) (given_columns row)

-- by the old value of a named column, which may not be given
abbrev pub named_verdict : LoadRow → List Value → Row → Option ℕ → Verdict
named_verdict row old kept None = OldMissing
named_verdict row old kept (Some column) = elim (gives row column) [
  | true ↦ yes_if (differs_at row old kept column)
  | false ↦ OldMissing
]

-- where the target row stands: by the detection, which but for the key's alone needs old values
abbrev pub verdict_by : DetectType → Option ℕ → LoadRow → Option (List Value) → Row → Verdict
verdict_by UsePkData column row old kept = No
verdict_by detect column row None kept = OldMissing
verdict_by UseOldData column row (Some old) kept = yes_if (old_differs row old kept)
verdict_by UseChangedData column row (Some old) kept =
    yes_if (changed_differs row old kept row.event)
verdict_by UseTimestamp column row (Some old) kept = named_verdict row old kept column
verdict_by UseVersion column row (Some old) kept = named_verdict row old kept column

-- of an update or a delete: a missing target row is a conflict; without a setting the key decides
abbrev pub verdict_at : Option ConflictDef → LoadRow → Option Row → Verdict
verdict_at setting row None = Yes
verdict_at None row (Some kept) = No
verdict_at (Some def) row (Some kept) =
    verdict_by def.detect_type def.detect_expression row row.old kept

-- whether a row conflicts with its target row; an insert does where that stands
abbrev pub verdict : Option ConflictDef → LoadRow → Option Row → Verdict
verdict setting row target = elim row.event [
  | Insert ↦ yes_if (is_some target)
  | Update ↦ verdict_at setting row target
  | Delete ↦ verdict_at setting row target
]

-- What the rows of own writes and of batches ask for fits the tables, so that a node's tables stay tables by each outcome.
use Rattle.std.proofs.Common.{◌≡◌, ℕ, Bool, true, false, List, [], ◌∷◌, length, map, Option, None, Some, refl, sym, ap, subst, ◌∙◌, true≢false, filter_map, not, ◌&&◌, All, ℤ}
use Rattle.std.specs.List.{cons_option, enumerate_from}
use Rattle.std.specs.Option.{option_map_or}
use Rattle.std.specs.Ordering.{is_gt}
use Rattle.std.specs.Prelude.{IfSome, IsSomeAnd, option_and_then, option_map, slice_get, unwrap_or, Result, Ok, Err}
use Rattle.std.specs.Result.{result_err, result_ok}
use Rattle.std.proofs.lemmas.List.Elements.{All-nil, All-cons}
use Rattle.std.proofs.lemmas.List.Sums.{AllPass-from_list_all}
use Rattle.sds_value.specs.declared.kind.Binary.{Binary}
use Rattle.sds_value.specs.declared.kind.Binary.TheVariants.{Base64}
use Rattle.sds_value.specs.declared.kind.Value.{Value}
use Rattle.sds_value.specs.Values.{value_order}
use Rattle.sds_value.specs.declared.row.DocRow.{DocRow}
use Rattle.sds_value.specs.declared.row.Event.{Event}
use Rattle.sds_value.specs.declared.row.Event.TheVariants as event
use Rattle.sds_value.specs.declared.table.ColumnDef.{ColumnDef}
use Rattle.sds_value.specs.declared.table.TableDef.{TableDef}
use Rattle.sds_types.specs.declared.config.Config.{Config}
use Rattle.sds_types.specs.declared.conflict.ConflictDef.{ConflictDef}
use Rattle.sds_types.specs.declared.conflict.Resolution.TheVariants as resolutions
use Rattle.sds_types.specs.declared.conflict.ResolveType.{ResolveType}
use Rattle.sds_types.specs.declared.conflict.ResolveType.TheVariants.{Fallback, Ignore, Manual, NewerWins}
use Rattle.sds_types.specs.declared.conflict.Verdict.{Verdict}
use Rattle.sds_types.specs.declared.conflict.Verdict.TheVariants as verdicts
use Rattle.sds_types.specs.declared.document.BatchDoc.{BatchDoc}
use Rattle.sds_types.specs.declared.load_row.LoadRow.{LoadRow}
use Rattle.sds_types.specs.declared.prepared.Body.{Body}
use Rattle.sds_types.specs.declared.prepared.Body.TheVariants as body
use Rattle.sds_types.specs.declared.prepared.Prepared.{Prepared}
use Rattle.sds_types.specs.declared.row.Key.{Key}
use Rattle.sds_types.specs.declared.row.Row.{Row}
use Rattle.sds_types.specs.declared.row.RowStep.TheVariants as step
use Rattle.sds_types.specs.declared.row.TableRow.{TableRow}
use Rattle.sds_types.specs.declared.rule.Rule.{Rule}
use Rattle.sds_types.specs.declared.rule.Rule.TheVariants.{OldMissing}
use Rattle.sds_types.specs.declared.transform.Add.{Add}
use Rattle.sds_types.specs.declared.transform.DeleteAction.{DeleteAction}
use Rattle.sds_types.specs.declared.transform.DeleteAction.TheVariants.{DelRow, Nothing, UpdateCol}
use Rattle.sds_types.specs.declared.transform.Point.{Point}
use Rattle.sds_types.specs.declared.transform.Point.TheVariants.{Extract, Load}
use Rattle.sds_types.specs.declared.transform.Shaped.{Shaped}
use Rattle.sds_types.specs.declared.transform.TransformDef.{TransformDef}
use Rattle.sds_types.specs.declared.transform_column.ColumnExpression.{ColumnExpression}
use Rattle.sds_types.specs.declared.transform_column.ColumnExpression.TheVariants as says
use Rattle.sds_types.specs.declared.transform_column.ColumnKind.{ColumnKind}
use Rattle.sds_types.specs.declared.transform_column.ColumnKind.TheVariants as kinds
use Rattle.sds_types.specs.declared.transform_column.MapPair.{MapPair}
use Rattle.sds_types.specs.declared.transform_column.NodeWord.{NodeWord}
use Rattle.sds_types.specs.declared.transform_column.Substring.{Substring}
use Rattle.sds_types.specs.declared.transform_column.TransformColumn.{TransformColumn}
use Rattle.sds_types.specs.declared.tx_row.TxRow.{TxRow}
use Rattle.sds_types.specs.declared.way.Way.{Way}
use Rattle.sds_line.specs.Written.{are_fields}
use Rattle.sds_trade.proofs.Lists.{all_head, all_tail, passes}
use Rattle.sds_trade.specs.rules.Captured.{overflows}
use Rattle.sds_trade.specs.rules.ColumnFunctions.{is_additive}
use Rattle.sds_trade.specs.rules.Conflicts.{target_row, verdict}
use Rattle.sds_trade.specs.rules.DocRows.{doc_columns}
use Rattle.sds_trade.specs.rules.Expressions.{column_expression_of}
use Rattle.sds_trade.specs.rules.LoadRows.{row_of}
use Rattle.sds_trade.specs.rules.MadeRows.{active_columns, made_delete, made_insert, made_mark, made_of_delete, made_rows, made_update}
use Rattle.sds_trade.specs.rules.ColumnFunctions.{takes_part}
use Rattle.sds_trade.specs.rules.Outcomes.{batch_judge, body_by, body_of, by_body, by_channel, numbered_rule, outcome_of_batch, reading_of, readings_of, setting_for, with_number}
use Rattle.sds_trade.specs.rules.OwnWrites.{by_texts, doc_of, outcome_of_write, own_judge, own_step, own_update}
use Rattle.sds_trade.specs.rules.Places.{column_place, columns_at, is_key_place, table_named, table_place}
use Rattle.sds_trade.specs.rules.Resolutions.{by_newer, by_newer_value, by_resolve_type, by_setting, by_verdict, delete_or_skip, fallback, incoming_value, insert_of, insert_or_update, lacks_addend, resolution_of, skip_of, step_if, update_of, update_or_insert}
use Rattle.sds_trade.specs.rules.RowValues.{inserted_row, key_alone, new_key, sums_fit, updated_row}
use Rattle.sds_trade.specs.rules.Sound.{IsSound}
use Rattle.sds_trade.specs.rules.Tables.{AreTables, IsRowOf, row_at, value_at}
use Rattle.sds_trade.specs.rules.Transforms.{add_by, add_of, adds_of, by_transforms, is_meant, is_point, shaped_by, shaped_rows, transforms_for}
use Rattle.sds_trade.specs.sound.Tables.{AreTableDefs}
use Rattle.sds_trade.specs.sound.TransformColumns.{IsTransformColumn, is_number, is_number_at, takes_sums}
use Rattle.sds_trade.specs.sound.Transforms.{FitsTable, IsTransform}
use Rattle.sds_nodelaws.specs.Asked.{IsReadFrom, are_spelt, is_spelt_body, is_spelt_row}
use Rattle.sds_nodelaws.proofs.Held.{all_of, mapped}
use Rattle.sds_nodelaws.proofs.KeyedLists.{placed_all}
use Rattle.sds_nodelaws.proofs.Lists.{all_flat, and_left, filter_all, map_all, no_some, same_some}
use Rattle.sds_nodelaws.proofs.ReadRows.{own_read, row_read}
use Rattle.sds_nodelaws.proofs.ReadValues.{IsRead, NumberAt, inserted_fits, no_sums, sums_are, updated_fits}
use Rattle.sds_nodelaws.proofs.TableRuns.{AsksWell, EndsIn, row_stands, runs_end}

-- WHAT A READ ROW ASKS FOR
module _ (defs : List TableDef) (row : LoadRow) (read : IsRead defs row) where
  abbrev Kept : Option Row → Type 0
  Kept kept = IfSome kept (IsRowOf (columns_at defs row.table))

  insert_well : AsksWell defs (insert_of defs row)
  insert_well = on (sums_fit row (key_alone defs row)) refl
    where
      on : (b : Bool) → sums_fit row (key_alone defs row) ≡ b → AsksWell defs (step_if b (step.Insert row.table (inserted_row defs row)))
      on true fit = record { there = read.there; row = inserted_fits defs row read (sums_are row (key_alone defs row) fit) }
      on false fit = tt

  update_well : (key : Key) (kept : Row) → IsRowOf (columns_at defs row.table) kept → AsksWell defs (update_of defs row key kept)
  update_well key kept is = on (sums_fit row kept.0) refl
    where
      on : (b : Bool) → sums_fit row kept.0 ≡ b → AsksWell defs (step_if b (step.Update row.table key (updated_row defs row kept)))
      on true fit = record { there = read.there; row = updated_fits defs row read kept is (sums_are row kept.0 fit) }
      on false fit = tt

  either_well : (key : Key) (kept : Option Row) → Kept kept → AsksWell defs (insert_or_update defs row key kept)
  either_well key None is = insert_well
  either_well key (Some kept) is = update_well key kept is

  or_insert_well : (rows : List TableRow) → AreTables defs rows → (kept : Option Row) → Kept kept → AsksWell defs (update_or_insert defs rows row kept)
  or_insert_well rows are None is =
      either_well (new_key defs row) (row_at defs rows row.table (new_key defs row)) (row_stands defs rows row.table (new_key defs row) are)
  or_insert_well rows are (Some kept) is = update_well row.key kept is

  delete_well : (kept : Option Row) → AsksWell defs (delete_or_skip row kept)
  delete_well None = tt
  delete_well (Some kept) = record { there = read.there; row = tt }

  fallback_well : (rows : List TableRow) → AreTables defs rows → AsksWell defs (fallback defs rows row)
  fallback_well rows are = on row.event
    where
      target : Kept (target_row defs rows row)
      target = row_stands defs rows row.table row.key are

      on : (e : Event) → AsksWell defs (elim e [
        | event.Insert ↦ insert_or_update defs row row.key (target_row defs rows row)
        | event.Update ↦ update_or_insert defs rows row (target_row defs rows row)
        | event.Delete ↦ delete_or_skip row (target_row defs rows row)
      ])
      on event.Insert = either_well row.key (target_row defs rows row) target
      on event.Update = or_insert_well rows are (target_row defs rows row) target
      on event.Delete = delete_well (target_row defs rows row)

  newer_well : (rows : List TableRow) → AreTables defs rows → (kept : Value) (incoming : Option Value) → AsksWell defs (by_newer defs rows row kept incoming)
  newer_well rows are kept None = tt
  newer_well rows are kept (Some incoming) = on (is_gt (value_order incoming kept))
    where
      on : (b : Bool) → AsksWell defs (elim b [ true ↦ fallback defs rows row | false ↦ resolutions.SkipRow ])
      on true = fallback_well rows are
      on false = tt

  newer_value_well : (rows : List TableRow) → AreTables defs rows → (column : Option ℕ) (kept : Option Row) → AsksWell defs (by_newer_value defs rows row column kept)
  newer_value_well rows are None None = fallback_well rows are
  newer_value_well rows are (Some column) None = fallback_well rows are
  newer_value_well rows are None (Some kept) = tt
  newer_value_well rows are (Some column) (Some kept) = newer_well rows are (value_at kept.0 column) (incoming_value row column)

  skip_well : (b : Bool) → AsksWell defs (skip_of b)
  skip_well true = tt
  skip_well false = tt

  type_well : (rows : List TableRow) → AreTables defs rows → (def : ConflictDef) (type : ResolveType) → AsksWell defs (by_resolve_type defs rows row def type)
  type_well rows are def Fallback = fallback_well rows are
  type_well rows are def Ignore = skip_well def.resolve_row_only
  type_well rows are def Manual = tt
  type_well rows are def NewerWins = newer_value_well rows are def.detect_expression (target_row defs rows row)

  setting_well : (rows : List TableRow) → AreTables defs rows → (setting : Option ConflictDef) → AsksWell defs (by_setting defs rows row setting)
  setting_well rows are None = fallback_well rows are
  setting_well rows are (Some def) = type_well rows are def def.resolve_type

  verdict_well : (rows : List TableRow) → AreTables defs rows → (setting : Option ConflictDef) (v : Verdict) → AsksWell defs (by_verdict defs rows row setting v)
  verdict_well rows are setting verdicts.No = fallback_well rows are
  verdict_well rows are setting verdicts.OldMissing = tt
  verdict_well rows are setting verdicts.Yes = setting_well rows are setting

  pub resolution_well : (rows : List TableRow) → AreTables defs rows → (setting : Option ConflictDef) → AsksWell defs (resolution_of defs setting rows row)
  resolution_well rows are setting = on (lacks_addend row)
    where
      on : (b : Bool) → AsksWell defs (elim b [
        | true ↦ resolutions.Broken OldMissing
        | false ↦ by_verdict defs rows row setting (verdict setting row (target_row defs rows row))
      ])
      on true = tt
      on false = verdict_well rows are setting (verdict setting row (target_row defs rows row))

  -- an own row, which adds nothing
  own_update_well : (rows : List TableRow) → row.adds ≡ [] → (kept : Option Row) → Kept kept → AsksWell defs (own_update defs rows row kept)
  own_update_well rows none None is = tt
  own_update_well rows none (Some kept) is = record { there = read.there; row = updated_fits defs row read kept is (no_sums row kept.0 none) }

  own_step_well : (rows : List TableRow) → AreTables defs rows → row.adds ≡ [] → (e : Event) → AsksWell defs (own_step defs rows row e)
  own_step_well rows are none event.Insert = record { there = read.there; row = inserted_fits defs row read (no_sums row (key_alone defs row) none) }
  own_step_well rows are none event.Update =
      own_update_well rows none (row_at defs rows row.table row.key) (row_stands defs rows row.table row.key are)
  own_step_well rows are none event.Delete = record { there = read.there; row = tt }

-- OWN WRITES
own_well : (defs : List TableDef) (rows : List TableRow) (tx : TxRow) → AreTableDefs defs → AreTables defs rows → are_fields tx.fields ≡ true
    → AsksWell defs (own_judge defs rows tx)
own_well defs rows tx sound are spelt = on (row_of defs Base64 0 (doc_of defs tx) []) refl
  where
    on : (r : Result LoadRow Rule) → row_of defs Base64 0 (doc_of defs tx) [] ≡ r → AsksWell defs (by_texts defs rows r)
    on (Err rule) is = tt
    on (Ok row) is = let own = own_read defs tx row sound spelt is in own_step_well defs row own.read rows are own.adds row.event

pub write_ends : (config : Config) (group : List ℕ) (waiting : ℕ) (rows : List TableRow) (tx : List TxRow) → IsSound config → AreTables config.tables rows
    → are_spelt tx ≡ true → EndsIn config.tables (outcome_of_write config group waiting rows tx)
write_ends config group waiting rows tx sound are spelt =
    runs_end (λ (row : TxRow). are_fields row.fields ≡ true) config.tables (overflows config group false waiting) (own_judge config.tables)
    (λ from row tables good. own_well config.tables from row sound.tables tables good) (enumerate_from 1 tx)
    (placed_all (λ (row : TxRow). are_fields row.fields ≡ true) 1 tx (AllPass-from_list_all (λ (row : TxRow). are_fields row.fields) tx spelt)) rows are

-- WHAT A LOAD ADDS TO are columns of numbers
abbrev AddsWell : Config → Shaped → Type 0
AddsWell config made = All (λ (add : Add). NumberAt (doc_columns config.tables made.row) add.column) made.adds

is_load : (point : Point) → is_point point Load ≡ true → point ≡ Load
is_load Load is = refl
is_load Extract is = absurd (true≢false (sym is))

abbrev is_sum : ColumnExpression → Bool
is_sum (says.Additive factor) = true
is_sum says.Unused = false
is_sum (says.Const text) = false
is_sum (says.Left count) = false
is_sum (says.Substr piece) = false
is_sum (says.ValueMap pairs) = false
is_sum (says.Variable node) = false

abbrev says_sum : Option ColumnExpression → Bool
says_sum None = false
says_sum (Some said) = is_sum said

no_sum : {X G : Type 0} (f : X → ColumnExpression) (o : Option X) (factor : ℤ) → ((x : X) → is_sum (f x) ≡ false) → option_map f o ≡ Some (says.Additive factor) → G
no_sum f None factor none is = absurd (true≢false (sym (ap says_sum is)))
no_sum f (Some x) factor none is = absurd (true≢false (sym (ap says_sum is) ∙ none x))

additive_is : (kind : ColumnKind) (text : List ℕ) (factor : ℤ) → column_expression_of kind text ≡ Some (says.Additive factor) → is_additive kind ≡ true
additive_is kinds.Additive text factor is = refl
additive_is kinds.Copy text factor is = absurd (true≢false (sym (ap says_sum is)))
additive_is kinds.Remove text factor is = absurd (true≢false (sym (ap says_sum is)))
additive_is kinds.Const text factor is = absurd (true≢false (sym (ap says_sum is)))
additive_is kinds.Left text factor is = no_sum (λ (count : ℕ). says.Left count) _ factor (λ x. refl) is
additive_is kinds.Substr text factor is = no_sum (λ (piece : Substring). says.Substr piece) _ factor (λ x. refl) is
additive_is kinds.ValueMap text factor is = no_sum (λ (pairs : List MapPair). says.ValueMap pairs) _ factor (λ x. refl) is
additive_is kinds.Variable text factor is = no_sum (λ (node : NodeWord). says.Variable node) _ factor (λ x. refl) is

-- the table that a transform makes rows for
record MadeFor (defs : List TableDef) (transform : TransformDef) : Type 0 where
  def : TableDef
  fits : FitsTable transform def
  columns : columns_at defs (unwrap_or (table_place defs transform.target_table) (length defs)) ≡ def.columns

made_for : (defs : List TableDef) (transform : TransformDef) → IsSomeAnd (table_named defs transform.target_table) (FitsTable transform) → MadeFor defs transform
made_for defs transform fits = by_place (table_place defs transform.target_table) refl fits
  where
    by_def : (place : ℕ) → table_place defs transform.target_table ≡ Some place → (found : Option TableDef) → slice_get defs place ≡ found
        → IsSomeAnd found (FitsTable transform) → MadeFor defs transform
    by_def place is None there fit = absurd fit
    by_def place is (Some def) there fit = record {
      def = def;
      fits = fit;
      columns = ap (λ (o : Option ℕ). columns_at defs (unwrap_or o (length defs))) is
          ∙ ap (λ (o : Option TableDef). option_map_or (λ (d : TableDef). d.columns) o []) there;
    }

    by_place : (o : Option ℕ) → table_place defs transform.target_table ≡ o → IsSomeAnd (option_and_then (slice_get defs) o) (FitsTable transform)
        → MadeFor defs transform
    by_place None is fit = absurd fit
    by_place (Some place) is fit = by_def place is (slice_get defs place) refl fit

-- a transform of the configuration that is for loads
record IsForLoad (config : Config) (transform : TransformDef) : Type 0 where
  sound : IsTransform config transform
  load : transform.point ≡ Load

for_load : (config : Config) (transform : TransformDef) → IsForLoad config transform → MadeFor config.tables transform
for_load config transform is =
    made_for config.tables transform
    (subst (λ (p : Point). IsSomeAnd (table_named config.tables (elim p [ Extract ↦ transform.source_table | Load ↦ transform.target_table ])) (FitsTable transform))
    is.load is.sound.table)

filter_map_all : {X Y : Type 0} (P : Y → Type 0) (f : X → Option Y) (xs : List X) → All (λ x. (y : Y) → f x ≡ Some y → P y) xs → All P (filter_map f xs)
filter_map_all P f [] are = All-nil P
filter_map_all {X} {Y} P f (x ∷ xs) are =
    on (f x) (all_head (λ (z : X). (y : Y) → f z ≡ Some y → P y) x xs are) (filter_map_all P f xs (all_tail (λ (z : X). (y : Y) → f z ≡ Some y → P y) x xs are))
  where
    on : (o : Option Y) → ((y : Y) → o ≡ Some y → P y) → All P (filter_map f xs) → All P (cons_option o (filter_map f xs))
    on None gives rest = rest
    on (Some y) gives rest = All-cons P y (filter_map f xs) (gives y refl) rest

add_well : (columns : List ColumnDef) (def : TableDef) (column : TransformColumn) (add : Add) → def.columns ≡ columns
    → column_expression_of column.kind column.expression ≡ Some column.parsed → (is_additive column.kind ≡ true → takes_sums def column.target ≡ true)
    → add_by (column_place columns column.target) column.parsed ≡ Some add → NumberAt columns add.column
add_well columns def column add same says_so takes made = on (column_place columns column.target) refl column.parsed says_so made
  where
    number : (place : ℕ) → column_place columns column.target ≡ Some place → (factor : ℤ) → column_expression_of column.kind column.expression ≡ Some (says.Additive factor)
        → NumberAt columns place
    number place is factor said found at =
        and_left (is_number found.kind) (not (is_key_place def place))
        (sym (ap (λ (o : Option ColumnDef). elim o [ None ↦ false | Some c ↦ is_number c.kind && not (is_key_place def place) ])
        (ap (λ (cs : List ColumnDef). slice_get cs place) same ∙ at))
        ∙ (sym (ap (is_number_at def) (ap (λ (cs : List ColumnDef). column_place cs column.target) same ∙ is))
        ∙ takes (additive_is column.kind column.expression factor said)))

    on : (o : Option ℕ) → column_place columns column.target ≡ o → (parsed : ColumnExpression) → column_expression_of column.kind column.expression ≡ Some parsed
        → add_by o parsed ≡ Some add → NumberAt columns add.column
    on None is parsed said made = no_some add made
    on (Some place) is (says.Additive factor) said made =
        subst (λ (a : Add). NumberAt columns a.column) (same_some (record { column = place; multiplier = factor }) add made) (number place is factor said)
    on (Some place) is says.Unused said made = no_some add made
    on (Some place) is (says.Const text) said made = no_some add made
    on (Some place) is (says.Left count) said made = no_some add made
    on (Some place) is (says.Substr piece) said made = no_some add made
    on (Some place) is (says.ValueMap pairs) said made = no_some add made
    on (Some place) is (says.Variable node) said made = no_some add made

adds_well : (config : Config) (transform : TransformDef) (doc : DocRow) → IsForLoad config transform
    → All (λ (add : Add). NumberAt (columns_at config.tables (unwrap_or (table_place config.tables transform.target_table) (length config.tables))) add.column)
    (adds_of config.tables transform doc)
adds_well config transform doc is =
    let table : ℕ = unwrap_or (table_place config.tables transform.target_table) (length config.tables) in
    let made = for_load config transform is in
    filter_map_all (λ (add : Add). NumberAt (columns_at config.tables table) add.column) (add_of config.tables table) (active_columns transform doc)
    (filter_all (λ (column : TransformColumn). (add : Add) → add_of config.tables table column ≡ Some add → NumberAt (columns_at config.tables table) add.column)
    (takes_part doc.event) transform.columns
    (mapped (IsTransformColumn transform.point transform.column_policy made.def)
    (λ (column : TransformColumn). (add : Add) → add_of config.tables table column ≡ Some add → NumberAt (columns_at config.tables table) add.column) transform.columns
    (λ column sound add gives. add_well (columns_at config.tables table) made.def column add (sym made.columns) sound.parsed sound.adds_to gives) made.fits.each))

made_tables : (way : Way) (transform : TransformDef) (doc : DocRow) (e : Event) → All (λ (row : DocRow). row.table ≡ transform.target_table) (made_rows way transform doc e)
made_tables way transform doc event.Insert =
    All-cons (λ (row : DocRow). row.table ≡ transform.target_table) (made_insert way transform doc) [] refl (All-nil (λ (row : DocRow). row.table ≡ transform.target_table))
made_tables way transform doc event.Update =
    All-cons (λ (row : DocRow). row.table ≡ transform.target_table) (made_update way transform doc) [] refl (All-nil (λ (row : DocRow). row.table ≡ transform.target_table))
made_tables way transform doc event.Delete = on transform.delete_action
  where
    on : (action : DeleteAction) → All (λ (row : DocRow). row.table ≡ transform.target_table) (made_of_delete way transform doc action)
    on DelRow =
        All-cons (λ (row : DocRow). row.table ≡ transform.target_table) (made_delete way transform doc) [] refl (All-nil (λ (row : DocRow). row.table ≡ transform.target_table))
    on Nothing = All-nil (λ (row : DocRow). row.table ≡ transform.target_table)
    on UpdateCol =
        All-cons (λ (row : DocRow). row.table ≡ transform.target_table) (made_mark way transform doc) [] refl (All-nil (λ (row : DocRow). row.table ≡ transform.target_table))

transform_well : (config : Config) (way : Way) (doc : DocRow) (transform : TransformDef) → IsForLoad config transform
    → All (AddsWell config) (shaped_by config.tables way doc transform)
transform_well config way doc transform is =
    map_all (AddsWell config) (λ (row : DocRow). record { row = row; adds = adds_of config.tables transform doc }) (made_rows way transform doc doc.event)
    (mapped (λ (row : DocRow). row.table ≡ transform.target_table) (λ (row : DocRow). AddsWell config (record { row = row; adds = adds_of config.tables transform doc }))
    (made_rows way transform doc doc.event)
    (λ row same. subst
    (λ (name : List ℕ). All (λ (add : Add). NumberAt (columns_at config.tables (unwrap_or (table_place config.tables name) (length config.tables))) add.column) (adds_of config.tables transform doc))
    (sym same) (adds_well config transform doc is)) (made_tables way transform doc doc.event))

transforms_well : (config : Config) (way : Way) (doc : DocRow) (transforms : List TransformDef) → All (IsForLoad config) transforms
    → All (AddsWell config) (by_transforms config.tables way doc transforms)
transforms_well config way doc [] are =
    All-cons (AddsWell config) (record { row = doc; adds = [] }) [] (All-nil (λ (add : Add). NumberAt (doc_columns config.tables doc) add.column)) (All-nil (AddsWell config))
transforms_well config way doc (transform ∷ transforms) are =
    all_flat (AddsWell config) (shaped_by config.tables way doc) (transform ∷ transforms)
    (mapped (IsForLoad config) (λ (t : TransformDef). All (AddsWell config) (shaped_by config.tables way doc t)) (transform ∷ transforms)
    (λ t is. transform_well config way doc t is) are)

shaped_well : (config : Config) (way : Way) (doc : DocRow) → IsSound config → All (AddsWell config) (shaped_rows config way doc)
shaped_well config way doc sound =
    transforms_well config way doc (transforms_for config way Load doc.table)
    (λ k d within. record {
      sound = filter_all (IsTransform config) (is_meant config way Load doc.table) config.transforms sound.transforms.each k d within;
      load = is_load _ (and_left _ _ (passes (is_meant config way Load doc.table) config.transforms k d within));
    })

-- BATCHES. Each row that is read of a document
abbrev Reads : Config → Result LoadRow (ℕ × Rule) → Type 0
Reads config reading = (row : LoadRow) → reading ≡ Ok row → is_spelt_row row ≡ true → IsRead config.tables row

reading_well : (config : Config) (form : Binary) (number : ℕ) (made : Shaped) → IsSound config → AddsWell config made → Reads config (reading_of config form number made)
reading_well config form number made sound well row is spelt = on (row_of config.tables form number made.row made.adds) refl is
  where
    on : (r : Result LoadRow Rule) → row_of config.tables form number made.row made.adds ≡ r → numbered_rule number r ≡ Ok row → IsRead config.tables row
    on (Ok other) reads same = row_read config.tables form number made.row made.adds row sound.tables well (reads ∙ cc) spelt
    on (Err rule) reads same = absurd (cc)

readings_well : (config : Config) (way : Way) (doc : BatchDoc) → IsSound config → All (Reads config) (readings_of config way doc)
readings_well config way doc sound =
    all_flat (Reads config) (λ (at : ℕ × DocRow). map (reading_of config doc.binary at.0) (shaped_rows config way at.1)) (enumerate_from 1 doc.rows)
    (all_of (λ (at : ℕ × DocRow). All (Reads config) (map (reading_of config doc.binary at.0) (shaped_rows config way at.1))) (enumerate_from 1 doc.rows)
    (λ at. map_all (Reads config) (reading_of config doc.binary at.0) (shaped_rows config way at.1)
    (mapped (AddsWell config) (λ (made : Shaped). Reads config (reading_of config doc.binary at.0 made)) (shaped_rows config way at.1)
    (λ made well. reading_well config doc.binary at.0 made sound well) (shaped_well config way at.1 sound))))

oks_read : (config : Config) (readings : List (Result LoadRow (ℕ × Rule))) → All (Reads config) readings
    → All (λ (row : LoadRow). is_spelt_row row ≡ true → IsRead config.tables row) (filter_map result_ok readings)
oks_read config readings are =
    filter_map_all (λ (row : LoadRow). is_spelt_row row ≡ true → IsRead config.tables row) result_ok readings
    (mapped (Reads config) (λ (r : Result LoadRow (ℕ × Rule)). (row : LoadRow) → result_ok r ≡ Some row → is_spelt_row row ≡ true → IsRead config.tables row) readings
    (λ r reads row is. reads row (ok_is r row is)) are)
  where
    ok_is : (r : Result LoadRow (ℕ × Rule)) (row : LoadRow) → result_ok r ≡ Some row → r ≡ Ok row
    ok_is (Ok other) row is = ap Ok (same_some other row is)
    ok_is (Err why) row is = no_some row is

abbrev BodyWell : List TableDef → Body → Type 0
BodyWell defs (body.Rows rows) = All (IsRead defs) rows
BodyWell defs (body.Broken number rule) = Unit {0}

body_well : (config : Config) (broken : List (ℕ × Rule)) (rows : List LoadRow) → All (λ (row : LoadRow). is_spelt_row row ≡ true → IsRead config.tables row) rows
    → is_spelt_body (body_by broken rows) ≡ true → BodyWell config.tables (body_by broken rows)
body_well config [] rows are spelt = λ k d within. are k d within (AllPass-from_list_all is_spelt_row rows spelt k d within)
body_well config (first ∷ others) rows are spelt = tt

batch_well : (config : Config) (from : List ℕ) (batch : Prepared) → IsSound config → IsReadFrom config from batch → BodyWell config.tables batch.body
batch_well config from batch sound read =
    let same : batch.body ≡ body_of config read.way read.document = ap (λ (b : Prepared). b.body) read.read in
    let readings = readings_of config read.way read.document in
    subst (BodyWell config.tables) (sym same)
    (body_well config (filter_map result_err readings) (filter_map result_ok readings) (oks_read config readings (readings_well config read.way read.document sound))
    (sym (ap is_spelt_body same) ∙ read.spelt))

pub load_ends : (config : Config) (group : List ℕ) (waiting : ℕ) (rows : List TableRow) (from : List ℕ) (batch : Prepared) → IsSound config
    → AreTables config.tables rows → IsReadFrom config from batch → EndsIn config.tables (outcome_of_batch config group waiting rows batch)
load_ends config group waiting rows from batch sound are read = by_place batch.channel
  where
    on : (made : Body) → BodyWell config.tables made → EndsIn config.tables (by_body config group waiting rows batch made)
    on (body.Broken number rule) well = tt
    on (body.Rows made) well =
        runs_end (IsRead config.tables) config.tables (overflows config group true waiting) (batch_judge config batch)
        (λ from row tables is. resolution_well config.tables row is from tables (setting_for config batch row.table))
        (map with_number made) (map_all (λ (at : ℕ × LoadRow). IsRead config.tables at.1) with_number made well) rows are

    by_place : (channel : Option ℕ) → EndsIn config.tables (by_channel config group waiting rows batch channel)
    by_place None = tt
    by_place (Some channel) = on batch.body (batch_well config from batch sound read)

-- Worked cases: batches as a whole: who sent them, their settings, their rows' numbers, and what is
-- captured of them.
use Rattle.std.specs.Prelude.{◌≡◌, ℕ, List, pos, true, false, [], ◌∷◌, None, Some, codes}
use Rattle.sds_value.specs.declared.kind.Value.TheVariants as value
use Rattle.sds_value.specs.declared.row.DocRow.{DocRow}
use Rattle.sds_value.specs.declared.row.Event.TheVariants.{Insert}
use Rattle.sds_value.specs.declared.row.Field.TheVariants.{Text}
use Rattle.sds_types.specs.Limits.{most_unrouted_changes}
use Rattle.sds_types.specs.declared.row.RowStep.TheVariants as step
use Rattle.sds_types.specs.declared.row.TableRow.{TableRow}
use Rattle.sds_types.specs.declared.rule.Rule.TheVariants.{CaptureFull, MissingParent, MissingKey, UnknownColumn}
use Rattle.sds_types.specs.declared.transform.TransformDef.{TransformDef}
use Rattle.sds_types.specs.declared.way.Way.{Way}
use Rattle.sds_trade.specs.rules.Outcomes.{outcome_of_batch, prepared_batch}
use Rattle.sds_trade.specs.rules.Runs.{RunEnd}
use Rattle.sds_trade.specs.rules.Runs.RunEnd.{Made, Refused}
use Rattle.sds_trade.specs.worked.Entries.{number, table_row}
use Rattle.sds_trade.specs.worked.Extracting.{item_row}
use Rattle.sds_trade.specs.worked.Loading.{batch_doc, load_end, stock_insert}
use Rattle.sds_trade.specs.worked.Resolving.{sale_setting}
use Rattle.sds_trade.specs.worked.Shop.{pen, shop, stock_of, sum_column, sum_transform, way_up}
use Rattle.sds_trade.specs.worked.Tiers.{tiers_with}

-- a batch knows its sender, and the setting of each table for its way
abbrev pub BatchesAreKnown : Type 0
BatchesAreKnown = let batch = prepared_batch (record shop {
  conflicts = record (sale_setting true) { source_group = 0; target_group = 1 }
      ∷ (record (sale_setting true) { source_group = 0 }
      ∷ (record (sale_setting true) { target_group = 1 }
      ∷ (record (sale_setting true) { target_table = 0 } ∷ (sale_setting true ∷ []))));
}) way_up (batch_doc (codes "stock") []) in
    (batch.from ≡ codes "s1") × (batch.from_group ≡ codes "store") × (batch.channel ≡ Some 1)
    × (batch.settings ≡ Some 3 ∷ (None ∷ (Some 4 ∷ [])))

-- the second row is the one that is refused
abbrev pub stock_of_none : DocRow
stock_of_none =
    record (stock_insert (codes "5")) { new = Text (codes "9") ∷ (Text (codes "5") ∷ []) }

abbrev pub RowsAreNumbered : Type 0
RowsAreNumbered = load_end shop (pen ∷ [])
    (batch_doc (codes "stock") (stock_insert (codes "5") ∷ (stock_of_none ∷ [])))
    ≡ Refused 2 MissingParent

-- an insert that names other keys, or one more; where no transform has made the row's keys
abbrev pub stock_made : RunEnd
stock_made = Made (record { step = step.Insert 1 (stock_of 1 5).row; old = None } ∷ [])
    (pen ∷ (stock_of 1 5 ∷ []))

abbrev pub plain_end : DocRow → RunEnd
plain_end row = load_end (record shop { transforms = [] }) (pen ∷ [])
    (batch_doc (codes "stock") (row ∷ []))

abbrev pub Keyed : List (List ℕ) → RunEnd → Type 0
Keyed keys expected = plain_end (record (stock_insert (codes "5")) { keys = keys }) ≡ expected

abbrev pub InsertsNameKeys : Type 0
InsertsNameKeys = Keyed (codes "qty" ∷ []) (Refused 1 MissingKey)
    × Keyed (codes "item_id" ∷ (codes "qty" ∷ [])) (Refused 1 MissingKey)
    × Keyed (codes "item_id" ∷ (codes "other" ∷ [])) (Refused 1 UnknownColumn)
    × Keyed (codes "item_id" ∷ []) stock_made

-- columns may stand in any order
abbrev pub ColumnsInAnyOrder : Type 0
ColumnsInAnyOrder = plain_end (record (stock_insert (codes "5")) {
  columns = codes "qty" ∷ (codes "item_id" ∷ []);
  new = Text (codes "5") ∷ (Text (codes "1") ∷ []);
}) ≡ stock_made

-- where too many changes wait, a batch is refused where its rows would be captured again
abbrev pub way_in_tiers : Way
way_in_tiers = record {
  source = codes "s1";
  source_group = codes "store";
  target = codes "r1";
  target_group = codes "region";
}

abbrev pub tiers_stock : DocRow
tiers_stock = record (stock_insert (codes "5")) {
  keys = codes "item" ∷ [];
  columns = codes "item" ∷ (codes "qty" ∷ []);
}

abbrev pub BatchesAreCaptured : Type 0
BatchesAreCaptured =
    (outcome_of_batch (tiers_with false) (codes "region") most_unrouted_changes []
    (prepared_batch (tiers_with false) way_in_tiers (batch_doc (codes "data") (tiers_stock ∷ [])))
    ≡ Refused 1 CaptureFull)
    × (outcome_of_batch shop (codes "corp") most_unrouted_changes (pen ∷ [])
    (prepared_batch shop way_up (batch_doc (codes "stock") (stock_insert (codes "5") ∷ [])))
    ≡ stock_made)

-- prices are added in hundredths
abbrev pub price_transform : TransformDef
price_transform = record (sum_transform [] (pos 1)) {
  source_table = codes "item";
  target_table = codes "item";
  columns = record (sum_column [] (pos 1)) { target = codes "price"; source = codes "price" } ∷ [];
}

abbrev pub dear_pen : TableRow
dear_pen = table_row 0 (number 1 ∷ (value.Text (codes "Pen") ∷ (value.Decimal (pos 400) ∷ [])))

abbrev pub PricesAreAdded : Type 0
PricesAreAdded = load_end (record shop { transforms = price_transform ∷ [] }) (pen ∷ [])
    (batch_doc (codes "item") (item_row Insert (Text (codes "1") ∷ (Text (codes "Pen")
    ∷ (Text (codes "1.5") ∷ []))) [] None ∷ []))
    ≡ Made (record {
      step = step.Update 0 (record { 0 = number 1 ∷ [] }) dear_pen.row;
      old = Some pen.row;
    } ∷ []) (dear_pen ∷ [])

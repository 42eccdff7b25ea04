-- Worked cases: own writes that take rows away, where others refer to some of them.
use Rattle.std.specs.Prelude.{◌≡◌, pos, ℕ, List, [], ◌∷◌, Some, codes}
use Rattle.sds_value.specs.declared.kind.Value.TheVariants as value
use Rattle.sds_value.specs.declared.row.Event.TheVariants.{Delete, Update}
use Rattle.sds_value.specs.declared.row.Field.TheVariants.{Null, Text}
use Rattle.sds_types.specs.declared.row.RowStep.TheVariants as step
use Rattle.sds_types.specs.declared.row.TableRow.{TableRow}
use Rattle.sds_types.specs.declared.rule.Rule.TheVariants.{HasChildren, RowMissing}
use Rattle.sds_types.specs.declared.tx_row.TxRow.{TxRow}
use Rattle.sds_trade.specs.rules.Captured.{Done}
use Rattle.sds_trade.specs.rules.OwnWrites.{outcome_of_write}
use Rattle.sds_trade.specs.rules.Runs.{RunEnd}
use Rattle.sds_trade.specs.rules.Runs.RunEnd.{Made, Refused}
use Rattle.sds_trade.specs.worked.Entries.{number, table_row}
use Rattle.sds_trade.specs.worked.Shop.{shop, pen, sale_a, stock_of}
use Rattle.sds_trade.specs.worked.Writes.{cap, own_row}

-- two items stand, the first of which is stocked and was sold
abbrev pub two_items : List TableRow
two_items = pen ∷ (cap ∷ (stock_of 1 5 ∷ (sale_a ∷ [])))

abbrev pub Ends : TxRow → RunEnd → Type 0
Ends row expected = outcome_of_write shop (codes "corp") 0 two_items (row ∷ []) ≡ expected

abbrev pub delete_row : List ℕ → List ℕ → TxRow
delete_row table key = own_row Delete table (Text key ∷ [])

abbrev pub deleted : ℕ → ℕ → TableRow → Done
deleted table id row =
    record { step = step.Delete table (record { 0 = number id ∷ [] }); old = Some row.row }

-- the second item may go, the first may not
abbrev pub OthersMayGo : Type 0
OthersMayGo =
    Ends (delete_row (codes "item") (codes "2"))
    (Made (deleted 0 2 cap ∷ []) (pen ∷ (stock_of 1 5 ∷ (sale_a ∷ []))))
    × Ends (delete_row (codes "item") (codes "1")) (Refused 1 HasChildren)

-- a sale of item 1 doesn't refer to its stock, whose key is 1 too
abbrev pub TablesAreApart : Type 0
TablesAreApart = Ends (delete_row (codes "stock") (codes "1"))
    (Made (deleted 1 1 (stock_of 1 5) ∷ []) (pen ∷ (cap ∷ (sale_a ∷ []))))

-- a delete that names no row, and an update that does so with a null that is allowed
abbrev pub MissingIsMissing : Type 0
MissingIsMissing = Ends (delete_row (codes "item") (codes "99")) (Refused 1 RowMissing)
    × Ends (own_row Update (codes "item")
    (Text (codes "99") ∷ (Text (codes "price") ∷ (Null ∷ []))))
    (Refused 1 RowMissing)

-- an item that was sold may change but for its key
abbrev pub cheap_pen : TableRow
cheap_pen = table_row 0 (number 1 ∷ (value.Text (codes "Nib") ∷ (value.Decimal (pos 5) ∷ [])))

abbrev pub SoldMayChange : Type 0
SoldMayChange = Ends (own_row Update (codes "item")
    (Text (codes "1") ∷ (Text (codes "price") ∷ (Text (codes "0.05")
    ∷ (Text (codes "name") ∷ (Text (codes "Nib") ∷ []))))))
    (Made (record {
      step = step.Update 0 (record { 0 = number 1 ∷ [] }) cheap_pen.row;
      old = Some pen.row;
    } ∷ []) (cheap_pen ∷ (cap ∷ (stock_of 1 5 ∷ (sale_a ∷ [])))))

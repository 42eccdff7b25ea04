-- Worked cases: a node that has all the rows it may have, and one where too many changes wait.
use Rattle.std.specs.Prelude.{◌≡◌, ℕ, ◌+◌, true, false, List, [], ◌∷◌, length, None, codes}
use Rattle.sds_value.specs.declared.row.Event.TheVariants.{Insert}
use Rattle.sds_value.specs.declared.row.Field.TheVariants.{Null, Text}
use Rattle.sds_types.specs.Limits.{most_rows, most_unrouted_changes}
use Rattle.sds_types.specs.declared.row.RowStep.TheVariants as step
use Rattle.sds_types.specs.declared.row.TableRow.{TableRow}
use Rattle.sds_types.specs.declared.rule.Rule.TheVariants.{CaptureFull}
use Rattle.sds_types.specs.declared.tx_row.TxRow.{TxRow}
use Rattle.sds_trade.specs.rules.OwnWrites.{outcome_of_write}
use Rattle.sds_trade.specs.rules.Runs.{RunEnd}
use Rattle.sds_trade.specs.rules.Runs.RunEnd.{Made, Refused}
use Rattle.sds_trade.specs.rules.StepRules.{overfills}
use Rattle.sds_trade.specs.worked.Shop.{shop, pen, stock_of}
use Rattle.sds_trade.specs.worked.Writes.{own_row, insert_item}

-- an insert where as many rows stand as may, and where one more may
abbrev pub FullRefuses : Type 0
FullRefuses = (rows : List TableRow) → length rows ≡ most_rows
    → overfills rows (step.Insert 0 pen.row) ≡ true

abbrev pub NearlyFullTakes : Type 0
NearlyFullTakes = (rows : List TableRow) → length rows + 1 ≡ most_rows
    → overfills rows (step.Insert 0 pen.row) ≡ false

-- where too many changes wait, corp's item is captured and refused, and its stock is not captured
abbrev pub waiting_ends : ℕ → TxRow → RunEnd
waiting_ends waiting row = outcome_of_write shop (codes "corp") waiting (pen ∷ []) (row ∷ [])

abbrev pub insert_stock : TxRow
insert_stock = own_row Insert (codes "stock") (Text (codes "1") ∷ (Text (codes "5") ∷ []))

abbrev pub CaptureIsFull : Type 0
CaptureIsFull = waiting_ends most_unrouted_changes
    (insert_item (Text (codes "2")) (Text (codes "Cap")) Null) ≡ Refused 1 CaptureFull

abbrev pub UncapturedIsTaken : Type 0
UncapturedIsTaken = waiting_ends most_unrouted_changes insert_stock
    ≡ Made (record { step = step.Insert 1 (stock_of 1 5).row; old = None } ∷ [])
    (pen ∷ (stock_of 1 5 ∷ []))

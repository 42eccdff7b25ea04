-- The rows of an own write among the lines of a scenario.
use Rattle.std.specs.Prelude.{ℕ, if◌then◌else◌, codes, List, ◌∷◌, Option, None, Some, option_map}
use Rattle.sds_value.specs.declared.row.Event.{Event}
use Rattle.sds_value.specs.declared.row.Event.TheVariants.{Insert, Update, Delete}
use Rattle.sds_value.specs.declared.row.Field.{Field}
use Rattle.sds_value.specs.declared.row.Field.TheVariants.{Text}
use Rattle.sds_types.specs.declared.tx_row.TxRow.{TxRow}
use Rattle.sds_scenario.specs.Words.{is_word}

-- the event that a directive names
abbrev pub event_named : Field → Option Event
event_named word =
    if is_word word (codes "insert") then Some Insert
    else (if is_word word (codes "update") then Some Update
    else (if is_word word (codes "delete") then Some Delete else None))

abbrev pub row_in : List ℕ → List Field → Event → TxRow
row_in table fields event = record { event = event; table = table; fields = fields }

-- `insert`, `update` or `delete`, a table, and its fields. The table is any text but null: whether
-- it names one is judged by the rules on rows
abbrev pub row_line : List Field → Option TxRow
row_line (word ∷ (Text table ∷ fields)) = option_map (row_in table fields) (event_named word)
row_line fields = None

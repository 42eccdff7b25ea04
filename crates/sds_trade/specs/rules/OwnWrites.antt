-- Own writes: their rows as texts, what each does, and how the whole write ends.
use Rattle.std.specs.Prelude.{ℕ, Bool, false, ◌&&◌, List, [], ◌∷◌, map, length, take, drop, Option, None, Some, unwrap_or, Result, Ok, Err}
use Rattle.std.specs.List.{enumerate_from, find, list_any}
use Rattle.sds_value.specs.declared.kind.Binary.TheVariants.{Base64}
use Rattle.sds_value.specs.declared.row.DocRow.{DocRow}
use Rattle.sds_value.specs.declared.row.Event.{Event}
use Rattle.sds_value.specs.declared.row.Event.TheVariants.{Insert, Update, Delete}
use Rattle.sds_value.specs.declared.row.Field.{Field}
use Rattle.sds_value.specs.declared.row.Field.TheVariants.{Null, Text}
use Rattle.sds_value.specs.declared.table.ColumnDef.{ColumnDef}
use Rattle.sds_value.specs.declared.table.TableDef.{TableDef}
use Rattle.sds_types.specs.declared.config.Config.{Config}
use Rattle.sds_types.specs.declared.conflict.Resolution.{Resolution}
use Rattle.sds_types.specs.declared.conflict.Resolution.TheVariants.{Apply, Broken}
use Rattle.sds_types.specs.declared.load_row.LoadRow.{LoadRow}
use Rattle.sds_types.specs.declared.row.Row.{Row}
use Rattle.sds_types.specs.declared.row.RowStep.TheVariants as step
use Rattle.sds_types.specs.declared.row.TableRow.{TableRow}
use Rattle.sds_types.specs.declared.rule.Rule.{Rule}
use Rattle.sds_types.specs.declared.rule.Rule.TheVariants.{NullNotAllowed, DuplicateKey, RowMissing}
use Rattle.sds_types.specs.declared.tx_row.TxRow.{TxRow}
use Rattle.sds_trade.specs.rules.Captured.{overflows}
use Rattle.sds_trade.specs.rules.LoadRows.{row_of}
use Rattle.sds_trade.specs.rules.Places.{columns_at, key_names, table_place}
use Rattle.sds_trade.specs.rules.RowValues.{gives, new_value, new_key, inserted_row, updated_row}
use Rattle.sds_trade.specs.rules.Runs.{RunEnd, run}
use Rattle.sds_trade.specs.rules.Tables.{is_null, has_row, row_at}

-- the fields at even places, and so those at odd places of a list without its first
abbrev pub every_other : List Field → List Field
every_other [] = []
every_other (field ∷ []) = field ∷ []
every_other (field ∷ (next ∷ fields)) = field ∷ every_other fields

-- a field as the name of a column; null is the empty text, which names none
abbrev pub name_in : Field → List ℕ
name_in Null = []
name_in (Text text) = text

-- an own row as a row of texts. An insert has a field for each column of the table. An update has
-- one for each key column, then pairs of a column's name and a value. A delete has the key alone
abbrev pub own_doc : List (List ℕ) → List (List ℕ) → TxRow → Event → DocRow
own_doc columns keys row Insert = record {
  event = Insert;
  table = row.table;
  keys = keys;
  columns = columns;
  new = row.fields;
  key = [];
  old = None;
}
own_doc columns keys row Update = let pairs = drop (length keys) row.fields in record {
  event = Update;
  table = row.table;
  keys = keys;
  columns = map name_in (every_other pairs);
  new = every_other (drop 1 pairs);
  key = take (length keys) row.fields;
  old = None;
}
own_doc columns keys row Delete = record {
  event = Delete;
  table = row.table;
  keys = keys;
  columns = [];
  new = [];
  key = row.fields;
  old = None;
}

-- an own row as a row of texts for its table
abbrev pub doc_of : List TableDef → TxRow → DocRow
doc_of defs row =
    let table = unwrap_or (table_place defs row.table) (length defs) in
    own_doc (map (λ (column : ColumnDef). column.name) (columns_at defs table))
    (key_names defs table) row row.event

-- an update that names no row has no whole new row. It breaks a rule by a null that it gives to a
-- column that doesn't allow it, else by a new key that a row has, else in that its row is missing
abbrev pub gives_null : LoadRow → ℕ × ColumnDef → Bool
gives_null row at = at.1.not_null && (gives row at.0 && is_null (new_value row at.0))

abbrev pub unseen_breaks : List TableDef → List TableRow → LoadRow → Rule → Bool
unseen_breaks defs rows row NullNotAllowed =
    list_any (gives_null row) (enumerate_from 0 (columns_at defs row.table))
unseen_breaks defs rows row DuplicateKey = has_row defs rows row.table (new_key defs row)
unseen_breaks defs rows row other = false

abbrev pub unseen_update : List TableDef → List TableRow → LoadRow → Rule
unseen_update defs rows row =
    unwrap_or (find (unseen_breaks defs rows row) (NullNotAllowed ∷ (DuplicateKey ∷ [])))
    RowMissing

-- the update of a row that stands, or that doesn't
abbrev pub own_update : List TableDef → List TableRow → LoadRow → Option Row → Resolution
own_update defs rows row None = Broken (unseen_update defs rows row)
own_update defs rows row (Some kept) =
    Apply (step.Update row.table row.key (updated_row defs row kept))

abbrev pub own_step : List TableDef → List TableRow → LoadRow → Event → Resolution
own_step defs rows row Insert = Apply (step.Insert row.table (inserted_row defs row))
own_step defs rows row Update = own_update defs rows row (row_at defs rows row.table row.key)
own_step defs rows row Delete = Apply (step.Delete row.table row.key)

-- what an own row asks for where certain rows stand; its number is told by the run
abbrev pub by_texts : List TableDef → List TableRow → Result LoadRow Rule → Resolution
by_texts defs rows (Err rule) = Broken rule
by_texts defs rows (Ok row) = own_step defs rows row row.event

abbrev pub own_judge : List TableDef → List TableRow → TxRow → Resolution
own_judge defs rows row = by_texts defs rows (row_of defs Base64 0 (doc_of defs row) [])

-- how an own write at a node of a group ends, where so many changes wait to be routed
abbrev pub outcome_of_write : Config → List ℕ → ℕ → List TableRow → List TxRow → RunEnd
outcome_of_write config group waiting rows tx =
    run config.tables (overflows config group false waiting) (own_judge config.tables)
    rows (enumerate_from 1 tx)

-- Which documents of a node have a written form: those of all its batches.
use Rattle.std.specs.Prelude.{◌≡◌, ℕ, ◌≤◌, Bool, ◌||◌, IsTrue, length, map, IsSomeAnd}
use Rattle.std.specs.List.{All, filter}
use Rattle.std.specs.Str.{all_scalars}
use Rattle.sds_value.specs.declared.table.TableDef.{TableDef}
use Rattle.sds_types.specs.declared.batch.OutBatch.{OutBatch}
use Rattle.sds_types.specs.declared.config.Config.{Config}
use Rattle.sds_types.specs.declared.transform.ColumnPolicy.TheVariants.{Implied}
use Rattle.sds_types.specs.declared.transform.Point.TheVariants.{Extract}
use Rattle.sds_types.specs.declared.transform.TransformDef.{TransformDef}
use Rattle.sds_types.specs.declared.transform_column.TransformColumn.{TransformColumn}
use Rattle.sds_batchtext.specs.Writable.{is_writable, is_batch_text}
use Rattle.sds_trade.specs.rules.Places.{column_name, is_among, table_named}
use Rattle.sds_trade.specs.rules.Sound.{IsSound}
use Rattle.sds_history.specs.history.Acts.{State}
use Rattle.sds_history.specs.history.Documents.{doc_of_batch}
use Rattle.sds_history.specs.history.SoundStates.{IsSoundState}

-- the expressions of a transform's columns are made of characters, as all texts of a file are
abbrev pub IsOfCharacters : TransformDef → Type 0
IsOfCharacters transform =
    All (λ (column : TransformColumn). IsTrue (all_scalars column.expression)) transform.columns

-- a column is for a key of the made row: it is one, or its target is a key column of the source
abbrev pub is_for_key : TableDef → TransformColumn → Bool
is_for_key def column =
    column.pk || is_among (map (column_name def.columns) def.key) column.target

-- Columns for keys, of a transform of the implied policy that is made as a batch is written. The
-- new values and the old key of an update stand in one line, each with the source's columns beside
-- the made ones. Where 62 of 64 columns are for keys and each makes 2,000 characters of 4 bytes,
-- such a line can be longer than 1,048,576 bytes; with 61 it never is.
abbrev pub most_key_columns : ℕ
most_key_columns = 61

abbrev pub HasFewKeys : Config → TransformDef → Type 0
HasFewKeys config transform = transform.point ≡ Extract → transform.column_policy ≡ Implied
    → IsSomeAnd (table_named config.tables transform.source_table) (λ (def : TableDef).
    length (filter (is_for_key def) transform.columns) ≤ most_key_columns)

-- the document of each batch has a written form that reads back
abbrev pub DocumentsAreWritable : Type 0
DocumentsAreWritable = (config : Config) (state : State) → IsSound config
    → All IsOfCharacters config.transforms → All (HasFewKeys config) config.transforms
    → IsSoundState config state
    → All (λ (batch : OutBatch). IsTrue (is_writable (doc_of_batch config state batch))
    × IsTrue (is_batch_text (doc_of_batch config state batch))) state.batches

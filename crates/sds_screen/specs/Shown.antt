-- The tables of a node as a person sees them, and the bytes of a message.
use Rattle.std.specs.Prelude.{ℕ, ◌==◌, List, ◌++◌, map, codes}
use Rattle.std.specs.List.{enumerate_from, filter, flat_map}
use Rattle.std.specs.Str.{encode_utf8_all}
use Rattle.sds_batchtext.specs.Writing.{text_of}
use Rattle.sds_line.specs.Written.{written_line}
use Rattle.sds_value.specs.declared.table.ColumnDef.{ColumnDef}
use Rattle.sds_value.specs.declared.table.TableDef.{TableDef}
use Rattle.sds_types.specs.declared.config.Config.{Config}
use Rattle.sds_types.specs.declared.document.BatchDoc.{BatchDoc}
use Rattle.sds_types.specs.declared.message.Message.{Message}
use Rattle.sds_types.specs.declared.row.TableRow.{TableRow}
use Rattle.sds_history.specs.history.Acts.{State}
use Rattle.sds_history.specs.history.Documents.{doc_of_batch}
use Rattle.sds_history.specs.history.Messages.{batches_in_parts}
use Rattle.sds_history.specs.history.RowRecords.{row_fields}

-- a row: its values as they are printed
abbrev pub row_text : List ColumnDef → TableRow → List ℕ
row_text columns row = written_line (row_fields columns row.row.0) ++ codes "\n"

-- a table: its name, then its rows by key
abbrev pub table_text : List TableRow → ℕ × TableDef → List ℕ
table_text rows at = codes "table " ++ (encode_utf8_all at.1.name ++ (codes "\n"
    ++ flat_map (row_text at.1.columns)
    (filter (λ (row : TableRow). row.table == at.0) rows)))

abbrev pub tables_text : Config → State → List ℕ
tables_text config state =
    flat_map (table_text state.tables) (enumerate_from 0 config.tables)

-- a message: its batches as one document of the sender
abbrev pub message_docs : Config → State → Message → List BatchDoc
message_docs config sender message =
    map (doc_of_batch config sender) (batches_in_parts sender message.to message.parts)

abbrev pub message_text : Config → State → Message → List ℕ
message_text config sender message = text_of sender.me.id (message_docs config sender message)

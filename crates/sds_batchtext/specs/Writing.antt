-- The written form of a document: its lines, each with a line feed.
use Rattle.std.specs.Prelude.{ℕ, Bool, ◌&&◌, true, false, if◌then◌else◌, List, [], ◌∷◌, ◌++◌, codes, Option, Some, None}
use Rattle.std.specs.Fmt.{decimal}
use Rattle.std.specs.Str.{bytes_eq, encode_utf8_all}
use Rattle.sds_line.specs.Written.{written_line}
use Rattle.sds_types.specs.declared.document.BatchDoc.{BatchDoc}
use Rattle.sds_value.specs.declared.row.DocRow.{DocRow}
use Rattle.sds_value.specs.declared.row.Event.{Event}
use Rattle.sds_value.specs.declared.row.Event.TheVariants as event
use Rattle.sds_value.specs.declared.row.Field.{Field}

-- the lines, each with a line feed (10)
abbrev pub text_of_lines : List (List ℕ) → List ℕ
text_of_lines [] = []
text_of_lines (line ∷ lines) = line ++ 10 ∷ text_of_lines lines

-- a directive and a name, a number, or names, which are plain
abbrev pub name_line : List ℕ → List ℕ → List ℕ
name_line word name = word ++ encode_utf8_all name

abbrev pub number_line : List ℕ → ℕ → List ℕ
number_line word number = word ++ decimal number

abbrev pub further_names : List (List ℕ) → List ℕ
further_names [] = []
further_names (name ∷ names) = 44 ∷ (encode_utf8_all name ++ further_names names)

abbrev pub names_line : List ℕ → List (List ℕ) → List ℕ
names_line word names = word ++ further_names names

-- a directive and values, each null or in quotes
abbrev pub values_line : List ℕ → List Field → List ℕ
values_line word values = word ++ written_line values

-- the lines of a row: the old row where there is one, and the row
abbrev pub old_lines : Option (List Field) → List (List ℕ)
old_lines None = []
old_lines (Some values) = values_line (codes "old,") values ∷ []

abbrev pub event_line : Event → DocRow → List ℕ
event_line event.Insert row = values_line (codes "insert,") row.new
event_line event.Update row = codes "update," ++ (written_line row.new ++ 44 ∷ written_line row.key)
event_line event.Delete row = values_line (codes "delete,") row.key

abbrev pub row_lines : DocRow → List (List ℕ)
row_lines row = old_lines row.old ++ event_line row.event row ∷ []

-- the table of a row, its keys and its columns
abbrev pub heading_lines : DocRow → List (List ℕ)
heading_lines row =
    name_line (codes "table,") row.table
    ∷ (names_line (codes "keys") row.keys ∷ (names_line (codes "columns") row.columns ∷ []))

abbrev pub same_names : List (List ℕ) → List (List ℕ) → Bool
same_names [] [] = true
same_names [] (name ∷ names) = false
same_names (name ∷ names) [] = false
same_names (name ∷ names) (other ∷ others) = bytes_eq name other && same_names names others

abbrev pub same_heading : DocRow → DocRow → Bool
same_heading before row = bytes_eq before.table row.table && (same_names before.keys row.keys
    && same_names before.columns row.columns)

-- the heading stands before a row whose heading differs from that of the row before
abbrev pub heading_after : DocRow → DocRow → List (List ℕ)
heading_after before row = if same_heading before row then [] else heading_lines row

-- the lines of rows after another row
abbrev pub later_lines : DocRow → List DocRow → List (List ℕ)
later_lines before [] = []
later_lines before (row ∷ rows) =
    heading_after before row ++ (row_lines row ++ later_lines row rows)

abbrev pub lines_of_rows : List DocRow → List (List ℕ)
lines_of_rows [] = []
lines_of_rows (row ∷ rows) = heading_lines row ++ (row_lines row ++ later_lines row rows)

abbrev pub lines_of_batch : BatchDoc → List (List ℕ)
lines_of_batch batch =
    name_line (codes "channel,") batch.channel
    ∷ (number_line (codes "batch,") batch.batch
    ∷ (lines_of_rows batch.rows ++ number_line (codes "commit,") batch.batch ∷ []))

abbrev pub lines_of_batches : List BatchDoc → List (List ℕ)
lines_of_batches [] = []
lines_of_batches (batch ∷ batches) = lines_of_batch batch ++ lines_of_batches batches

-- the lines before the batches: the node, and that bytes are written in base64
abbrev pub head_lines : List ℕ → List (List ℕ)
head_lines node = name_line (codes "nodeid,") node ∷ (codes "binary,BASE64" ∷ [])

-- the text of the head, and of a batch
abbrev pub head_text : List ℕ → List ℕ
head_text node = text_of_lines (head_lines node)

abbrev pub batch_text : BatchDoc → List ℕ
batch_text batch = text_of_lines (lines_of_batch batch)

-- The written form of a document of this node with these batches.
abbrev pub text_of : List ℕ → List BatchDoc → List ℕ
text_of node batches = text_of_lines (head_lines node ++ lines_of_batches batches)

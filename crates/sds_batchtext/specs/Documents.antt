-- What a document gives: its whole batches, and how it ends.
use Rattle.std.specs.Prelude.{ℕ, Bool, false, true, is_some, ◌||◌, if◌then◌else◌, List, [], ◌∷◌, ◌++◌, length, take, drop, Option, Some, None}
use Rattle.sds_line.specs.Splitting.{lines_in}
use Rattle.sds_line.specs.declared.refusal.LineRefusal.{LineRefusal}
use Rattle.sds_types.specs.declared.document.BatchDoc.{BatchDoc}
use Rattle.sds_types.specs.declared.document.DocumentCause.TheVariants.{BadLine, Unfinished}
use Rattle.sds_types.specs.declared.document.End.{End}
use Rattle.sds_types.specs.declared.document.End.TheVariants.{Clean, Broken}
use Rattle.sds_value.specs.declared.row.DocRow.{DocRow}
use Rattle.sds_value.specs.declared.row.Event.{Event}
use Rattle.sds_value.specs.declared.row.Event.TheVariants as event
use Rattle.sds_value.specs.declared.row.Field.{Field}
use Rattle.sds_batchtext.specs.declared.doc_line.DocLine.{DocLine}
use Rattle.sds_batchtext.specs.declared.doc_line.DocLine.TheVariants.{Batch, Insert, Update, Delete, Commit}
use Rattle.sds_batchtext.specs.declared.heading.Heading.{Heading}
use Rattle.sds_batchtext.specs.declared.doc_line.NodeLine.{NodeLine}
use Rattle.sds_batchtext.specs.LookingBack.{node_of, binary_of, channel_of, is_open, heading_of, pending_old}
use Rattle.sds_batchtext.specs.Judging.{given, lines_said, broken_line}

-- the text where it is given
abbrev pub given_text : Option (List ℕ) → List ℕ
given_text None = []
given_text (Some text) = text

-- a row of the current table
abbrev pub row_of : Heading → Event → List Field → List Field → Option (List Field) → DocRow
row_of heading kind new key old = record {
  event = kind;
  table = given_text heading.table;
  keys = given heading.keys;
  columns = given heading.columns;
  new = new;
  key = key;
  old = old;
}

-- the row that a line gives, under this heading and with this old row
abbrev pub row_said : Heading → Option (List Field) → DocLine → Option DocRow
row_said heading old (Insert values) = Some (row_of heading event.Insert values [] None)
row_said heading old (Update values) =
    Some (row_of heading event.Update (take (length (given heading.columns)) values)
    (drop (length (given heading.columns)) values) old)
row_said heading old (Delete values) = Some (row_of heading event.Delete [] values old)
row_said heading old line = None

-- these and one more, if there is one
abbrev pub and_one : {A : Type 0} → List A → Option A → List A
and_one things None = things
and_one things (Some thing) = things ++ thing ∷ []

-- the rows of the batch so far: those after its `batch` line
abbrev pub rows_of : List DocLine → List DocRow
rows_of [] = []
rows_of (Batch id ∷ older) = []
rows_of (Commit id ∷ older) = []
rows_of (line ∷ older) =
    and_one (rows_of older) (row_said (heading_of older) (pending_old older) line)

-- the batch that a `commit` line ends
abbrev pub batch_said : List DocLine → DocLine → Option BatchDoc
batch_said older (Commit id) = Some (record {
  channel = given_text (channel_of older);
  batch = id;
  binary = binary_of older;
  rows = rows_of older;
})
batch_said older line = None

-- the whole batches, in order
abbrev pub batches_of : List DocLine → List BatchDoc
batches_of [] = []
batches_of (line ∷ older) = and_one (batches_of older) (batch_said older line)

-- what the lines of a text say, up to the first that may not stand
abbrev pub said_in : Bool → List ℕ → List DocLine
said_in finished text = lines_said [] (lines_in finished text).lines

-- a line that is no line of fields is the last of those that are read
abbrev pub bad_line : Option LineRefusal → ℕ → Option End
bad_line None number = None
bad_line (Some refusal) number = Some (Broken number BadLine)

abbrev pub first_end : Option End → Option End → Option End
first_end (Some first) second = Some first
first_end None second = second

-- the first line of a text that breaks it, so far
abbrev pub broken_in : Bool → List ℕ → Option End
broken_in finished text =
    first_end (broken_line [] (lines_in finished text).lines)
    (bad_line (lines_in finished text).stop (lines_in finished text).last.number)

-- A document ends inside a batch, or after an old row that waits; the line is the one that would
-- begin after its last.
abbrev pub is_unfinished : List DocLine → Bool
is_unfinished older = is_open older || is_some (pending_old older)

abbrev pub last_end : Bool → ℕ → End
last_end unfinished number = if unfinished then Broken number Unfinished else Clean

-- how a text ends that is broken nowhere, or where it is broken first
abbrev pub end_or : Option End → End → End
end_or (Some first) last = first
end_or None last = last

abbrev pub end_of : List ℕ → End
end_of text =
    end_or (broken_in true text)
    (last_end (is_unfinished (said_in true text)) (lines_in true text).last.number)

-- what a reader of a text, whole or so far, has found of its end
abbrev pub end_in : Bool → List ℕ → Option End
end_in true text = Some (end_of text)
end_in false text = broken_in false text

-- the batches of a text, whole or so far, and its node
abbrev pub batches_in : Bool → List ℕ → List BatchDoc
batches_in finished text = batches_of (said_in finished text)

abbrev pub node_in : Bool → List ℕ → Option NodeLine
node_in finished text = node_of (said_in finished text)

abbrev pub node : List ℕ → Option NodeLine
node text = node_in true text

-- A document: the whole batches before the first line that may not stand, and the end.
pub record Document : Type 0 where
  pub batches : List BatchDoc
  pub ending : End

abbrev pub document_of : List ℕ → Document
document_of text = record { batches = batches_in true text; ending = end_of text }

-- What the lines before a place of a document say of that place, the newest line first.
use Rattle.std.specs.Prelude.{ℕ, ◌+◌, Bool, false, nat_lt, if◌then◌else◌, List, [], ◌∷◌, Option, Some, None}
use Rattle.std.specs.Str.{bytes_eq}
use Rattle.sds_value.specs.declared.kind.Binary.{Binary}
use Rattle.sds_value.specs.declared.kind.Binary.TheVariants.{Base64}
use Rattle.sds_value.specs.declared.row.Field.{Field}
use Rattle.sds_batchtext.specs.declared.doc_line.DocLine.{DocLine}
use Rattle.sds_batchtext.specs.declared.doc_line.DocLine.TheVariants.{NodeId, Binary as BinaryForm, Channel, Batch, Table, Keys, Columns, Old, Commit, Skipped}
use Rattle.sds_batchtext.specs.declared.heading.Heading.{Heading}
use Rattle.sds_batchtext.specs.declared.doc_line.NodeLine.{NodeLine}

-- the node of the `nodeid` line
abbrev pub node_of : List DocLine → Option NodeLine
node_of [] = None
node_of (NodeId node ∷ older) = Some node
node_of (line ∷ older) = node_of older

-- the form of the last `binary` line: base64 without one
abbrev pub binary_of : List DocLine → Binary
binary_of [] = Base64
binary_of (BinaryForm binary ∷ older) = binary
binary_of (line ∷ older) = binary_of older

-- the channel of the last `channel` line
abbrev pub channel_of : List DocLine → Option (List ℕ)
channel_of [] = None
channel_of (Channel name ∷ older) = Some name
channel_of (line ∷ older) = channel_of older

-- a batch is open where more `batch` than `commit` lines stand before
abbrev pub batch_lines : List DocLine → ℕ
batch_lines [] = 0
batch_lines (Batch id ∷ older) = batch_lines older + 1
batch_lines (line ∷ older) = batch_lines older

abbrev pub commit_lines : List DocLine → ℕ
commit_lines [] = 0
commit_lines (Commit id ∷ older) = commit_lines older + 1
commit_lines (line ∷ older) = commit_lines older

abbrev pub is_open : List DocLine → Bool
is_open older = nat_lt (commit_lines older) (batch_lines older)

-- the id of the last `batch` line
abbrev pub last_batch : List DocLine → Option ℕ
last_batch [] = None
last_batch (Batch id ∷ older) = Some id
last_batch (line ∷ older) = last_batch older

-- the current table: that of the batch's last `table` line
abbrev pub table_of : List DocLine → Option (List ℕ)
table_of [] = None
table_of (Batch id ∷ older) = None
table_of (Commit id ∷ older) = None
table_of (Table name ∷ older) = Some name
table_of (line ∷ older) = table_of older

-- it is this table
abbrev pub is_at : Option (List ℕ) → List ℕ → Bool
is_at None table = false
is_at (Some name) table = bytes_eq name table

-- a table's keys: those of the last `keys` line that stands where the table is the current one, in
-- any batch
abbrev pub keys_of : List ℕ → List DocLine → Option (List (List ℕ))
keys_of table [] = None
keys_of table (Keys names ∷ older) =
    if is_at (table_of older) table then Some names else keys_of table older
keys_of table (line ∷ older) = keys_of table older

-- its columns likewise
abbrev pub columns_of : List ℕ → List DocLine → Option (List (List ℕ))
columns_of table [] = None
columns_of table (Columns names ∷ older) =
    if is_at (table_of older) table then Some names else columns_of table older
columns_of table (line ∷ older) = columns_of table older

-- the current table with its keys and columns
abbrev pub heading_at : Option (List ℕ) → List DocLine → Heading
heading_at None older = record { table = None; keys = None; columns = None }
heading_at (Some table) older =
    record { table = Some table; keys = keys_of table older; columns = columns_of table older }

abbrev pub heading_of : List DocLine → Heading
heading_of older = heading_at (table_of older) older

-- the old row that waits for its update or delete: that of an `old` line after which only skipped
-- lines stand
abbrev pub pending_old : List DocLine → Option (List Field)
pending_old [] = None
pending_old (Skipped ∷ older) = pending_old older
pending_old (Old values ∷ older) = Some values
pending_old (line ∷ older) = None

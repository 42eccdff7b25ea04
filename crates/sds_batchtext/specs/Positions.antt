-- What is kept of the lines of a document that were read.
use Rattle.std.specs.Prelude.{◌≡◌, ℕ, ◌+◌, Bool, true, false, if◌then◌else◌, List, [], ◌∷◌, Option, Some, None, Result, Ok, Err, IfSome}
use Rattle.std.specs.Str.{bytes_eq}
use Rattle.sds_types.specs.declared.document.BatchDoc.{BatchDoc}
use Rattle.sds_types.specs.declared.document.DocumentCause.{DocumentCause}
use Rattle.sds_batchtext.specs.declared.doc_line.DocLine.{DocLine}
use Rattle.sds_batchtext.specs.declared.doc_line.DocLine.TheVariants.{Commit, Skipped}
use Rattle.sds_batchtext.specs.declared.position.Position.{Position}
use Rattle.sds_batchtext.specs.declared.table_names.TableNames.{TableNames}
use Rattle.sds_batchtext.specs.Documents.{and_one, batch_said, rows_of}
use Rattle.sds_batchtext.specs.LookingBack.{node_of, binary_of, channel_of, batch_lines, commit_lines, last_batch, keys_of, columns_of, heading_of, pending_old}

-- the names of a table in a list of tables' names: those of its first entry
abbrev pub names_at : List ℕ → List TableNames → Option (List (List ℕ))
names_at table [] = None
names_at table (entry ∷ entries) =
    if bytes_eq entry.table table then Some entry.names else names_at table entries

-- how many batches are open
abbrev pub opened : Option ℕ → ℕ
opened None = 0
opened (Some id) = 1

-- The position is that after these lines, the newest first: what it keeps is what looking back
-- gives.
pub record IsPositionAfter (older : List DocLine) (position : Position) : Type 0 where
  pub node : position.node ≡ node_of older
  pub binary : position.binary ≡ binary_of older
  pub channel : position.channel ≡ channel_of older
  pub count : batch_lines older ≡ commit_lines older + opened position.batch
  pub batch : IfSome position.batch (λ id. last_batch older ≡ Some id)
  pub heading : position.heading ≡ heading_of older
  pub keys : (table : List ℕ) → names_at table position.keys.items ≡ keys_of table older
  pub columns : (table : List ℕ) → names_at table position.columns.items ≡ columns_of table older
  pub pending : position.pending ≡ pending_old older
  pub rows : position.rows ≡ rows_of older

-- the line is neither skipped nor ends a batch
abbrev pub goes_on : DocLine → Bool
goes_on (Commit id) = false
goes_on Skipped = false
goes_on line = true

-- A line was taken that says so, or was refused for this cause, which leaves the position.
abbrev pub HasTaken : List DocLine → Result DocLine DocumentCause → Option DocumentCause → Position
    → List BatchDoc → List BatchDoc → Type 0
HasTaken older (Ok said) refused position before after =
    (refused ≡ None) × IsPositionAfter (said ∷ older) position
    × (after ≡ and_one before (batch_said older said))
HasTaken older (Err cause) refused position before after =
    (refused ≡ Some cause) × IsPositionAfter older position × (after ≡ before)

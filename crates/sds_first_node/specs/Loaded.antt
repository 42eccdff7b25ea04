-- The rows that a batch brings, and what becomes of the tables, in the one configuration.
use Rattle.std.specs.Prelude.{◌≡◌, ℕ, ◌+◌, ◌<◌, if◌then◌else◌, List, [], ◌∷◌, ◌++◌, length, None, Some, false, slice_set, slice_index_or}
use Rattle.sds_value.specs.declared.kind.Value.{Value}
use Rattle.sds_value.specs.declared.row.DocRow.{DocRow}
use Rattle.sds_types.specs.declared.row.TableRow.{TableRow}
use Rattle.sds_first_spec.specs.Acts.{State}
use Rattle.sds_first_spec.specs.Capture.{row_values}
use Rattle.sds_first_spec.specs.Kept.{with_lane}
use Rattle.sds_first_spec.specs.One.{one}
use Rattle.sds_first_spec.specs.Places.{columns_of}
use Rattle.sds_first_spec.specs.Tables.{key_of, is_at}

-- a document's row as it is kept
abbrev pub doc_row : DocRow → TableRow
doc_row doc = record { table = 0; row = record { 0 = row_values (columns_of one 0) doc.new } }

-- the values of a row with these in the place of the first
abbrev pub overwritten : List Value → List Value → List Value
overwritten [] kept = kept
overwritten (value ∷ new) [] = []
overwritten (value ∷ new) (old ∷ kept) = value ∷ overwritten new kept

-- a row that stands, with the values of another
abbrev pub updated : TableRow → TableRow → TableRow
updated row kept = record { table = 0; row = record { 0 = overwritten row.row.0 kept.row.0 } }

-- the rows with one that updates the row of its key, or stands behind the others
abbrev pub with_row : TableRow → List TableRow → List TableRow
with_row row [] = row ∷ []
with_row row (kept ∷ rows) = if is_at one 0 (key_of one 0 row.row) kept then updated row kept ∷ rows else kept ∷ with_row row rows

-- the rows with these, one after another
abbrev pub with_rows : List TableRow → List TableRow → List TableRow
with_rows kept [] = kept
with_rows kept (row ∷ rows) = with_rows (with_row row kept) rows

-- no row of the key stands
pub record IsNoRow (key : List Value) (rows : List TableRow) : Type 0 where
  pub put : (row : TableRow) → key_of one 0 row.row ≡ key → with_row row rows ≡ rows ++ row ∷ []

-- the first row of the key stands at a place
pub record IsRowAt (key : List Value) (rows : List TableRow) (place : ℕ) : Type 0 where
  pub within : place < length rows
  pub put : (row kept : TableRow) → key_of one 0 row.row ≡ key → kept ≡ slice_index_or rows place kept → with_row row rows ≡ slice_set rows place (updated row kept)

-- what a state is after a batch of these rows
abbrev pub taken_in : State → List ℕ → ℕ → List TableRow → State
taken_in s sender batch rows = record s {
  counts = record s.counts { acts = s.counts.acts + 1; last_tx = s.counts.last_tx + 1 };
  tables = with_rows s.tables rows;
  lanes = with_lane (record { peer = sender; channel = 0; highest = batch; ignored = Some false; error = None }) s.lanes;
}

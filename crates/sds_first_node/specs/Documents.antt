-- The rows of a batch as a document carries them, in the one configuration.
use Rattle.std.specs.Prelude.{ℕ, List, [], ◌∷◌, map, filter_map, None, codes}
use Rattle.sds_value.specs.declared.row.DocRow.{DocRow}
use Rattle.sds_value.specs.declared.row.Event.{Event}
use Rattle.sds_value.specs.declared.row.Field.{Field}
use Rattle.sds_types.specs.declared.row.Change.{Change}
use Rattle.sds_first_spec.specs.Lanes.{change_at, doc_of}
use Rattle.sds_first_spec.specs.One.{one}

-- a row of these names and fields
abbrev pub doc_with : Event → List ℕ → List (List ℕ) → List (List ℕ) → List Field → DocRow
doc_with event table keys columns new = record { event = event; table = table; keys = keys; columns = columns; new = new; key = []; old = None }

-- a row of the one table
abbrev pub pair_doc : Event → List Field → DocRow
pair_doc event new = doc_with event (codes "pair") (codes "id" ∷ []) (codes "id" ∷ (codes "text" ∷ [])) new

-- the rows of the changes of these numbers
abbrev pub docs_of : List Change → List ℕ → List DocRow
docs_of changes ids = map (doc_of one) (filter_map (λ (id : ℕ). change_at id changes) ids)

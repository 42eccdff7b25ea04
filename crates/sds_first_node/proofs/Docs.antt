-- The rows of a document, in the one configuration.
use Rattle.std.proofs.Common.{◌≡◌, ◌≢◌, ℕ, [], ◌∷◌, None, refl, suc, zero, map, codes}
use Rattle.std.specs.Prelude.{slice_get}
use Rattle.std.specs.Str.{chars}
use Rattle.sds_types.specs.declared.row.Change.{Change}
use Rattle.sds_first_spec.specs.Lanes.{doc_of, field_of, values_of}
use Rattle.sds_first_spec.specs.One.{one, pair_table}
use Rattle.sds_first_node.specs.Documents.{doc_with, pair_doc}

pub pair_name : chars (codes "pair") ≡ codes "pair"
unfolding chars
pair_name = refl

pub id_name : chars (codes "id") ≡ codes "id"
unfolding chars
id_name = refl

pub text_name : chars (codes "text") ≡ codes "text"
unfolding chars
text_name = refl

no_table : (n : ℕ) → n ≢ 0 → slice_get (pair_table ∷ []) n ≡ None
no_table zero is = absurd (is refl)
no_table (suc n) is = refl

-- a change of the one table
pub doc_of_pair : (c : Change) → c.table ≡ 0 → doc_of one c ≡ pair_doc c.event (map field_of (values_of c.new))
doc_of_pair c is = rw is refl

-- a change of no table
pub doc_of_none : (c : Change) → c.table ≢ 0 → doc_of one c ≡ doc_with c.event [] [] [] (map field_of (values_of c.new))
doc_of_none c is = rw (no_table c.table is) refl

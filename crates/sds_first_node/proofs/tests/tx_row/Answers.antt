use Rattle.std.proofs.Common.{◌≡◌, ℕ, true, ◌&&◌, codes, List, nat_lt, refl, sym, subst, ◌∙◌}
use Rattle.std.specs.Str.{chars}
use Rattle.sds_value.specs.declared.row.Field.{Field}
use Rattle.sds_first_spec.specs.Capture.{are_allowed}
use Rattle.sds_first_spec.specs.One.{one}
use Rattle.sds_first_spec.specs.Places.{columns_of, table_place}
use Rattle.sds_first_node.proofs.tests.tx_row.Goals as goal

spelt : chars (codes "pair") ≡ codes "pair"
unfolding chars
spelt = refl

own : (name : List ℕ) (fields : List Field) → name ≡ chars (codes "pair") → are_allowed (columns_of one 0) fields ≡ true
    → (nat_lt (table_place name one.tables) 1 && are_allowed (columns_of one (table_place name one.tables)) fields) ≡ true
own name fields is allowed =
    subst (λ (name : List ℕ). (nat_lt (table_place name one.tables) 1 && are_allowed (columns_of one (table_place name one.tables)) fields) ≡ true) (sym (is ∙ spelt)) allowed

pub returns : goal.returns
returns c = own c.in_ok-copied.field-0 c.in_ok-fields.field-0 c.in_ok-copied.ensures c.in_ok-fields.ensures

-- Names by their count.
use Rattle.std.proofs.Common.{◌≡◌, ℕ, ◌≤◌, List, [], ◌∷◌, length, refl, arith, Option, None, Some}
use Rattle.std.specs.Option.{option_and_then}
use Rattle.sds_value.specs.declared.row.Field.{Field}
use Rattle.sds_scenario.specs.Words.{as_name, as_names, with_name}
use Rattle.sds_scenario.specs.Counted.{only, one_name}

many_named : (first : Option (List ℕ)) (second : Option (List ℕ)) (others : Option (List (List ℕ))) → option_and_then only (with_name first (with_name second others)) ≡ None
many_named None second others = refl
many_named (Some a) None others = refl
many_named (Some a) (Some b) None = refl
many_named (Some a) (Some b) (Some names) = refl

-- two fields or more aren't one name
pub many_one : (fields : List Field) → 2 ≤ length fields → None ≡ one_name fields
many_one [] many = absurd (omega arith)
many_one (field ∷ []) many = absurd (omega arith)
many_one (first ∷ (second ∷ fields)) many = rw (many_named (as_name first) (as_name second) (as_names fields)) refl

-- Names of fields, one after another.
use Rattle.std.proofs.Common.{◌≡◌, ℕ, List, [], ◌∷◌, ◌++◌, refl, ap, append_assoc, Option, Some, None}
use Rattle.sds_scenario.specs.Words.{with_name}

-- names after these
abbrev pub after : List (List ℕ) → Option (List (List ℕ)) → Option (List (List ℕ))
after names None = None
after names (Some more) = Some (names ++ more)

pub after_none : (o : Option (List (List ℕ))) → after [] o ≡ o
after_none None = refl
after_none (Some more) = refl

pub after_one : (names : List (List ℕ)) (name : List ℕ) (o : Option (List (List ℕ))) → after (names ++ name ∷ []) o ≡ after names (with_name (Some name) o)
after_one names name None = refl
after_one names name (Some more) = ap Some (append_assoc names (name ∷ []) more)

-- Two lists side by side, of which one has ended.
use Rattle.std.proofs.Common.{◌≡◌, ◌≤◌, ◌⊎◌, ◌∙◌, ◌||◌, ℕ, Bool, true, false, List, length, drop, refl, sym, ap}
use Rattle.std.specs.List.{list_any, zip}
use Rattle.sds_rowvalues.proofs.Pairs.{ended}

or_none : (b : Bool) → (b || false) ≡ b
or_none true = refl
or_none false = refl

-- what is told by the pairs before a place at which either list has ended is what is told by all
pub told_all : {A B : Type 0} (test : A × B → Bool) (told : Bool) (xs : List A) (ys : List B) (i : ℕ) (whole : Bool)
    → (told || list_any test (zip (drop i xs) (drop i ys))) ≡ whole → (length xs ≤ i) ⊎ (length ys ≤ i) → told ≡ whole
told_all test told xs ys i whole so_far past = sym (or_none told) ∙ (ap (λ rest. told || list_any test rest) (sym (ended xs ys i past)) ∙ so_far)

-- How two lists compare where one of them ends.
use Rattle.std.proofs.Common.{◌≡◌, ℕ, ◌≤◌, ◌<◌, List, [], ◌∷◌, length, drop, map, refl, arith, Ordering, Less, Greater}
use Rattle.std.specs.Cmp.Lexicographic.{slice_cmp}
use Rattle.std.proofs.lemmas.List.{drop_all, length-drop, length-map}

over_nothing : {K : Type 0} (R : K → K → Ordering) (xs : List K) → 0 < length xs → slice_cmp R xs [] ≡ Greater
over_nothing R [] some = absurd (omega arith)
over_nothing R (x ∷ xs) some = refl

under_more : {K : Type 0} (R : K → K → Ordering) (ys : List K) → 0 < length ys → slice_cmp R [] ys ≡ Less
under_more R [] some = absurd (omega arith)
under_more R (y ∷ ys) some = refl

pub second_ends : {X K : Type 0} (R : K → K → Ordering) (f : X → K) (xs : List X) (ys : List K) (i : ℕ) → i < length xs → length ys ≤ i
    → slice_cmp R (map f (drop i xs)) (drop i ys) ≡ Greater
second_ends R f xs ys i more ended =
    rw (drop_all i ys ended) (over_nothing R (map f (drop i xs)) (omega (arith, length-map (drop i xs) f, length-drop i xs)))

pub first_ends : {X K : Type 0} (R : K → K → Ordering) (f : X → K) (xs : List X) (ys : List K) (i : ℕ) → length xs ≤ i → i < length ys
    → slice_cmp R (map f (drop i xs)) (drop i ys) ≡ Less
first_ends R f xs ys i ended more =
    rw (drop_all i xs ended) (under_more R (drop i ys) (omega (arith, length-drop i ys)))

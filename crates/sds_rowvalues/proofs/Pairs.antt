-- Two lists side by side, from a place on.
use Rattle.std.proofs.Common.{◌≡◌, ◌<◌, ◌≤◌, ◌+◌, ◌⊎◌, inl, inr, ℕ, zero, suc, List, [], ◌∷◌, ◌++◌, length, get_or, drop, map, refl, arith, sym, ap, ◌∙◌, append-nil, Some, None}
use Rattle.std.specs.Prelude.{slice_get}
use Rattle.std.specs.List.{zip, enumerate_from}
use Rattle.std.proofs.lemmas.List.{drop_more, drop_all}
use Rattle.std.proofs.lemmas.Option.{slice_get_within, get_or_from_slice_get}

pub zip_none : {A B : Type 0} (xs : List A) → zip {X = B} xs [] ≡ []
zip_none [] = refl
zip_none (x ∷ xs) = refl

drop_at : {B : Type 0} (ys : List B) (i : ℕ) (y : B) → slice_get ys i ≡ Some y → drop i ys ≡ y ∷ drop (i + 1) ys
drop_at ys i y e = drop_more ys i y (slice_get_within ys i y e) ∙ ap (λ x. x ∷ drop (i + 1) ys) (get_or_from_slice_get ys i y y e)

pub past_end : {B : Type 0} (ys : List B) (i : ℕ) → slice_get ys i ≡ None → length ys ≤ i
past_end [] i e = omega arith
past_end (y ∷ ys) zero e = absurd (cc)
past_end (y ∷ ys) (suc i) e = let h = past_end ys i e in omega arith

-- both lists have an element there
pub next_pair : {A B : Type 0} (xs : List A) (ys : List B) (i : ℕ) (d : A) (y : B) → i < length xs → slice_get ys i ≡ Some y
    → zip (drop i xs) (drop i ys) ≡ (get_or xs i d, y) ∷ zip (drop (i + 1) xs) (drop (i + 1) ys)
next_pair xs ys i d y inside e = rw (drop_more xs i d inside) (rw (drop_at ys i y e) refl)

-- the second list has ended
pub no_pair : {A B : Type 0} (xs : List A) (ys : List B) (i : ℕ) → length ys ≤ i → zip (drop i xs) (drop i ys) ≡ []
no_pair xs ys i past = rw (drop_all i ys past) (zip_none (drop i xs))

-- either list has ended
pub ended : {A B : Type 0} (xs : List A) (ys : List B) (i : ℕ) → (length xs ≤ i) ⊎ (length ys ≤ i) → zip (drop i xs) (drop i ys) ≡ []
ended xs ys i (inl past) = rw (drop_all i xs past) refl
ended xs ys i (inr past) = no_pair xs ys i past

-- what is made of the pairs before a place at which either list has ended is what is made of all
pub made_all : {A B C : Type 0} (f : A × B → C) (made : List C) (xs : List A) (ys : List B) (i : ℕ) (whole : List C)
    → made ++ map f (zip (drop i xs) (drop i ys)) ≡ whole → (length xs ≤ i) ⊎ (length ys ≤ i) → made ≡ whole
made_all f made xs ys i whole so_far past = sym (append-nil made) ∙ (ap (λ rest. made ++ map f rest) (sym (ended xs ys i past)) ∙ so_far)

no_placed_pair : {A B : Type 0} (xs : List A) (ys : List B) (i : ℕ) → (length xs ≤ i) ⊎ (length ys ≤ i) → zip (enumerate_from i (drop i xs)) (drop i ys) ≡ []
no_placed_pair xs ys i (inl past) = rw (drop_all i xs past) refl
no_placed_pair xs ys i (inr past) = rw (drop_all i ys past) (zip_none (enumerate_from i (drop i xs)))

-- the same where the first list has its places
pub made_all_placed : {A B C : Type 0} (f : (ℕ × A) × B → C) (made : List C) (xs : List A) (ys : List B) (i : ℕ) (whole : List C)
    → made ++ map f (zip (enumerate_from i (drop i xs)) (drop i ys)) ≡ whole → (length xs ≤ i) ⊎ (length ys ≤ i) → made ≡ whole
made_all_placed f made xs ys i whole so_far past = sym (append-nil made) ∙ (ap (λ rest. made ++ map f rest) (sym (no_placed_pair xs ys i past)) ∙ so_far)

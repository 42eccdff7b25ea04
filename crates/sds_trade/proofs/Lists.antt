-- Small lemmas on lists that the laws of the rules need.
use Rattle.std.proofs.Common.{◌≡◌, zero, suc, Bool, true, false, cond, List, [], ◌∷◌, ◌++◌, None, Some, refl, ap, arith, true≢false, All, AllPairs, find, filter}
use Rattle.std.proofs.lemmas.List.Elements.{All-nil, All-cons, All-append}
use Rattle.std.proofs.lemmas.List.Kept.{AllPairs-cons}

-- FILTERS. What a filter keeps passes its test
by_pass : {X : Type 0} (p : X → Bool) (x : X) (xs : List X) (b : Bool) → p x ≡ b → All (λ y. p y ≡ true) xs
    → All (λ y. p y ≡ true) (cond b (x ∷ xs) xs)
by_pass p x xs true is rest = All-cons (λ y. p y ≡ true) x xs is rest
by_pass p x xs false is rest = rest

pub passes : {X : Type 0} (p : X → Bool) (xs : List X) → All (λ y. p y ≡ true) (filter p xs)
passes p [] = All-nil (λ y. p y ≡ true)
passes p (x ∷ xs) = by_pass p x (filter p xs) (p x) refl (passes p xs)

-- PAIRS. Two lists whose pairs are in order, and each of the first with each of the second
pub pairs_tail : {X : Type 0} (R : X → X → Type 0) (x : X) (xs : List X) → AllPairs R (x ∷ xs) → AllPairs R xs
pairs_tail R x xs are i j d below within = are (suc i) (suc j) d (omega arith) (omega arith)

pub pairs_head : {X : Type 0} (R : X → X → Type 0) (x : X) (xs : List X) → AllPairs R (x ∷ xs) → All (R x) xs
pairs_head R x xs are k d within = are zero (suc k) d (omega arith) (omega arith)

pub all_tail : {X : Type 0} (P : X → Type 0) (x : X) (xs : List X) → All P (x ∷ xs) → All P xs
all_tail P x xs are k d within = are (suc k) d (omega arith)

pub all_head : {X : Type 0} (P : X → Type 0) (x : X) (xs : List X) → All P (x ∷ xs) → P x
all_head P x xs are = are zero x (omega arith)

pub pairs_append : {X : Type 0} (R : X → X → Type 0) (xs ys : List X) → AllPairs R xs → AllPairs R ys
    → All (λ x. All (R x) ys) xs → AllPairs R (xs ++ ys)
pairs_append R [] ys left right across = right
pairs_append {X} R (x ∷ xs) ys left right across =
    AllPairs-cons R x (xs ++ ys) (All-append (R x) xs ys (pairs_head R x xs left) (all_head (λ (y : X). All (R y) ys) x xs across))
    (pairs_append R xs ys (pairs_tail R x xs left) right (all_tail (λ (y : X). All (R y) ys) x xs across))

-- FOUND. What is found passes the test, and where nothing is found each fails it
abbrev pub Fail : {X : Type 0} → (X → Bool) → List X → Type 0
Fail p [] = Unit {0}
Fail p (x ∷ xs) = (p x ≡ false) × Fail p xs

none_on : {X : Type 0} (p : X → Bool) (x : X) (xs : List X) (b : Bool) → p x ≡ b → cond b (Some x) (find p xs) ≡ None
    → (find p xs ≡ None → Fail p xs) → (p x ≡ false) × Fail p xs
none_on p x xs true is none rest = absurd (true≢false (ap (λ o. elim o [ None ↦ false | Some y ↦ true ]) none))
none_on p x xs false is none rest = (is, rest none)

pub none_found : {X : Type 0} (p : X → Bool) (xs : List X) → find p xs ≡ None → Fail p xs
none_found p [] none = tt
none_found p (x ∷ xs) none = none_on p x xs (p x) refl none (none_found p xs)

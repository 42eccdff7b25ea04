-- Lists and tests.
use Rattle.std.proofs.Common.{◌≡◌, ℕ, zero, suc, ◌+◌, Bool, true, false, cond, ◌&&◌, List, [], ◌∷◌, ◌++◌, length, Option, None, Some, refl, sym, ap, subst, ◌∙◌, true≢false, arith, find, filter, All}
use Rattle.std.proofs.lemmas.List.Elements.{All-head, All-tail}
use Rattle.std.specs.Prelude.{IfSome, slice_get}
use Rattle.sds_value.specs.declared.table.TableDef.{TableDef}
use Rattle.sds_types.specs.declared.row.Change.{Change}
use Rattle.sds_outgoing.specs.Batches.{HasFitRows}

-- what holds of each element holds of the one that is found
pub found_holds : {A : Type 0} (P : A → Type 0) (p : A → Bool) (xs : List A) → All P xs → IfSome (find p xs) P
found_holds P p [] each = tt
found_holds P p (x ∷ xs) each = on (p x) (found_holds P p xs (All-tail P x xs each))
  where
    on : (b : Bool) → IfSome (find p xs) P → IfSome (cond b (Some x) (find p xs)) P
    on true rest = All-head P x xs each
    on false rest = rest

-- one test after another is one of both
pub filter_both : {A : Type 0} (p q : A → Bool) (xs : List A) → filter q (filter p xs) ≡ filter (λ x. p x && q x) xs
filter_both p q [] = refl
filter_both p q (x ∷ xs) = on (p x) (filter_both p q xs)
  where
    also : (b : Bool) → filter q (filter p xs) ≡ filter (λ y. p y && q y) xs → cond b (x ∷ filter q (filter p xs)) (filter q (filter p xs)) ≡ cond b (x ∷ filter (λ y. p y && q y) xs) (filter (λ y. p y && q y) xs)
    also true rest = ap (λ ys. x ∷ ys) rest
    also false rest = rest

    on : (b : Bool) → filter q (filter p xs) ≡ filter (λ y. p y && q y) xs
        → filter q (cond b (x ∷ filter p xs) (filter p xs)) ≡ cond (b && q x) (x ∷ filter (λ y. p y && q y) xs) (filter (λ y. p y && q y) xs)
    on true rest = also (q x) rest
    on false rest = rest

-- the element at a seam
pub at_seam : {A : Type 0} (xs : List A) (y : A) (ys : List A) → slice_get (xs ++ y ∷ ys) (length xs) ≡ Some y
at_seam [] y ys = refl
at_seam (x ∷ xs) y ys = at_seam xs y ys

-- a seam one element on
moved : (n : ℕ) → suc (n + 1) ≡ suc n + 1
moved n = omega arith

pub seam_length : {A : Type 0} (xs : List A) (y : A) → length (xs ++ y ∷ []) ≡ length xs + 1
seam_length [] y = refl
seam_length (x ∷ xs) y = ap suc (seam_length xs y) ∙ moved (length xs)

-- the change that is found has rows that fit
pub found_fits : (defs : List TableDef) (changes slice : List Change) (test : Change → Bool) (change : Change) → All (HasFitRows defs) changes → slice ≡ changes
    → Some change ≡ find test slice → HasFitRows defs change
found_fits defs changes slice test change fit same found =
    subst (λ (o : Option Change). IfSome o (HasFitRows defs)) (sym (found ∙ ap (find test) same)) (found_holds (HasFitRows defs) test changes fit)

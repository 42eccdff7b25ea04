-- A reading that gives what a form says gives the first bad place of the form, and nothing else is one.
use Rattle.std.proofs.Common.{◌≡◌, ◌↔◌, ℕ, ◌+◌, ◌<◌, ◌≤◌, ◌⊎◌, inl, inr, List, ◌++◌, take, drop, Result, Ok, Err, refl, sym, ap, subst, ◌∙◌, arith, append_assoc, take-append-drop, take-take}
use Rattle.std.proofs.lemmas.Bool.{cases_order}
use Rattle.sds_expressions.specs.BadPlaces.{IsFirstBad, ReadsAs}
use Rattle.sds_expressions.proofs.Readings.{IsBadPlace}

section_same : (n m : ℕ) (text : List ℕ) → n ≤ m → take m text ≡ take n text ++ drop n (take m text)
section_same n m text below = let e : take n (take m text) ++ drop n (take m text) ≡ take m text = take-append-drop n (take m text) in sym e ∙ ap (λ x. x ++ drop n (take m text)) (shorter n m text below)
  where
    shorter : (n m : ℕ) (text : List ℕ) → n ≤ m → take n (take m text) ≡ take n text
    shorter n m text below = search (arith, take-take)

one_place : {T : Type 0} (IsForm : List ℕ → T → Type 0) (text : List ℕ) (p q : ℕ) → IsFirstBad IsForm text p → IsFirstBad IsForm text q → p < q → ⊥
one_place IsForm text p q first second below =
    let good = second.hopeful in
    let cut : take q text ++ good.0 ≡ take (p + 1) text ++ (drop (p + 1) (take q text) ++ good.0) =
    ap (λ x. x ++ good.0) (section_same (p + 1) q text (omega (arith, below))) ∙ append_assoc (take (p + 1) text) (drop (p + 1) (take q text)) good.0 in
    first.hopeless (omega (arith, below, second.within)) (drop (p + 1) (take q text) ++ good.0) good.2 (subst (λ x. IsForm x good.2) cut good.3)

same_place : {T : Type 0} (IsForm : List ℕ → T → Type 0) (text : List ℕ) (p q : ℕ) → IsFirstBad IsForm text p → IsFirstBad IsForm text q → p ≡ q
same_place IsForm text p q first second = at (cases_order p q)
  where
    at : (p ≡ q) ⊎ ((p < q) ⊎ (q < p)) → p ≡ q
    at (inl e) = e
    at (inr (inl below)) = absurd (one_place IsForm text p q first second below)
    at (inr (inr below)) = absurd (one_place IsForm text q p second first below)

module _ {T : Type 0} (read : List ℕ → Result T ℕ) (IsForm : List ℕ → T → Type 0) (says : (text : List ℕ) (value : T) → (read text ≡ Ok value) ↔ IsForm text value)
    (bad : (text : List ℕ) (place : ℕ) → read text ≡ Err place → IsBadPlace read text place) where
  first_bad : (text : List ℕ) (place : ℕ) → read text ≡ Err place → IsFirstBad IsForm text place
  first_bad text place e =
      let old = bad text place e in
      record {
        within = old.within;
        malformed = λ value is. let f : read text ≡ Ok value = (says text value).1 is in absurd (cc);
        hopeful = (old.hopeful.0, old.hopeful.1, old.hopeful.2, (says (take place text ++ old.hopeful.0) old.hopeful.2).0 old.hopeful.3);
        hopeless = λ below more value is.
            let f : read (take (place + 1) text ++ more) ≡ Ok value = (says (take (place + 1) text ++ more) value).1 is in
            let g : read (take (place + 1) text ++ more) ≡ Err place = old.hopeless below more in
            absurd (cc);
      }

  to_form : (text : List ℕ) (result : Result T ℕ) → read text ≡ result → ReadsAs IsForm text result
  to_form text (Ok value) e = (says text value).0 e
  to_form text (Err place) e = first_bad text place e

  from_form : (text : List ℕ) (result : Result T ℕ) → ReadsAs IsForm text result → read text ≡ result
  from_form text (Ok value) is = (says text value).1 is
  from_form text (Err place) is = at (read text) refl
    where
      at : (got : Result T ℕ) → read text ≡ got → read text ≡ Err place
      at (Ok value) e = absurd (is.malformed value ((says text value).0 e))
      at (Err other) e = e ∙ ap (λ p. Err p) (same_place IsForm text other place (first_bad text other e) is)

  pub by_form : (text : List ℕ) (result : Result T ℕ) → (read text ≡ result) ↔ ReadsAs IsForm text result
  by_form text result = (to_form text result, from_form text result)

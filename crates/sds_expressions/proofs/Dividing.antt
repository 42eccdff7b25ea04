-- Texts that are divided at a mark.
use Rattle.std.proofs.Common.{◌≡◌, ℕ, suc, ◌+◌, Bool, true, false, not, ◌==◌, if◌then◌else◌, nat_lt, List, [], ◌∷◌, ◌++◌, length, take, drop, Option, Some, None, option_map, refl, sym, ap, subst, ◌∙◌, arith, eqb-true}
use Rattle.std.proofs.lemmas.Bool.{and_parts}
use Rattle.std.proofs.lemmas.Bool.Decides.{nat_tests}
use Rattle.std.specs.List.{list_all, position_or_len}
use native.Mathlib.Numerals.{one-add}
use Rattle.sds_expressions.specs.ComputedForm.{Without}
use Rattle.sds_expressions.specs.Pieces.{split_at, split, onto_first}
use Rattle.sds_expressions.proofs.Fronts.{cut_back}

abbrev longer : ℕ → Option (List ℕ × List ℕ) → Option (List ℕ × List ℕ)
longer c parts = option_map (λ (x : List ℕ × List ℕ). (c ∷ x.0, x.1)) parts

abbrev cut : ℕ → List ℕ → Option (List ℕ × List ℕ)
cut k text = if nat_lt k (length text) then Some (take k text, drop (k + 1) text) else None

cut_longer : (k c : ℕ) (cs : List ℕ) → cut (suc k) (c ∷ cs) ≡ longer c (cut k cs)
cut_longer k c cs = at (nat_lt k (length cs)) refl
  where
    less : (m n : ℕ) → nat_lt m n ≡ true → nat_lt (suc m) (suc n) ≡ true
    less m n f = grind (arith, nat_tests)

    not_less : (m n : ℕ) → nat_lt m n ≡ false → nat_lt (suc m) (suc n) ≡ false
    not_less m n f = grind (arith, nat_tests)

    at : (t : Bool) → nat_lt k (length cs) ≡ t → cut (suc k) (c ∷ cs) ≡ longer c (cut k cs)
    at true f = rw (less k (length cs) f, f) (ap (λ x. Some (c ∷ take k cs, x)) (cut_back (suc k) k c cs refl))
    at false f = rw (not_less k (length cs) f, f) refl

at_mark : (mark c : ℕ) (cs : List ℕ) → (c == mark) ≡ true → split_at mark (c ∷ cs) ≡ Some ([], cs)
at_mark mark c cs e = ap (λ n. cut n (c ∷ cs)) none ∙ rw (some (length cs)) refl
  where
    none : position_or_len (λ b. b == mark) (c ∷ cs) ≡ 0
    none = rw e refl

    some : (n : ℕ) → nat_lt 0 (suc n) ≡ true
    some n = grind (arith, nat_tests)

before_mark : (mark c : ℕ) (cs : List ℕ) → (c == mark) ≡ false → split_at mark (c ∷ cs) ≡ longer c (split_at mark cs)
before_mark mark c cs e = ap (λ n. cut n (c ∷ cs)) whole ∙ cut_longer (position_or_len (λ b. b == mark) cs) c cs
  where
    whole : position_or_len (λ b. b == mark) (c ∷ cs) ≡ suc (position_or_len (λ b. b == mark) cs)
    whole = rw e (one-add (position_or_len (λ b. b == mark) cs))

not_true : (t : Bool) → not t ≡ true → t ≡ false
not_true true e = absurd (cc)
not_true false e = refl

-- a text with a mark, and one without
pub divides : (mark : ℕ) (a b : List ℕ) → Without mark a → (mark == mark) ≡ true → split_at mark (a ++ mark ∷ b) ≡ Some (a, b)
divides mark [] b all same = at_mark mark mark b same
divides mark (c ∷ cs) b all same =
    let (here, rest) = and_parts (not (c == mark)) (list_all (λ x. not (x == mark)) cs) all in
    before_mark mark c (cs ++ mark ∷ b) (not_true (c == mark) here) ∙ ap (longer c) (divides mark cs b rest same)

pub undivided : (mark : ℕ) (text : List ℕ) → Without mark text → split_at mark text ≡ None
undivided mark [] all = refl
undivided mark (c ∷ cs) all =
    let (here, rest) = and_parts (not (c == mark)) (list_all (λ x. not (x == mark)) cs) all in
    before_mark mark c cs (not_true (c == mark) here) ∙ ap (longer c) (undivided mark cs rest)

-- what the first mark divides
pub record Divided (mark : ℕ) (text a b : List ℕ) : Type 0 where
  pub is : text ≡ a ++ mark ∷ b
  pub first : Without mark a

abbrev pub Parts : ℕ → List ℕ → Option (List ℕ × List ℕ) → Type 0
Parts mark text None = Without mark text
Parts mark text (Some parts) = Divided mark text parts.0 parts.1

pub parts : (mark : ℕ) (text : List ℕ) → Parts mark text (split_at mark text)
parts mark [] = refl
parts mark (c ∷ cs) = at (c == mark) refl (split_at mark cs) refl (parts mark cs)
  where
    at : (t : Bool) → (c == mark) ≡ t → (o : Option (List ℕ × List ℕ)) → split_at mark cs ≡ o → Parts mark cs o → Parts mark (c ∷ cs) (split_at mark (c ∷ cs))
    at true e o f more = subst (Parts mark (c ∷ cs)) (sym (at_mark mark c cs e)) (record { is = ap (λ x. x ∷ cs) (eqb-true c mark e); first = refl })
    at false e None f more = subst (Parts mark (c ∷ cs)) (sym (before_mark mark c cs e ∙ ap (longer c) f)) (rw e more)
    at false e (Some p) f more = subst (Parts mark (c ∷ cs)) (sym (before_mark mark c cs e ∙ ap (longer c) f)) (record { is = ap (λ x. c ∷ x) more.is; first = rw e more.first })

-- the pieces of a text
pub one_piece : (mark : ℕ) (text : List ℕ) → Without mark text → split mark text ≡ text ∷ []
one_piece mark [] all = refl
one_piece mark (c ∷ cs) all =
    let (here, rest) = and_parts (not (c == mark)) (list_all (λ x. not (x == mark)) cs) all in
    rw (not_true (c == mark) here) (ap (onto_first c) (one_piece mark cs rest))

pub first_piece : (mark : ℕ) (a b : List ℕ) → Without mark a → (mark == mark) ≡ true → split mark (a ++ mark ∷ b) ≡ a ∷ split mark b
first_piece mark [] b all same = rw same refl
first_piece mark (c ∷ cs) b all same =
    let (here, rest) = and_parts (not (c == mark)) (list_all (λ x. not (x == mark)) cs) all in
    rw (not_true (c == mark) here) (ap (onto_first c) (first_piece mark cs b rest same))

-- Tests, texts, numbers and options: small lemmas that all the laws need.
use Rattle.std.proofs.Common.{◌≡◌, ◌≢◌, ℕ, ◌<◌, ◌&&◌, Bool, true, false, cond, List, Option, None, Some, Equal, refl, sym, ap, ◌∙◌, arith, true≢false, nat_cmp}
use Rattle.std.specs.Cmp.Lexicographic.{slice_cmp}
use Rattle.std.specs.Ordering.{is_eq}
use Rattle.std.specs.Str.{bytes_eq}
use Rattle.std.proofs.lemmas.Map.Text.{is_eq-slice_cmp}
use Rattle.std.proofs.lemmas.Slice.Eq.{bytes_eq-Decides}

pub both_true : (a b : Bool) → a ≡ true → b ≡ true → (a && b) ≡ true
both_true true b is also = also
both_true false b is also = absurd (true≢false (sym is))

-- TEXTS that are one or differ
pub equal : (a b : List ℕ) → bytes_eq a b ≡ true → a ≡ b
equal a b is = (bytes_eq-Decides a b).0 is

pub itself : (a : List ℕ) → bytes_eq a a ≡ true
itself a = (bytes_eq-Decides a a).1 refl

pub differs : (a b : List ℕ) → a ≢ b → bytes_eq a b ≡ false
differs a b isnt = differs_on (bytes_eq a b) refl
  where
    differs_on : (t : Bool) → bytes_eq a b ≡ t → t ≡ false
    differs_on true is = absurd (isnt (equal a b is))
    differs_on false is = refl

pub other_way : (a b : List ℕ) → bytes_eq a b ≡ false → bytes_eq b a ≡ false
other_way a b isnt = differs b a (λ same. absurd (true≢false (sym (itself a) ∙ (ap (bytes_eq a) (sym same) ∙ isnt))))

pub equal_keys : (a b : List ℕ) → slice_cmp nat_cmp a b ≡ Equal → a ≡ b
equal_keys a b is = equal a b (sym (is_eq-slice_cmp a b) ∙ ap is_eq is)

-- NUMBERS
pub not_below : (a b : ℕ) → a < b → a ≢ b
not_below a b less same = absurd (omega (arith, less, same))

-- OPTIONS: a value is not none; the first value of two
pub no_value : {G A : Type 0} (x : A) → None ≡ Some x → G
no_value x is = absurd (true≢false (ap (λ o. elim o [ None ↦ true | Some y ↦ false ]) is))

abbrev pub first_of : {A : Type 0} → Option A → Option A → Option A
first_of None other = other
first_of (Some x) other = Some x

pub first_on : {A : Type 0} (b : Bool) (x : A) (found other : Option A) → cond b (Some x) (first_of found other) ≡ first_of (cond b (Some x) found) other
first_on true x found other = refl
first_on false x found other = refl

pub first_alone : {A : Type 0} (told : Option A) → first_of told None ≡ told
first_alone None = refl
first_alone (Some x) = refl

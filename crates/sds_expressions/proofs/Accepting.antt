-- The value that a reading gives of a text, without the places, and texts that are put together from pieces.
use Rattle.std.proofs.Common.{◌≡◌, ℕ, ◌+◌, ◌≤◌, Bool, true, false, if◌then◌else◌, List, [], ◌∷◌, ◌++◌, length, Option, Some, None, option_and_then, Ok, refl, sym, ap, ◌∙◌, arith, append_assoc, length-append}
use Rattle.sds_expressions.specs.Forms.{Form, ◌▸◌, AnyOf}
use Rattle.sds_expressions.specs.Automaton as automaton

abbrev pub value_of : {R T : Type 0} → (R → ℕ → Option R) → (R → Option T) → R → List ℕ → Option T
value_of step finish reading [] = finish reading
value_of step finish reading (c ∷ cs) = option_and_then (λ next. value_of step finish next cs) (step reading c)

pub value_read : {R T : Type 0} (step : R → ℕ → Option R) (finish : R → Option T) (place : ℕ) (reading : R) (text : List ℕ) (value : T) → automaton.run step finish place reading text ≡ Ok value → value_of step finish reading text ≡ Some value
value_read {R} {T} step finish place reading [] value e = at (finish reading) e
  where
    at : (o : Option T) → automaton.ended place o ≡ Ok value → o ≡ Some value
    at None e = absurd (cc)
    at (Some x) e = cc
value_read {R} {T} step finish place reading (c ∷ cs) value e = at (step reading c) (λ next. value_read step finish (place + 1) next cs value) e
  where
    at : (o : Option R) → ((next : R) → automaton.run step finish (place + 1) next cs ≡ Ok value → value_of step finish next cs ≡ Some value)
        → automaton.on place (λ next. automaton.run step finish (place + 1) next cs) o ≡ Ok value → option_and_then (λ next. value_of step finish next cs) o ≡ Some value
    at None more e = absurd (cc)
    at (Some next) more e = more next e

pub read_value : {R T : Type 0} (step : R → ℕ → Option R) (finish : R → Option T) (place : ℕ) (reading : R) (text : List ℕ) (value : T) → value_of step finish reading text ≡ Some value → automaton.run step finish place reading text ≡ Ok value
read_value step finish place reading [] value e = ap (automaton.ended place) e
read_value {R} {T} step finish place reading (c ∷ cs) value e = at (step reading c) (λ next. read_value step finish (place + 1) next cs value) e
  where
    at : (o : Option R) → ((next : R) → value_of step finish next cs ≡ Some value → automaton.run step finish (place + 1) next cs ≡ Ok value)
        → option_and_then (λ next. value_of step finish next cs) o ≡ Some value → automaton.on place (λ next. automaton.run step finish (place + 1) next cs) o ≡ Ok value
    at None more e = absurd (cc)
    at (Some next) more e = more next e

-- a step that is chosen by a test
pub branch : {A T P : Type 0} (k : A → Option T) (value : T) (t : Bool) (x y : Option A) → (t ≡ true → option_and_then k x ≡ Some value → P) → (t ≡ false → option_and_then k y ≡ Some value → P) → option_and_then k (if t then x else y) ≡ Some value → P
branch k value true x y f g e = f refl e
branch k value false x y f g e = g refl e

-- pieces of texts
pub in_front : (passes : ℕ → Bool) (Q : Form) (c : ℕ) (cs : List ℕ) → passes c ≡ true → (AnyOf passes ▸ Q) cs → (AnyOf passes ▸ Q) (c ∷ cs)
in_front passes Q c cs e (a, b, is, all, more) = (c ∷ a, b, ap (λ xs. c ∷ xs) is, rw e all, more)

pub joined : (P Q : Form) (a b : List ℕ) → P a → Q b → (P ▸ Q) (a ++ b)
joined P Q a b p q = (a, b, refl, p, q)

pub grouped : (P Q R : Form) (text a b : List ℕ) → text ≡ a ++ b → P a → (Q ▸ R) b → ((P ▸ Q) ▸ R) text
grouped P Q R text a b e p (x, y, f, q, r) = (a ++ x, y, e ∙ (ap (λ z. a ++ z) f ∙ sym (append_assoc a x y)), (a, x, refl, p, q), r)

pub rest_le : (text a b : List ℕ) → text ≡ a ++ b → length b ≤ length text
rest_le text a b e = let l : length text ≡ length a + length b = ap length e ∙ length-append a b in omega (arith, l)

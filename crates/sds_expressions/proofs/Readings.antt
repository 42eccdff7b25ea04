-- A text that is read character by character: where each state that is reached can go on to an end, a text is refused at its first
-- bad place.
use Rattle.std.proofs.Common.{◌≡◌, ℕ, suc, ◌+◌, ◌<◌, ◌≤◌, true, List, [], ◌∷◌, ◌++◌, length, take, Option, Some, None, Result, Ok, Err, refl, sym, ap, subst, ◌∙◌, arith}
use Rattle.std.proofs.Math.Utf8.{scalar}
use Rattle.std.specs.Str.{all_scalars}
use Rattle.sds_expressions.specs.Automaton.{ended, on, run}

-- up to the place some text that goes on is read, and no text that goes on after it is
pub record IsBadPlace {T : Type 0} (read : List ℕ → Result T ℕ) (text : List ℕ) (place : ℕ) : Type 0 where
  pub within : place ≤ length text
  pub hopeful : (more : List ℕ) × (all_scalars more ≡ true) × (value : T) × (read (take place text ++ more) ≡ Ok value)
  pub hopeless : place < length text → (more : List ℕ) → read (take (place + 1) text ++ more) ≡ Err place

-- some way to go on from a state is read
abbrev pub CanEnd : {R T : Type 0} → (R → ℕ → Option R) → (R → Option T) → R → Type 0
CanEnd {R} {T} step finish reading = (more : List ℕ) × (all_scalars more ≡ true) × (value : T) × ((place : ℕ) → run step finish place reading more ≡ Ok value)

pub done : {R T : Type 0} (step : R → ℕ → Option R) (finish : R → Option T) (reading : R) (value : T) → finish reading ≡ Some value → CanEnd step finish reading
done step finish reading value is = ([], refl, value, λ place. ap (ended place) is)

pub one_more : {R T : Type 0} (step : R → ℕ → Option R) (finish : R → Option T) (reading next : R) (c : ℕ) → step reading c ≡ Some next → scalar c ≡ true → CanEnd step finish next → CanEnd step finish reading
one_more step finish reading next c is good can = (c ∷ can.0, rw (good, can.1) refl, can.2, λ place. ap (on place (λ state. run step finish (place + 1) state can.0)) is ∙ can.3 (place + 1))

-- what is said of a text that is refused from a state
pub record Bad {R T : Type 0} (step : R → ℕ → Option R) (finish : R → Option T) (start : ℕ) (reading : R) (text : List ℕ) (place : ℕ) : Type 0 where
  pub count : ℕ
  pub is : place ≡ start + count
  pub within : count ≤ length text
  pub more : List ℕ
  pub scalars : all_scalars more ≡ true
  pub value : T
  pub hopeful : run step finish start reading (take count text ++ more) ≡ Ok value
  pub hopeless : count < length text → (others : List ℕ) → run step finish start reading (take (suc count) text ++ others) ≡ Err place

first_bad : {R T : Type 0} (step : R → ℕ → Option R) (finish : R → Option T) (Holds : R → Type 0)
    → ((reading next : R) (c : ℕ) → Holds reading → step reading c ≡ Some next → Holds next)
    → ((reading : R) → Holds reading → CanEnd step finish reading)
    → (text : List ℕ) (start : ℕ) (reading : R) (place : ℕ) → Holds reading → run step finish start reading text ≡ Err place → Bad step finish start reading text place
first_bad {R} {T} step finish Holds keeps can [] start reading place holds is =
    let go = can reading holds in
    record { count = 0; is = at (finish reading) is; within = omega arith; more = go.0; scalars = go.1; value = go.2; hopeful = go.3 start; hopeless = λ below others. absurd (omega arith) }
  where
    at : (value : Option T) → ended start value ≡ Err place → place ≡ start + 0
    at None e = let same : start ≡ place = cc in omega (arith, same)
    at (Some value) e = absurd (cc)
first_bad {R} {T} step finish Holds keeps can (c ∷ cs) start reading place holds is = at (step reading c) refl is (λ next e. first_bad step finish Holds keeps can cs (start + 1) next place (keeps reading next c holds e))
  where
    at : (o : Option R) → step reading c ≡ o → on start (λ next. run step finish (start + 1) next cs) o ≡ Err place
        → ((next : R) → step reading c ≡ Some next → run step finish (start + 1) next cs ≡ Err place → Bad step finish (start + 1) next cs place) → Bad step finish start reading (c ∷ cs) place
    at None e f more =
        let same : start ≡ place = cc in
        let go = can reading holds in
        record { count = 0; is = omega (arith, same); within = omega arith; more = go.0; scalars = go.1; value = go.2; hopeful = go.3 start; hopeless = λ below others. ap (on start (λ next. run step finish (start + 1) next others)) e ∙ f }
    at (Some next) e f more =
        let rest = more next e f in
        record {
          count = suc rest.count;
          is = omega (arith, rest.is);
          within = omega (arith, rest.within);
          more = rest.more;
          scalars = rest.scalars;
          value = rest.value;
          hopeful = ap (on start (λ next. run step finish (start + 1) next (take rest.count cs ++ rest.more))) e ∙ rest.hopeful;
          hopeless = λ below others. ap (on start (λ next. run step finish (start + 1) next (take (suc rest.count) cs ++ others))) e ∙ rest.hopeless (omega (arith, below)) others;
        }

-- of a text that is read from the beginning
pub first : {R T : Type 0} (step : R → ℕ → Option R) (finish : R → Option T) (read : List ℕ → Result T ℕ) (beginning : R) → ((text : List ℕ) → run step finish 0 beginning text ≡ read text)
    → (Holds : R → Type 0) → ((reading next : R) (c : ℕ) → Holds reading → step reading c ≡ Some next → Holds next) → ((reading : R) → Holds reading → CanEnd step finish reading)
    → Holds beginning → (text : List ℕ) (place : ℕ) → read text ≡ Err place → IsBadPlace read text place
first step finish read beginning same Holds keeps can holds text place is =
    let bad = first_bad step finish Holds keeps can text 0 beginning place holds (same text ∙ is) in
    let count : bad.count ≡ place = omega (arith, bad.is) in
    let more : suc bad.count ≡ place + 1 = omega (arith, bad.is) in
    record {
      within = omega (arith, bad.is, bad.within);
      hopeful = (bad.more, bad.scalars, bad.value, sym (same (take place text ++ bad.more)) ∙ subst (λ n. run step finish 0 beginning (take n text ++ bad.more) ≡ Ok bad.value) count bad.hopeful);
      hopeless = λ below others. sym (same (take (place + 1) text ++ others)) ∙ subst (λ n. run step finish 0 beginning (take n text ++ others) ≡ Err place) more (bad.hopeless (omega (arith, bad.is, below)) others);
    }

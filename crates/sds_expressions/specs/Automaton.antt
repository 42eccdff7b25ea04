-- Reading character by character: a character leads from one state to the next, or to none.
use Rattle.std.specs.Prelude.{◌≡◌, ℕ, ◌+◌, Bool, List, [], ◌∷◌, Option, Some, None, Result, Ok, Err, IfOk, if◌then◌else◌}

-- what a text says that ends at this place
abbrev pub ended : {T : Type 0} → ℕ → Option T → Result T ℕ
ended place (Some value) = Ok value
ended place None = Err place

-- what the rest gives from the state that a character leads to
abbrev pub on : {S T : Type 0} → ℕ → (S → Result T ℕ) → Option S → Result T ℕ
on place rest (Some next) = rest next
on place rest None = Err place

-- What a text says from a state, by what a character leads to and by what a text says that ends in
-- a state; or the place of the first character that leads to none.
abbrev pub run : {S T : Type 0} → (S → ℕ → Option S) → (S → Option T) → ℕ → S → List ℕ → Result T ℕ
run step finish place state [] = ended place (finish state)
run step finish place state (c ∷ cs) =
    on place (λ next. run step finish (place + 1) next cs) (step state c)

-- what a call returns that reads a character: whether it leads to this state, or to none
abbrev pub LeadsTo : {S E : Type 0} → Result Bool E → S → Option S → Type 0
LeadsTo result made next = IfOk result (λ leads. (if leads then Some made else None) ≡ next)

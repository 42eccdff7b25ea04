-- What a text reads as by a form: the value that it says, or the place at which it leaves the form.
use Rattle.std.specs.Prelude.{◌≡◌, ◌≤◌, ◌<◌, ◌+◌, ℕ, true, List, ◌++◌, length, take, Result, Ok, Err}
use Rattle.std.specs.Str.{all_scalars}

-- A form says of a text and a value whether the text says that value. The text hasn't the form, and
-- this is the place of the first character from which no continuation has it: what stands before it
-- goes on to a text of the form, and with the character no text that goes on so is one. Where the
-- text ends too early the place is its length.
pub record IsFirstBad {T : Type 0} (IsForm : List ℕ → T → Type 0) (text : List ℕ) (place : ℕ)
    : Type 0 where
  pub within : place ≤ length text
  pub malformed : (value : T) → IsForm text value → ⊥
  pub hopeful :
      (more : List ℕ) × (all_scalars more ≡ true) × (value : T)
      × IsForm (take place text ++ more) value
  pub hopeless :
      place < length text → (more : List ℕ) (value : T)
      → IsForm (take (place + 1) text ++ more) value → ⊥

-- the value that the text says, or the first bad place
abbrev pub ReadsAs : {T : Type 0} → (List ℕ → T → Type 0) → List ℕ → Result T ℕ → Type 0
ReadsAs IsForm text (Ok value) = IsForm text value
ReadsAs IsForm text (Err place) = IsFirstBad IsForm text place

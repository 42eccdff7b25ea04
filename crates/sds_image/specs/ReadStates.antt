-- Which state records tell, or why they tell none.
use Rattle.std.specs.Prelude.{◌≡◌, ⊤, ℕ, Bool, true, false, List, [], codes, None, Some, IsSomeAnd, Result, Ok, Err, slice_get}
use Rattle.std.specs.List.{list_any}
use Rattle.std.specs.Str.{bytes_eq}
use Rattle.sds_types.specs.declared.config.Config.{Config}
use Rattle.sds_history.specs.history.Acts.{State}
use Rattle.sds_history.specs.history.Records.{Record}
use Rattle.sds_records.specs.Told.{record_of_told}
use Rattle.sds_records.specs.declared.told.Told.{Told}
use Rattle.sds_image.specs.Meaning.{meaning_of}
use Rattle.sds_image.specs.Reading.{AreTold, IsFirstBad, first_disagreement, state_told}
use Rattle.sds_image.specs.declared.refusal.StateRefusal.{StateRefusal}
use Rattle.sds_image.specs.declared.refusal.StateRefusal.TheVariants.{BadRecord, Contradicts, NoMemory}
use Rattle.sds_image.specs.declared.state.State as kept

-- a record has the key of the node itself
abbrev pub has_me : List Record → Bool
has_me records = list_any (λ (kept : Record). bytes_eq kept.key (codes "me")) records

-- the records tell parts that agree, and the state of those parts
pub record TellState (config : Config) (records : List Record) (state : State) : Type 0 where
  pub parts : List Told
  pub told : AreTold config records parts
  pub state_is : state_told config parts ≡ Some state
  pub agree : first_disagreement config state parts ≡ None

-- the first bad record has a key
pub record IsBadKey (config : Config) (records : List Record) (key : List ℕ) : Type 0 where
  pub place : ℕ
  pub first : IsFirstBad config records place
  pub own_key : IsSomeAnd (slice_get records place) (λ (kept : Record). kept.key ≡ key)

-- where no record is that of the node itself, the key is empty, whatever the records are; else it
-- is that of the first bad record
pub record IsBadRecord (config : Config) (records : List Record) (key : List ℕ) : Type 0 where
  pub without_me : has_me records ≡ false → key ≡ []
  pub with_me : has_me records ≡ true → IsBadKey config records key

-- the records tell parts, and the first of these that disagrees with the state of all of them has
-- a record with a key
pub record IsContradiction (config : Config) (records : List Record) (key : List ℕ) : Type 0 where
  pub parts : List Told
  pub told : AreTold config records parts
  pub state : State
  pub state_is : state_told config parts ≡ Some state
  pub part : Told
  pub first : first_disagreement config state parts ≡ Some part
  pub own_key : (record_of_told config part).key ≡ key

-- what records are read as
abbrev pub IsReading : Config → List Record → Result kept.State StateRefusal → Type 0
IsReading config records (Ok state) = TellState config records (meaning_of state)
IsReading config records (Err (BadRecord key)) = IsBadRecord config records key
IsReading config records (Err (Contradicts key)) = IsContradiction config records key
IsReading config records (Err NoMemory) = ⊤

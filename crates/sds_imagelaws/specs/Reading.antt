-- Laws of reading: records that tell parts which agree are the image of the state that they tell,
-- and the image of a state tells it.
use Rattle.std.specs.Prelude.{◌≡◌, ℕ, List, None, Some, Err}
use Rattle.std.specs.List.{All}
use Rattle.sds_types.specs.declared.config.Config.{Config}
use Rattle.sds_trade.specs.rules.Sound.{IsSound}
use Rattle.sds_history.specs.history.Acts.{State}
use Rattle.sds_history.specs.history.Image.{image_of}
use Rattle.sds_history.specs.history.Records.{Record}
use Rattle.sds_history.specs.history.SoundStates.{IsSoundState}
use Rattle.sds_records.specs.Told.{IsHeldBatch, IsHeldLane, IsHeldWriter}
use Rattle.sds_records.specs.declared.told.Told.{Told}
use Rattle.sds_image.specs.ReadStates.{IsReading}
use Rattle.sds_image.specs.Reading.{AreTold, IsFirstBad, first_disagreement, state_told}
use Rattle.sds_image.specs.declared.refusal.StateRefusal.{StateRefusal}
use Rattle.sds_image.specs.declared.refusal.StateRefusal.TheVariants.{NoMemory}

-- the numbers of a state have the widths that they are kept in, as they have at every node: those
-- of its writers, batches and lanes. The others of a sound state are counted, and so have theirs
pub record AreHeld (state : State) : Type 0 where
  pub writers : All IsHeldWriter state.writers
  pub batches : All IsHeldBatch state.batches
  pub lanes : All IsHeldLane state.lanes

-- records whose parts agree tell a sound state whose numbers have their widths, and are its image
abbrev pub AgreeingRecordsAreImages : Type 0
AgreeingRecordsAreImages = (config : Config) (records : List Record) (parts : List Told)
    (state : State) → IsSound config → AreTold config records parts
    → state_told config parts ≡ Some state → first_disagreement config state parts ≡ None
    → IsSoundState config state × (AreHeld state × (image_of config state ≡ records))

-- of records that tell parts none is bad
abbrev pub ToldRecordsAreGood : Type 0
ToldRecordsAreGood = (config : Config) (records : List Record) (parts : List Told) (place : ℕ)
    → AreTold config records parts → IsFirstBad config records place → ⊥

-- records tell a state: no record is bad and no part disagrees
pub record TellsState (config : Config) (state : State) : Type 0 where
  pub parts : List Told
  pub told : AreTold config (image_of config state) parts
  pub state_is : state_told config parts ≡ Some state
  pub agree : first_disagreement config state parts ≡ None

-- the image of a sound state tells it
abbrev pub ImagesAreTold : Type 0
ImagesAreTold = (config : Config) (state : State) → IsSound config
    → IsSoundState config state → AreHeld state → TellsState config state

-- so it is read as a state, and refused for nothing but want of memory
abbrev pub ImagesAreRead : Type 0
ImagesAreRead = (config : Config) (state : State) → IsSound config
    → IsSoundState config state → AreHeld state → (refusal : StateRefusal)
    → IsReading config (image_of config state) (Err refusal) → refusal ≡ NoMemory

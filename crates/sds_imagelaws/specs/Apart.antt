-- Sound states with one image are one state.
use Rattle.std.specs.Prelude.{◌≡◌, ℕ, ◌<◌, ◌^◌, IfSome}
use Rattle.std.specs.List.{All}
use Rattle.sds_types.specs.declared.batch.OutBatch.{OutBatch}
use Rattle.sds_types.specs.declared.batch.Standing.{Standing}
use Rattle.sds_types.specs.declared.batch.Standing.TheVariants.{New, Erred, Acked}
use Rattle.sds_types.specs.declared.config.Config.{Config}
use Rattle.sds_types.specs.declared.lane.LaneError.{LaneError}
use Rattle.sds_types.specs.declared.lane.LaneIn.{LaneIn}
use Rattle.sds_trade.specs.rules.Sound.{IsSound}
use Rattle.sds_history.specs.history.Acts.{State}
use Rattle.sds_history.specs.history.Image.{image_of}
use Rattle.sds_history.specs.history.SoundStates.{IsSoundState}

-- a number of 64 bits
abbrev pub HasBits : ℕ → Type 0
HasBits number = number < 2 ^ 64

abbrev pub StandingHasBits : Standing → Type 0
StandingHasBits New = Unit {0}
StandingHasBits Acked = Unit {0}
StandingHasBits (Erred row rule) = HasBits row

abbrev pub ErrorHasBits : LaneError → Type 0
ErrorHasBits error = HasBits error.batch × HasBits error.row

-- the numbers of rows and batches in error have 64 bits, as they have at every node; the other
-- numbers of a sound state are counted, and so have them. A text of digits has 64 of them at most
pub record ErrorsHaveBits (state : State) : Type 0 where
  pub batches : All (λ (batch : OutBatch). StandingHasBits batch.standing) state.batches
  pub lanes : All (λ (lane : LaneIn). IfSome lane.error ErrorHasBits) state.lanes

abbrev pub ImagesTellStatesApart : Type 0
ImagesTellStatesApart = (config : Config) (a b : State) → IsSound config
    → IsSoundState config a → IsSoundState config b → ErrorsHaveBits a → ErrorsHaveBits b
    → image_of config a ≡ image_of config b → a ≡ b

-- What is kept of a lane after a batch of it, and which answers need no act.
use Rattle.std.specs.Prelude.{ℕ, Bool, true, false, None, Some}
use Rattle.sds_types.specs.declared.lane.LaneIn.{LaneIn}
use Rattle.sds_types.specs.declared.load_answer.LoadAnswer.{LoadAnswer}
use Rattle.sds_types.specs.declared.load_answer.LoadAnswer.TheVariants as answer
use Rattle.sds_types.specs.declared.prepared.Prepared.{Prepared}

abbrev pub loaded_lane : ℕ → Prepared → Bool → LaneIn
loaded_lane channel batch ignored = record {
  peer = batch.from;
  channel = channel;
  highest = batch.batch;
  ignored = Some ignored;
  error = None;
}

-- an answer that a lane alone gives
abbrev pub is_of_lane : LoadAnswer → Bool
is_of_lane answer.Again = true
is_of_lane (answer.Held batch row rule) = true
is_of_lane (answer.Loaded place) = false
is_of_lane (answer.Ignored place) = false
is_of_lane (answer.Erred row rule) = false

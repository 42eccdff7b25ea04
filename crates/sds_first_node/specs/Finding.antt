-- What a place in one of a node's lists means for looking up and for putting in its place.
use Rattle.std.specs.Prelude.{◌≡◌, ℕ, ◌<◌, List, [], ◌∷◌, ◌++◌, length, None, slice_get, slice_set}
use Rattle.sds_types.specs.declared.lane.LaneIn.{LaneIn}
use Rattle.sds_types.specs.declared.counts.WriterLast.{WriterLast}
use Rattle.sds_first_spec.specs.Kept.{writer_in, with_writer, with_lane}

-- nothing is kept of the writer
pub record IsNoWriter (writer : List ℕ) (lasts : List WriterLast) : Type 0 where
  pub none : writer_in writer lasts ≡ None
  pub put : (new : WriterLast) → new.writer ≡ writer → with_writer new lasts ≡ lasts ++ new ∷ []

-- what is kept of the writer stands at a place
pub record IsWriterAt (writer : List ℕ) (lasts : List WriterLast) (place : ℕ) : Type 0 where
  pub within : place < length lasts
  pub found : writer_in writer lasts ≡ slice_get lasts place
  pub put : (new : WriterLast) → new.writer ≡ writer → with_writer new lasts ≡ slice_set lasts place new

-- nothing is kept of the lane
pub record IsNoLane (peer : List ℕ) (channel : ℕ) (lanes : List LaneIn) : Type 0 where
  pub put : (new : LaneIn) → new.peer ≡ peer → new.channel ≡ channel → with_lane new lanes ≡ lanes ++ new ∷ []

-- what is kept of the lane stands at a place
pub record IsLaneAt (peer : List ℕ) (channel : ℕ) (lanes : List LaneIn) (place : ℕ) : Type 0 where
  pub within : place < length lanes
  pub put : (new : LaneIn) → new.peer ≡ peer → new.channel ≡ channel → with_lane new lanes ≡ slice_set lanes place new

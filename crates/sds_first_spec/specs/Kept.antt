-- What a node keeps of each writer and of each lane. Each stands where it first came; the order of the kept records comes later.
use Rattle.std.specs.Prelude.{ℕ, Bool, ◌&&◌, ◌==◌, if◌then◌else◌, List, [], ◌∷◌, Option, None, Some}
use Rattle.std.specs.Str.{bytes_eq}
use Rattle.sds_types.specs.declared.lane.LaneIn.{LaneIn}
use Rattle.sds_types.specs.declared.counts.WriterLast.{WriterLast}

-- what is kept of a writer
abbrev pub writer_in : List ℕ → List WriterLast → Option WriterLast
writer_in writer [] = None
writer_in writer (last ∷ lasts) = if bytes_eq last.writer writer then Some last else writer_in writer lasts

-- the list with this in the place of what was kept of its writer, or behind the others
abbrev pub with_writer : WriterLast → List WriterLast → List WriterLast
with_writer new [] = new ∷ []
with_writer new (last ∷ lasts) = if bytes_eq last.writer new.writer then new ∷ lasts else last ∷ with_writer new lasts

abbrev pub is_lane : List ℕ → ℕ → LaneIn → Bool
is_lane peer channel lane = bytes_eq lane.peer peer && lane.channel == channel

-- the highest batch loaded from a peer in a channel, or 0
abbrev pub highest_in : List ℕ → ℕ → List LaneIn → ℕ
highest_in peer channel [] = 0
highest_in peer channel (lane ∷ lanes) = if is_lane peer channel lane then lane.highest else highest_in peer channel lanes

-- the list with this in the place of what was kept of its lane, or behind the others
abbrev pub with_lane : LaneIn → List LaneIn → List LaneIn
with_lane new [] = new ∷ []
with_lane new (lane ∷ lanes) = if is_lane new.peer new.channel lane then new ∷ lanes else lane ∷ with_lane new lanes

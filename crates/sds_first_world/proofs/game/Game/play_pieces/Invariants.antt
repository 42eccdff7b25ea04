use Rattle.std.proofs.Common.{◌≡◌, ◌<◌, ◌^◌, ◌+◌, ◌++◌, [], ℕ, Bool, false, List, length}
use Rattle.sds_line.specs.Splitting.{Split, is_finished, lines_in, reach}
use Rattle.sds_first_world.specs.Games.{Reads, IsFront, Goes, GoesOn}
use Rattle.sds_first_world.specs.Sound.{IsSoundPlace}
use Rattle.sds_first_world.proofs.game.Game.play_pieces.Given as goal

abbrev pub invariant-loop-rest : goal.invariant-loop-rest
invariant-loop-rest l = record {
  fed : List ℕ;
  parts : fed ++ l.rest ≡ l.text;
  place : IsSoundPlace l.self.place;
  built : l.self.is_built ≡ l.initial.self.is_built;
  phase : is_finished l.lines.phase ≡ false;
  room : reach l.lines.split + length l.rest < 2 ^ 63;
  reads : Reads l.lines;
  plays : (is_over : Bool) (whole : Split) → IsFront (lines_in false l.text) whole → length whole.lines < 2 ^ 62 → Goes is_over whole [] l.initial.self → GoesOn is_over whole fed false l.self l.lines;
}

abbrev pub decreases-loop-rest : goal.decreases-loop-rest
decreases-loop-rest l = length l.rest

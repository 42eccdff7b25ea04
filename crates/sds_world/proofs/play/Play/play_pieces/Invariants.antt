use Rattle.std.proofs.Common.{◌≡◌, ◌<◌, ◌^◌, ◌+◌, ◌++◌, [], ℕ, Bool, false, List, length}
use Rattle.sds_line.specs.Splitting.{Split, is_finished, lines_in, reach}
use Rattle.sds_types.specs.declared.config.Config.{Config}
use Rattle.sds_world.specs.Reading.{Reads, IsFront, Goes, GoesOn}
use Rattle.sds_world.specs.Scening.{IsPlay}
use Rattle.sds_world.proofs.play.Play.play_pieces.Given as goal

abbrev pub invariant-loop-rest : goal.invariant-loop-rest
invariant-loop-rest l = record {
  fed : List ℕ;
  parts : fed ++ l.rest ≡ l.text;
  play : IsPlay l.self;
  phase : is_finished l.lines.phase ≡ false;
  room : reach l.lines.split + length l.rest < 2 ^ 63;
  reads : Reads l.lines;
  plays : (config : Config) (noise : List ℕ) (is_over : Bool) (whole : Split) → IsFront (lines_in false l.text) whole → Goes config noise is_over whole [] l.initial.self
      → GoesOn config noise is_over whole fed false l.self l.lines;
}

abbrev pub decreases-loop-rest : goal.decreases-loop-rest
decreases-loop-rest l = length l.rest

use Rattle.std.proofs.Common.{◌≡◌, ℕ, Bool, false, List, length}
use Rattle.sds_line.specs.declared.line.Line.{Line as TextLine}
use Rattle.sds_line.specs.Splitting.{Split, Follows, is_finished, left, lines_in, reach}
use Rattle.sds_types.specs.declared.config.Config.{Config}
use Rattle.sds_world.specs.Reading.{Reads, IsFront, Goes}
use Rattle.sds_world.specs.Scening.{IsPlay}
use Rattle.sds_world.proofs.Turning.{Midway}
use Rattle.sds_world.proofs.play.Play.play_ready.Given as goal

abbrev pub invariant-loop-line : goal.invariant-loop-line
invariant-loop-line l = record {
  reads : Reads l.lines;
  play : IsPlay l.self;
  phase : is_finished l.initial.lines.phase ≡ false → is_finished l.lines.phase ≡ false;
  reach : is_finished l.initial.lines.phase ≡ false → reach l.lines.split ≡ reach l.initial.lines.split;
  plays : (config : Config) (noise text : List ℕ) (taken : List TextLine) (finished is_over : Bool) (whole : Split) → IsFront (lines_in finished text) whole
      → Follows text taken finished l.initial.lines → Goes config noise is_over whole taken l.initial.self
      → Midway config noise is_over whole text finished l.lines l.self;
}

abbrev pub decreases-loop-line : goal.decreases-loop-line
decreases-loop-line l = length (left l.lines).lines

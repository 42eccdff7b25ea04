use Rattle.std.specs.List.{All}
use Rattle.sds_measure.specs.Fitting.{Fits}
use Rattle.sds_measure.proofs.routing.changes_of.Given as goal

abbrev pub invariant-loop-place : goal.invariant-loop-place
invariant-loop-place l = All (Fits l.defs) l.changes.items

use Rattle.std.proofs.Common.{◌≡◌, drop}
use Rattle.sds_outside.specs.Stands.{stand_of}
use Rattle.sds_outside.proofs.mem_keeper.stand_of.Given as goal

abbrev pub invariant-loop-fail : goal.invariant-loop-fail
invariant-loop-fail l = stand_of (drop l.fail-index l.commits) l.number ≡ stand_of l.commits l.number

use Rattle.std.proofs.Common.{◌≡◌, ◌++◌, length}
use Rattle.sds_trade.specs.rules.OwnWrites.{every_other}
use Rattle.sds_capture.proofs.own_rows.every_other.Given as goal

abbrev pub invariant-loop-rest : goal.invariant-loop-rest
invariant-loop-rest l = l.found.items ++ every_other l.rest ≡ every_other l.fields

abbrev pub decreases-loop-rest : goal.decreases-loop-rest
decreases-loop-rest l = length l.rest

use Rattle.std.proofs.Common.{◌≡◌, drop}
use Rattle.sds_value.specs.Stamps.{begins_like}
use Rattle.sds_value.proofs.stamps.begins_like.Given as goal

abbrev pub invariant-loop-i : goal.invariant-loop-i
invariant-loop-i l = begins_like (drop l.i l.pattern) (drop l.i l.bytes) ≡ begins_like l.pattern l.bytes

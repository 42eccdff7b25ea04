use Rattle.std.proofs.Common.{◌≡◌, ◌++◌, ℕ, List, drop, map}
use Rattle.sds_trade.specs.rules.MadeSides.{names_of}
use Rattle.sds_trade.specs.rules.Places.{is_among}
use Rattle.sds_transform.proofs.fields.is_listed.Given as goal

abbrev pub invariant-loop-other : goal.invariant-loop-other
invariant-loop-other l = is_among (names_of (drop l.other-index l.fields)) l.name ≡ is_among (names_of l.fields) l.name

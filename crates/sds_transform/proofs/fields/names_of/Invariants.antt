use Rattle.std.proofs.Common.{◌≡◌, ◌++◌, ℕ, List, drop, map}
use Rattle.sds_trade.specs.rules.MadeSides.{names_of}
use Rattle.sds_transform.proofs.fields.names_of.Given as goal

abbrev pub invariant-loop-name : goal.invariant-loop-name
invariant-loop-name l = l.names ++ names_of (drop l.name-index l.fields) ≡ names_of l.fields

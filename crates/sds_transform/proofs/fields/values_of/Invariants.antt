use Rattle.std.proofs.Common.{◌≡◌, ◌++◌, ℕ, List, drop, map}
use Rattle.sds_trade.specs.rules.MadeSides.{values_of}
use Rattle.sds_transform.proofs.fields.values_of.Given as goal

abbrev pub invariant-loop-field : goal.invariant-loop-field
invariant-loop-field l = l.values ++ values_of (drop l.field-index l.fields) ≡ values_of l.fields

use Rattle.std.proofs.Common.{◌≡◌, ◌++◌, ℕ, List, drop, map}
use Rattle.sds_trade.specs.rules.DocRows.{field_in}
use Rattle.sds_transform.proofs.fields.field_in.Given as goal

abbrev pub invariant-loop-other : goal.invariant-loop-other
invariant-loop-other l = field_in (drop l.other-index l.fields) l.name ≡ field_in l.fields l.name

use Rattle.std.proofs.Common.{◌≡◌, drop}
use Rattle.std.specs.List.{zip}
use Rattle.std.specs.Str.{chars}
use Rattle.sds_rowtexts.specs.Named.{value_named}
use Rattle.sds_rowtexts.proofs.keys.value_named.Given as goal

-- the value is that of the names that are left
abbrev pub invariant-loop-at : goal.invariant-loop-at
invariant-loop-at l = value_named (zip (drop l.at l.names) (drop l.at l.values)) (chars l.name) ≡ value_named (zip l.names l.values) (chars l.name)

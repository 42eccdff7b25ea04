use Rattle.std.proofs.Common.{◌≡◌, drop}
use Rattle.std.specs.List.{zip}
use Rattle.std.specs.Str.{chars}
use Rattle.sds_trade.specs.rules.DocRows.{field_in}
use Rattle.sds_rowtexts.proofs.keys.is_given.Given as goal

-- the field is that of the names that are left
abbrev pub invariant-loop-at : goal.invariant-loop-at
invariant-loop-at l = field_in (zip (drop l.at l.names) (drop l.at l.fields)) (chars l.name) ≡ field_in (zip l.names l.fields) (chars l.name)

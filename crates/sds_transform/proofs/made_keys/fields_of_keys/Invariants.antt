use Rattle.std.proofs.Common.{◌≡◌, ◌++◌, ℕ, List, drop, map}
use Rattle.sds_trade.specs.rules.DocRows.{field_in}
use Rattle.sds_transform.proofs.made_keys.fields_of_keys.Given as goal

abbrev pub invariant-loop-key : goal.invariant-loop-key
invariant-loop-key l = l.values ++ map (field_in l.fields) (drop l.key-index l.key-items) ≡ map (field_in l.fields) l.key-items

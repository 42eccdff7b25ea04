use Rattle.std.proofs.Common.{◌≡◌, ◌++◌, ℕ, List, drop, map}
use Rattle.sds_trade.specs.rules.DocRows.{field_in}
use Rattle.sds_transform.proofs.fields.looked_up.Given as goal

abbrev pub invariant-loop-name : goal.invariant-loop-name
invariant-loop-name l = l.made.items ++ map (λ (name : List ℕ). (name, field_in l.fields name)) (drop l.name-index l.names) ≡ map (λ (name : List ℕ). (name, field_in l.fields name)) l.names

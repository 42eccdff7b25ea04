use Rattle.std.proofs.Common.{◌≡◌, map, drop, List, ℕ, Bor}
use Rattle.sds_config.specs.Fields as listed
use Rattle.sds_config.proofs.fields.is_listed.Given as goal

-- the key is listed where one of the names to come is the key
abbrev pub invariant-loop-name : goal.invariant-loop-name
invariant-loop-name l =
    listed.is_listed (map (λ (n : Bor (List ℕ)). n.now) (drop l.name-index l.names)) l.key ≡ listed.is_listed (map (λ (n : Bor (List ℕ)). n.now) l.names) l.key

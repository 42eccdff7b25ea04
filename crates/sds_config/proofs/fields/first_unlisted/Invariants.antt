use Rattle.std.proofs.Common.{◌≡◌, map, List, ℕ, Bor}
use Rattle.std.specs.List.Sorted.{IsStrictlySortedBy}
use Rattle.std.specs.Map.{keys_of}
use Rattle.std.specs.String.{string_cmp}
use Rattle.toml.specs.View.{members_view}
use Rattle.sds_config.specs.Fields as listed
use Rattle.sds_config.proofs.fields.first_unlisted.Given as goal

-- the least key that isn't listed is among the members that are left, which ascend
abbrev pub invariant-loop-key : goal.invariant-loop-key
invariant-loop-key l =
    (listed.first_unlisted (map (λ (n : Bor (List ℕ)). n.now) l.names) (members_view l.key-iterator)
    ≡ listed.first_unlisted (map (λ (n : Bor (List ℕ)). n.now) l.names) (members_view l.table.entries))
    × IsStrictlySortedBy string_cmp (keys_of l.key-iterator)

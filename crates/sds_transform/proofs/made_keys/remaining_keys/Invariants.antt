use Rattle.std.proofs.Common.{◌≡◌, ◌++◌, ℕ, List, drop, map}
use Rattle.std.proofs.Common.{◌&&◌, not}
use Rattle.std.specs.List.{filter}
use Rattle.sds_trade.specs.rules.MadeSides.{is_implied, names_of, remaining_keys}
use Rattle.sds_trade.specs.rules.Places.{is_among}
use Rattle.sds_transform.proofs.made_keys.remaining_keys.Given as goal

abbrev pub invariant-loop-key : goal.invariant-loop-key
invariant-loop-key l = l.keys.items
    ++ filter (λ (key : List ℕ). is_implied l.policy && (is_among (names_of l.fields) key && not (is_among l.others key))) (drop l.key-index l.key-items)
    ≡ remaining_keys l.policy l.row l.fields l.others

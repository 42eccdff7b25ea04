use Rattle.std.proofs.Common.{◌≡◌, ◌++◌, drop, filter_map}
use Rattle.std.specs.List.{enumerate_from}
use Rattle.sds_delivery.specs.Placing.{mentioned_place, mentioned_places}
use Rattle.sds_delivery.proofs.order.put_mentioned.Given as goal

-- the places so far and those of the mentions that are left are all
abbrev pub invariant-loop-at : goal.invariant-loop-at
invariant-loop-at l =
    l.places.items ++ filter_map (mentioned_place l.mentions l.channels) (enumerate_from l.at (drop l.at l.mentions))
    ≡ l.fn.places.items ++ mentioned_places l.mentions l.channels

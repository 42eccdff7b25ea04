use Rattle.std.proofs.Common.{◌≡◌, ◌++◌, drop}
use Rattle.sds_delivery.specs.Placing.{unmentioned_from}
use Rattle.sds_delivery.proofs.order.put_unmentioned.Given as goal

-- the places so far and those of the batches that are left are all
abbrev pub invariant-loop-place : goal.invariant-loop-place
invariant-loop-place l =
    l.places.items ++ unmentioned_from l.place l.mentions l.channels (drop l.place l.channels)
    ≡ l.fn.places.items ++ unmentioned_from 0 l.mentions l.channels l.channels

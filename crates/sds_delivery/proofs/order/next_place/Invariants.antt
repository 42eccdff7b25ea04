use Rattle.std.proofs.Common.{◌≡◌, drop}
use Rattle.std.specs.Prelude.{slice_get}
use Rattle.sds_delivery.specs.Placing.{next_place, places_from}
use Rattle.sds_delivery.proofs.order.next_place.Given as goal

-- the place that is looked for comes after as many of the channel as are left to pass
abbrev pub invariant-loop-place : goal.invariant-loop-place
invariant-loop-place l =
    slice_get (places_from l.channel l.place (drop l.place l.channels)) l.passed ≡ next_place l.earlier l.channel l.channels

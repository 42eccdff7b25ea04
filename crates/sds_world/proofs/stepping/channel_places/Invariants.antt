use Rattle.std.proofs.Common.{◌≡◌, ◌++◌, drop}
use Rattle.std.specs.List.{filter_map}
use Rattle.sds_trade.specs.rules.Outcomes.{channel_place}
use Rattle.sds_world.proofs.stepping.channel_places.Given as goal

abbrev pub invariant-loop-name : goal.invariant-loop-name
invariant-loop-name l =
    l.places ++ filter_map (channel_place l.config) (drop l.name-index l.names) ≡ filter_map (channel_place l.config) l.names

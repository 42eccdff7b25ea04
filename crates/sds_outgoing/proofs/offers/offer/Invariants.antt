use Rattle.std.proofs.Common.{◌≡◌, ◌++◌, drop, filter, map}
use Rattle.std.specs.List.{flat_map}
use Rattle.std.specs.Str.{chars}
use Rattle.sds_batcher.specs.Order.{entry_of}
use Rattle.sds_history.specs.history.Messages.{is_wanted, offered_in}
use Rattle.sds_image.specs.Meaning.{meaning_of}
use Rattle.sds_outgoing.specs.Offering.{ids_of}
use Rattle.sds_outgoing.proofs.offers.offer.Given as goal

-- the batches so far and those of the channels that are left are all
abbrev pub invariant-loop-channel : goal.invariant-loop-channel
invariant-loop-channel l =
    l.ids.items ++ ids_of (flat_map (offered_in (meaning_of l.state) (chars l.to)) (filter (is_wanted l.channels) (map entry_of (drop l.channel-index l.channel-items))))
    ≡ ids_of (flat_map (offered_in (meaning_of l.state) (chars l.to)) (filter (is_wanted l.channels) (map entry_of l.channel-items)))

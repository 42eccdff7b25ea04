use Rattle.sds_received.proofs.Found.{channels_are}
use Rattle.sds_received.proofs.channels.channels_of.Goals as goal

pub returns : goal.returns
returns c = record { places = channels_are c.args.config.now c.args.docs.now c.places_of.result c.requires c.places_of.ensures }

use Rattle.sds_received.proofs.Back.{messages_have_channels}
use Rattle.sds_received.proofs.laws.messages_have_channels.Goals as goal

pub returns : goal.returns
returns c = record { channels = messages_have_channels }

use Rattle.sds_received.proofs.Back.{messages_are_read_back}
use Rattle.sds_received.proofs.laws.messages_are_read_back.Goals as goal

pub returns : goal.returns
returns c = record { back = messages_are_read_back }

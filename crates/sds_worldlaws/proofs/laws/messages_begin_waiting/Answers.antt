use Rattle.sds_worldlaws.proofs.Waiting.{messages_begin_waiting}
use Rattle.sds_worldlaws.proofs.laws.messages_begin_waiting.Goals as goal

pub returns : goal.returns
returns c = record { begin = messages_begin_waiting }

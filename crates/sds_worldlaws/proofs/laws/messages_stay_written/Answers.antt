use Rattle.sds_worldlaws.proofs.Written.{messages_stay_written}
use Rattle.sds_worldlaws.proofs.laws.messages_stay_written.Goals as goal

pub returns : goal.returns
returns c = record { stay = messages_stay_written }

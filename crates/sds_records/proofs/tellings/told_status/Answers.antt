use Rattle.sds_records.proofs.Words.{status_is}
use Rattle.sds_records.proofs.tellings.told_status.Goals as goal

pub returns-in-Text : goal.returns-in-Text
returns-in-Text c = λ ignored at. status_is c.args.status.now c.in-Text.word c.is.result ignored c.in-Text.is c.is.ensures at

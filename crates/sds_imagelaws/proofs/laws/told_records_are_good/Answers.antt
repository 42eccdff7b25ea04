use Rattle.sds_imagelaws.proofs.GoodRecords.{told_records_are_good}
use Rattle.sds_imagelaws.proofs.laws.told_records_are_good.Goals as goal

pub returns : goal.returns
returns c = record { good = told_records_are_good }

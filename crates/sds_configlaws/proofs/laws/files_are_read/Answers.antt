use Rattle.sds_configlaws.proofs.Total as total
use Rattle.sds_configlaws.proofs.laws.files_are_read.Goals as goal

pub returns : goal.returns
returns c = total.files_are_read

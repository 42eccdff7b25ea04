use Rattle.sds_first_spec.proofs.WorkedComputed.{loaded_is_again, sent_row_is_whole, standing_row_is_updated}
use Rattle.sds_first_spec.proofs.worked.loads_go_by_number.Goals as goal

pub returns-clause-batch : goal.returns-clause-batch
returns-clause-batch c = loaded_is_again

pub returns-clause-whole : goal.returns-clause-whole
returns-clause-whole c = sent_row_is_whole

pub returns-clause-row : goal.returns-clause-row
returns-clause-row c = standing_row_is_updated

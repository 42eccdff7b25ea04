use Rattle.sds_trade.proofs.ExtractingComputed.{changes_are_written, transforms_are_meant, others_are_not, deletes_are_not_added}
use Rattle.sds_trade.proofs.worked.changes_are_written.Goals as goal

pub returns-clause-written : goal.returns-clause-written
returns-clause-written c = changes_are_written

pub returns-clause-meant : goal.returns-clause-meant
returns-clause-meant c = transforms_are_meant

pub returns-clause-others : goal.returns-clause-others
returns-clause-others c = others_are_not

pub returns-clause-deletes : goal.returns-clause-deletes
returns-clause-deletes c = deletes_are_not_added

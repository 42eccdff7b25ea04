use Rattle.sds_trade.proofs.CutLaw.{cut_is_a_cut}
use Rattle.sds_trade.proofs.CutOnly.{changes_have_one_cut}
use Rattle.sds_trade.proofs.laws.changes_are_cut_once.Goals as goal

pub returns-clause-cut : goal.returns-clause-cut
returns-clause-cut c = cut_is_a_cut

pub returns-clause-only : goal.returns-clause-only
returns-clause-only c = changes_have_one_cut

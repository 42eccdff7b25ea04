use Rattle.sds_first_spec.proofs.CutOnly.{one_cut}
use Rattle.sds_first_spec.proofs.laws.changes_have_one_cut.Goals as goal

pub returns : goal.returns
returns c = one_cut

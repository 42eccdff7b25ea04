use Rattle.sds_first_spec.proofs.CutLaw.{cut_is_cut}
use Rattle.sds_first_spec.proofs.laws.cut_is_the_cut.Goals as goal

pub returns : goal.returns
returns c = cut_is_cut

use Rattle.sds_value.proofs.Fitting.{value_fits}
use Rattle.sds_value.proofs.laws.read_value_fits.Goals as goal

pub returns : goal.returns
returns c = value_fits

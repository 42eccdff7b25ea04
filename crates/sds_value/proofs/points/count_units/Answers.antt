use Rattle.sds_value.proofs.Weights.{units_some, units_over}
use Rattle.sds_value.proofs.points.count_units.Goals as goal

pub returns-in_default : goal.returns-in_default
returns-in_default c = units_over c.args.whole.now c.args.scale c.args.fraction.now c.in_default.ensures

pub returns : goal.returns
returns c = units_some c.add_fraction.result c.args.whole.now c.args.scale c.in-Some.sum c.args.fraction.now c.in-Some.ensures.1 c.add_fraction.ensures

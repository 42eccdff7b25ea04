use Rattle.std.proofs.Common.{FitsSigned, w64, rules}
use Rattle.std.proofs.lemmas.Int.{to_z-of_z}
use mir.Syntax.{w128}
use Rattle.sds_rowtexts.proofs.Inserted.{inserted}
use Rattle.sds_rowtexts.proofs.addends.addition_of.Goals as goal

pub returns-in-Insert-default : goal.returns-in-Insert-default
returns-in-Insert-default c =
    let fits_multiplier : FitsSigned w64 c.args.add.multiplier = search rules in
    let fits_new : FitsSigned w64 c.new_units.result = search rules in
    let fits_product : FitsSigned w128 c.product.result = search rules in
    let product = simp to_z-of_z at c.product.ensures in
    simp to_z-of_z (inserted c.args.row.now c.args.add c.new_units.result c.product.result c.in-Insert-default.is-0 c.new_units.ensures product)

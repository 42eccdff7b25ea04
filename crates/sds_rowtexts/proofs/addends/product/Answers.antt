use Rattle.std.proofs.lemmas.Int.{to_z-of_z}
use Rattle.sds_rowtexts.proofs.Wide.{difference_fits, product_fits, widened}
use Rattle.sds_rowtexts.proofs.addends.product.Goals as goal

pub overflow_mul-result : goal.overflow_mul-result
overflow_mul-result c =
    let n = c.ranges.multiplier in
    let a = c.ranges.new in
    let b = c.ranges.old in
    let nw = widened c.args.multiplier n in
    let aw = widened c.args.new a in
    let bw = widened c.args.old b in
    let d = difference_fits c.args.new c.args.old a b in
    let p = product_fits c.args.multiplier c.args.new c.args.old n a b in
    simp to_z-of_z p

pub returns : goal.returns
returns c =
    let n = c.ranges.multiplier in
    let a = c.ranges.new in
    let b = c.ranges.old in
    let nw = widened c.args.multiplier n in
    let aw = widened c.args.new a in
    let bw = widened c.args.old b in
    let d = difference_fits c.args.new c.args.old a b in
    let p = product_fits c.args.multiplier c.args.new c.args.old n a b in
    simp to_z-of_z

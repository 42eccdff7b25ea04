use Rattle.std.proofs.Common.{◌∙◌, sym, rules}
use Rattle.sds_types.specs.declared.transform.Point.TheVariants.{Load}
use Rattle.sds_transform.proofs.Meant.{is_made, passes}
use Rattle.sds_transform.proofs.transforms.at_load.Goals as goal

pub returns-then-is_transformed : goal.returns-then-is_transformed
returns-then-is_transformed c =
    c.in_ok-rows.ensures ∙ is_made c.args.config.now c.args.way.now Load c.args.row.now (sym c.is_transformed.ensures ∙ c.if-is_transformed.true)

pub returns : goal.returns
returns c =
    let plain = passes c.args.config.now c.args.way.now Load c.args.row.now (sym c.is_transformed.ensures ∙ c.if-is_transformed.false) in
    search rules

use Rattle.std.proofs.Common.{rules}
use Rattle.sds_types.specs.declared.row.RowStep.TheVariants.{Insert}
use Rattle.sds_trade.specs.rules.Fitting.{FitsStep}
use Rattle.sds_shown.proofs.Kept.{kept_by_step}
use Rattle.sds_shown.proofs.tests_parts.insert.Goals as goal

pub returns-clause-rows : goal.returns-clause-rows
returns-clause-rows c =
    let fits : FitsStep c.args.tables.now.defs (Insert c.args.place c.args.row) = search rules in
    kept_by_step c.args.tables.now.defs c.make.new.tables.defs c.args.tables.now.rows c.make.new.tables.rows (Insert c.args.place c.args.row)
    (λ few. c.steps_keep_tables.ensures c.args.tables.now.defs c.args.tables.now.rows (Insert c.args.place c.args.row) c.requires fits c.in_ok-make.ensures.allowed few)
    c.in_ok-make.ensures.rows c.in_ok-make.ensures.few c.make.ensures.defs

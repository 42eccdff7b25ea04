use Rattle.std.proofs.Common.{rules}
use Rattle.sds_types.specs.declared.row.RowStep.TheVariants.{Insert}
use Rattle.sds_rows.proofs.Lines.{kept_by_step}
use Rattle.sds_rows.proofs.tests_lines.insert.Goals as goal

pub returns : goal.returns
returns c =
    kept_by_step c.args.tables.now.defs c.make.new.tables.defs c.args.tables.now.rows c.make.new.tables.rows (Insert 0 c.args.row) c.requires (search rules)
    c.in_ok-make.ensures.allowed c.in_ok-make.ensures.rows c.in_ok-make.ensures.few c.make.ensures.defs

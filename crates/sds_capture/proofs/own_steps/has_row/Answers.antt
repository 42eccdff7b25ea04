use Rattle.std.proofs.Common.{◌∙◌, sym, ap}
use Rattle.std.specs.Prelude.{is_some, option_copied}
use Rattle.sds_capture.proofs.Rows.{row_stands}
use Rattle.sds_capture.proofs.own_steps.has_row.Goals as goal

pub returns-in-Some : goal.returns-in-Some
returns-in-Some c = ap (λ row. is_some (option_copied row)) (sym c.in-Some.is)
    ∙ row_stands c.args.tables.now.defs c.args.tables.now.rows c.args.table c.args.key.now _ c.row.ensures

pub returns-in-None : goal.returns-in-None
returns-in-None c = ap (λ row. is_some (option_copied row)) (sym c.in-None.is)
    ∙ row_stands c.args.tables.now.defs c.args.tables.now.rows c.args.table c.args.key.now _ c.row.ensures

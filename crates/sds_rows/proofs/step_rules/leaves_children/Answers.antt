use Rattle.std.proofs.Common.{◌∙◌, ◌&&◌, not, sym, ap, rules}
use Rattle.sds_rows.proofs.Judging.{leaves_delete, leaves_update}
use Rattle.sds_rows.proofs.step_rules.leaves_children.Goals as goal

pub returns-then-not-has_own_key : goal.returns-then-not-has_own_key
returns-then-not-has_own_key c =
    ap (λ b. not b && c.others_refer.result) (sym c.if-not-has_own_key.true)
    ∙ leaves_update c.args.defs.now c.args.rows.now c.in-Update.table c.in-Update.key c.in-Update.row c.args.step.now c.has_own_key.result c.others_refer.result
    c.in-Update.is (search rules) (search rules)

pub returns-in-Delete : goal.returns-in-Delete
returns-in-Delete c =
    leaves_delete c.args.defs.now c.args.rows.now c.in-Delete.table c.in-Delete.key c.args.step.now c.others_refer-in-Delete.result c.in-Delete.is (search rules)

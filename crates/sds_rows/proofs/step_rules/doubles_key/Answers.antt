use Rattle.std.proofs.Common.{◌∙◌, ◌&&◌, not, sym, ap, refl, rules}
use Rattle.sds_trade.specs.rules.Tables.{has_row, key_of}
use Rattle.sds_rows.proofs.Judging.{doubles_update}
use Rattle.sds_rows.proofs.step_rules.doubles_key.Goals as goal

pub returns-then-not-has_own_key : goal.returns-then-not-has_own_key
returns-then-not-has_own_key c =
    ap (λ b. not b && c.has_key_of-then-not-has_own_key.result) (sym c.if-not-has_own_key.true)
    ∙ doubles_update c.args.defs.now c.args.rows.now c.in-Update.table c.in-Update.key c.in-Update.row c.args.step.now c.has_own_key.result c.has_key_of-then-not-has_own_key.result
    c.in-Update.is (search rules) c.has_key_of-then-not-has_own_key.ensures

pub returns-else-not-has_own_key : goal.returns-else-not-has_own_key
returns-else-not-has_own_key c =
    let has = has_row c.args.defs.now c.args.rows.now c.in-Update.table (key_of c.args.defs.now c.in-Update.table c.in-Update.row) in
    ap not c.if-not-has_own_key.false ∙ (ap (λ b. not b && has) (sym c.if-not-has_own_key.false)
    ∙ doubles_update c.args.defs.now c.args.rows.now c.in-Update.table c.in-Update.key c.in-Update.row c.args.step.now c.has_own_key.result has
    c.in-Update.is (search rules) refl)

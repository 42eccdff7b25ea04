use Rattle.std.proofs.Common.{◌∙◌, ◌&&◌, ◌∷◌, [], not, sym, ap, refl, rules}
use Rattle.sds_trade.specs.rules.Tables.{has_row}
use Rattle.sds_rows.proofs.Judging.{has_beside}
use Rattle.sds_rows.proofs.references.has_other.Goals as goal

pub returns-then-is_old : goal.returns-then-is_old
returns-then-is_old c =
    let has = has_row c.args.defs.now c.args.rows.now c.args.parent (record { 0 = c.args.value.now ∷ [] }) in
    ap (λ b. not b && has) (sym c.if-is_old.true)
    ∙ has_beside c.args.defs.now c.args.rows.now c.args.table c.args.old.now c.args.parent (record { 0 = c.args.value.now ∷ [] }) c.is_old.result has c.is_old.ensures refl

pub returns : goal.returns
returns c =
    ap (λ b. not b && c.has_key.result) (sym c.if-is_old.false)
    ∙ has_beside c.args.defs.now c.args.rows.now c.args.table c.args.old.now c.args.parent (record { 0 = c.args.value.now ∷ [] }) c.is_old.result c.has_key.result c.is_old.ensures (search rules)

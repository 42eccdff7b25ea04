use Rattle.std.proofs.Common.{◌∙◌, ◌||◌, ◌∷◌, [], sym, ap, rules}
use Rattle.sds_rows.proofs.Judging.{after_insert, after_update}
use Rattle.sds_rows.proofs.references.stands_after.Goals as goal

pub returns-else-is_at : goal.returns-else-is_at
returns-else-is_at c =
    ap (λ b. b || c.has_key.result) (sym c.if-is_at.false)
    ∙ after_insert c.args.defs.now c.args.rows.now c.in-Insert.table c.in-Insert.row c.args.step.now c.args.parent (record { 0 = c.args.value.now ∷ [] }) c.is_at.result c.has_key.result
    c.in-Insert.is (search rules) (search rules)

pub returns-else-is_at-2 : goal.returns-else-is_at-2
returns-else-is_at-2 c =
    ap (λ b. b || c.has_other.result) (sym c.if-is_at-2.false)
    ∙ after_update c.args.defs.now c.args.rows.now c.in-Update.table c.in-Update.key c.in-Update.row c.args.step.now c.args.parent (record { 0 = c.args.value.now ∷ [] }) c.is_at-in-Update.result c.has_other.result
    c.in-Update.is (search rules) c.has_other.ensures

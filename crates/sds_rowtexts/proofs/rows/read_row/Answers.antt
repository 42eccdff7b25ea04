use Rattle.std.proofs.Common.{rules}
use Rattle.sds_rowtexts.proofs.Judging.{judged}
use Rattle.sds_rowtexts.proofs.rows.read_row.Goals as goal

pub returns-in-Err : goal.returns-in-Err
returns-in-Err c =
    let made = judged c.args.defs.now c.args.form c.args.number c.args.row.now c.args.adds.now c.in-Some.place c.index-defs-place.result c.in_ok-rule.field-0 c.in-Some.ensures c.index-defs-place.is c.in_ok-rule.ensures in
    search rules

pub returns-in_ok-with_adds-in-Ok-2 : goal.returns-in_ok-with_adds-in-Ok-2
returns-in_ok-with_adds-in-Ok-2 c =
    let made = judged c.args.defs.now c.args.form c.args.number c.args.row.now c.args.adds.now c.in-Some.place c.index-defs-place.result c.in_ok-rule.field-0 c.in-Some.ensures c.index-defs-place.is c.in_ok-rule.ensures in
    search rules

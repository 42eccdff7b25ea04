use Rattle.std.specs.List.{list_all}
use Rattle.sds_trade.specs.rules.Routers.{meets}
use Rattle.sds_router.specs.Asks.{has_wanted}
use Rattle.sds_router.proofs.Lists.{all_made, all_no}
use Rattle.sds_router.proofs.Rows.{meets_by}
use Rattle.sds_router.proofs.wanted.wanted_by.Goals as goal

pub returns-in_default : goal.returns-in_default
returns-in_default c = λ row at.
    let test = meets c.args.defs.now c.args.change.now row in
    all_no (has_wanted c.args.columns.now row.row) test c.loop-condition.wanted.items
    c.args.conditions.now c.loop-condition.condition-index c.condition-item.result
    (list_all test c.args.conditions.now) c.loop-condition-test.true c.condition-item.is
    (c.loop-condition.invariant row at)
    (meets_by c.args.defs.now c.args.change.now row c.condition-item.result c.args.columns.now
    c.in_ok-text.text _ at c.in_ok-text.ensures (c.in_default.ensures row.row))

pub loop-condition-preserved : goal.loop-condition-preserved
loop-condition-preserved c = λ row at.
    let test = meets c.args.defs.now c.args.change.now row in
    rw c.in_ok-push.ensures.items
    (all_made (has_wanted c.args.columns.now row.row) test c.loop-condition.wanted.items c.in-Some.one
    c.args.conditions.now c.loop-condition.condition-index c.condition-item.result
    (list_all test c.args.conditions.now) c.loop-condition-test.true c.condition-item.is
    (c.loop-condition.invariant row at)
    (meets_by c.args.defs.now c.args.change.now row c.condition-item.result c.args.columns.now
    c.in_ok-text.text _ at c.in_ok-text.ensures (c.in-Some.ensures row.row)))

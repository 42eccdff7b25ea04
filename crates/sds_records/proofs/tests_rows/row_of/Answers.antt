use Rattle.sds_records.proofs.Filled.{row_more}
use Rattle.sds_records.proofs.tests_rows.row_of.Goals as goal

pub loop-place-preserved : goal.loop-place-preserved
loop-place-preserved c = rw c.in_ok-push.ensures.ok
    (row_more c.args.columns.now c.loop-place.values c.loop-place.place c.index-columns-place.result
    c.in_ok-value_of.field-0 c.loop-place-test.true c.index-columns-place.is c.loop-place.invariant
    c.in_ok-value_of.ensures)

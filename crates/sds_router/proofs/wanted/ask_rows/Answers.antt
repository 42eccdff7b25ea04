use Rattle.std.proofs.Common.{◌&&◌, sym}
use Rattle.std.specs.Borrow.{Bor}
use Rattle.std.specs.List.{list_all, list_any}
use Rattle.sds_types.specs.declared.row.Row.{Row}
use Rattle.sds_trade.specs.rules.RoutedValues.{is_text, text_at}
use Rattle.sds_router.specs.Asks.{has_wanted, is_met, text_of_peer}
use Rattle.sds_router.proofs.Lists.{any_made, any_no}
use Rattle.sds_router.proofs.wanted.ask_rows.Goals as goal

pub loop-row-preserved : goal.loop-row-preserved
loop-row-preserved c = λ peer.
    let test = λ (row : Bor Row). list_all (has_wanted c.args.columns.now row.now) c.args.wanted.now
    && is_text (text_at c.args.columns.now row.now c.args.column) (text_of_peer peer c.args.by) in
    rw c.in_ok-push.ensures.items
    (any_made (is_met peer) test c.loop-row.asks.items c.in-Some.ask c.args.rows.now
    c.loop-row.row-index c.row-item.result (list_any test c.args.rows.now) c.loop-row-test.true
    c.row-item.is (c.loop-row.invariant peer) (rw c.in-Some.is at (c.in_ok-ask.ensures peer)))

pub loop-row-preserved-in_default : goal.loop-row-preserved-in_default
loop-row-preserved-in_default c = λ peer.
    let test = λ (row : Bor Row). list_all (has_wanted c.args.columns.now row.now) c.args.wanted.now
    && is_text (text_at c.args.columns.now row.now c.args.column) (text_of_peer peer c.args.by) in
    any_no (is_met peer) test c.loop-row.asks.items c.args.rows.now c.loop-row.row-index
    c.row-item.result (list_any test c.args.rows.now) c.loop-row-test.true c.row-item.is
    (c.loop-row.invariant peer) (sym (rw c.in_default.is at (c.in_ok-ask.ensures peer)))

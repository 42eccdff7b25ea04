use Rattle.std.proofs.Common.{◌≡◌, ◌&&◌, ◌||◌, drop}
use Rattle.std.specs.Borrow.{Bor}
use Rattle.std.specs.List.{list_all, list_any}
use Rattle.sds_value.specs.declared.row.Peer.{Peer}
use Rattle.sds_types.specs.declared.row.Row.{Row}
use Rattle.sds_trade.specs.rules.RoutedValues.{is_text, text_at}
use Rattle.sds_router.specs.Asks.{has_wanted, is_met, text_of_peer}
use Rattle.sds_router.proofs.wanted.ask_rows.Given as goal

-- what is asked so far and the rows that are left are all the rows
abbrev pub invariant-loop-row : goal.invariant-loop-row
invariant-loop-row l = (peer : Peer) →
    let test = λ (row : Bor Row). list_all (has_wanted l.columns row.now) l.wanted
    && is_text (text_at l.columns row.now l.column) (text_of_peer peer l.by) in
    (list_any (is_met peer) l.asks.items || list_any test (drop l.row-index l.rows))
    ≡ list_any test l.rows

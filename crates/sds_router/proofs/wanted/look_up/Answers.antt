use Rattle.std.proofs.Common.{◌≡◌, ◌∙◌, ◌==◌, ◌&&◌}
use Rattle.std.specs.List.{list_any}
use Rattle.sds_value.specs.declared.row.Peer.{Peer}
use Rattle.sds_types.specs.declared.row.TableRow.{TableRow}
use Rattle.sds_trade.specs.rules.Places.{columns_at}
use Rattle.sds_trade.specs.rules.Routers.{finds}
use Rattle.sds_router.specs.Asks.{is_named_by, row_names}
use Rattle.sds_router.specs.declared.naming.Naming.{Naming}
use Rattle.sds_router.proofs.Lists.{if_ok}
use Rattle.sds_router.proofs.Rows.{looked_up, nothing_found}
use Rattle.sds_router.proofs.wanted.look_up.Goals as goal

pub returns-in_default-wanted_in : goal.returns-in_default-wanted_in
returns-in_default-wanted_in g c = λ peer. c.nobody-in_default-wanted_in.ensures peer
    ∙ nothing_found c.args.defs.now (g.T.StandingRows.rows c.args.tables.now) c.args.change.now peer
    c.args.lookup.now c.in-Some.table c.columns_at.result.now c.in_ok-text.text c.in-Some.ensures
    c.columns_at.ensures c.in_ok-text.ensures c.in_default-wanted_in.ensures

pub returns : goal.returns
returns g c =
    let rows = g.T.StandingRows.rows c.args.tables.now in
    if_ok (λ (naming : Naming). (peer : Peer) → is_named_by peer naming
    ≡ list_any (λ (row : TableRow). row.table == c.in-Some.table
    && row_names (columns_at c.args.defs.now c.in-Some.table) c.deref.result.now
    c.args.lookup.now.external_id peer.external row.row) rows)
    (λ (naming : Naming). (peer : Peer) → is_named_by peer naming
    ≡ finds c.args.defs.now rows c.args.change.now peer c.args.lookup.now)
    c.name_by_rows.result
    (λ naming is peer. is peer ∙ looked_up c.args.defs.now rows c.args.change.now peer
    c.args.lookup.now c.in-Some.table c.in-Some-wanted_in.key c.deref.result.now
    c.columns_at.result.now c.in_ok-text.text c.in-Some.ensures c.columns_at.ensures
    c.in_ok-text.ensures (c.deref.ensures.value ∙ c.in_ok-wanted.ensures.items)
    c.in-Some-wanted_in.ensures)
    c.name_by_rows.ensures

use Rattle.std.proofs.Common.{◌≡◌, ◌∙◌, ◌==◌, ◌&&◌, ap}
use Rattle.std.specs.List.{list_all, list_any}
use Rattle.sds_value.specs.declared.row.Peer.{Peer}
use Rattle.sds_types.specs.declared.row.TableRow.{TableRow}
use Rattle.sds_trade.specs.rules.Places.{columns_at}
use Rattle.sds_trade.specs.rules.Routers.{chooses, meets}
use Rattle.sds_router.specs.Asks.{is_named_by, row_names, text_of_peer}
use Rattle.sds_router.specs.declared.naming.Naming.{Naming}
use Rattle.sds_router.proofs.Lists.{if_ok}
use Rattle.sds_router.proofs.Rows.{chosen, nothing_chosen}
use Rattle.sds_router.proofs.wanted.choose.Goals as goal

pub returns-in_default-2 : goal.returns-in_default-2
returns-in_default-2 g c = λ peer. c.nobody-in_default-2.ensures peer
    ∙ nothing_chosen c.args.defs.now (g.T.StandingRows.rows c.args.tables.now) c.args.change.now peer
    c.args.choice.now c.in-Some.table c.columns_at-columns.result.now c.in-Some.ensures
    c.columns_at-columns.ensures
    (λ row at. (rw (c.in_default-2.is) at (c.in_ok-wanted.ensures row at))
    ∙ ap (list_all (meets c.args.defs.now c.args.change.now row)) (c.deref.ensures.value ∙ c.inner.ensures))

pub returns : goal.returns
returns g c =
    let rows = g.T.StandingRows.rows c.args.tables.now in
    if_ok (λ (naming : Naming). (peer : Peer) → is_named_by peer naming
    ≡ list_any (λ (row : TableRow). row.table == c.in-Some.table
    && row_names (columns_at c.args.defs.now c.in-Some.table) c.deref-2.result.now
    c.args.choice.now.column (text_of_peer peer c.text_for.result) row.row) rows)
    (λ (naming : Naming). (peer : Peer) → is_named_by peer naming
    ≡ chooses c.args.defs.now rows c.args.change.now peer c.args.choice.now)
    c.name_by_rows.result
    (λ naming is peer. is peer ∙ chosen c.args.defs.now rows c.args.change.now peer
    c.args.choice.now c.in-Some.table c.in-Some-2.wanted.items c.deref-2.result.now
    (text_of_peer peer c.text_for.result) c.columns_at-columns.result.now c.in-Some.ensures
    c.columns_at-columns.ensures (c.text_for.ensures peer) c.deref-2.ensures.value
    (λ row at. (rw (c.in-Some-2.is) at (c.in_ok-wanted.ensures row at))
    ∙ ap (list_all (meets c.args.defs.now c.args.change.now row)) (c.deref.ensures.value ∙ c.inner.ensures)))
    c.name_by_rows.ensures

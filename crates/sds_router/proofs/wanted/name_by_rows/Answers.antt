use Rattle.std.proofs.Common.{◌∙◌}
use Rattle.sds_trade.specs.rules.Places.{columns_at}
use Rattle.sds_router.specs.Asks.{text_of_peer}
use Rattle.sds_router.proofs.Rows.{found_fit, named_rows, no_column}
use Rattle.sds_router.proofs.wanted.name_by_rows.Goals as goal

pub returns-in_default : goal.returns-in_default
returns-in_default g c = λ peer. c.nobody.ensures peer
    ∙ no_column (columns_at c.args.defs.now c.args.table) c.columns_at-columns.result.now
    c.args.wanted.now c.args.name.now (text_of_peer peer c.args.by) c.args.table
    (g.T.StandingRows.rows c.args.tables.now) c.columns_at-columns.ensures c.in_default.ensures

pub ask_rows-requires : goal.ask_rows-requires
ask_rows-requires g c = rw c.deref.ensures.value
    (found_fit c.args.defs.now c.args.table (g.T.StandingRows.rows c.args.tables.now)
    c.in_ok-rows.rows.items c.columns_at-columns.result.now c.requires c.in_ok-rows.ensures
    c.columns_at-columns.ensures)

pub returns : goal.returns
returns g c = λ peer. c.by.ensures peer ∙ (c.in_ok-ask_rows.ensures peer
    ∙ named_rows (columns_at c.args.defs.now c.args.table) c.columns_at-columns.result.now
    c.args.wanted.now c.args.name.now (text_of_peer peer c.args.by) c.in-Some.column c.args.table
    (g.T.StandingRows.rows c.args.tables.now) c.in_ok-rows.rows.items c.deref.result.now
    c.columns_at-columns.ensures c.in-Some.ensures c.deref.ensures.value c.in_ok-rows.ensures)

use Rattle.std.proofs.Common.{◌≡◌, ◌&&◌, drop}
use Rattle.std.specs.List.{list_all}
use Rattle.sds_types.specs.declared.row.TableRow.{TableRow}
use Rattle.sds_trade.specs.rules.Places.{columns_at}
use Rattle.sds_trade.specs.rules.Routers.{meets}
use Rattle.sds_router.specs.Asks.{has_wanted}
use Rattle.sds_router.proofs.wanted.wanted_by.Given as goal

-- the texts so far and the conditions that are left are all the conditions
abbrev pub invariant-loop-condition : goal.invariant-loop-condition
invariant-loop-condition l = (row : TableRow) → columns_at l.defs row.table ≡ l.columns
    → (list_all (has_wanted l.columns row.row) l.wanted.items
    && list_all (meets l.defs l.change row) (drop l.condition-index l.conditions))
    ≡ list_all (meets l.defs l.change row) l.conditions

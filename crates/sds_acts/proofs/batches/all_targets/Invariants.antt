use Rattle.std.proofs.Common.{◌≡◌, ◌++◌, drop, map}
use Rattle.sds_trade.specs.rules.Named.{targets_of}
use Rattle.sds_acts.proofs.batches.all_targets.Given as goal

abbrev pub invariant-loop-change : goal.invariant-loop-change
invariant-loop-change l =
    l.all.items ++ map (targets_of l.config l.state.me l.state.tables.rows l.peers) (drop l.change-index l.changes)
    ≡ map (targets_of l.config l.state.me l.state.tables.rows l.peers) l.changes

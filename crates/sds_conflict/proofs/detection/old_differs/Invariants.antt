use Rattle.std.proofs.Common.{◌≡◌, drop}
use Rattle.std.specs.List.{filter, list_any}
use Rattle.sds_trade.specs.rules.Conflicts as seen
use Rattle.sds_trade.specs.rules.RowValues.{gives}
use Rattle.sds_conflict.proofs.detection.old_differs.Given as goal

abbrev pub invariant-loop-place : goal.invariant-loop-place
invariant-loop-place l = list_any (seen.differs_at l.row l.old l.kept) (filter (gives l.row) (drop l.place-index l.place-items)) ≡ list_any (seen.differs_at l.row l.old l.kept) (filter (gives l.row) l.place-items)

use Rattle.std.proofs.Common.{◌≡◌, ◌&&◌, ℕ, drop}
use Rattle.std.specs.List.{filter, list_any}
use Rattle.sds_trade.specs.rules.Conflicts as seen
use Rattle.sds_trade.specs.rules.RowValues.{gives}
use Rattle.sds_conflict.proofs.detection.some_changed_differs.Given as goal

abbrev pub invariant-loop-place : goal.invariant-loop-place
invariant-loop-place l =
    list_any (λ (column : ℕ). seen.changes_at l.row l.old column && seen.differs_at l.row l.old l.kept column) (filter (gives l.row) (drop l.place-index l.place-items))
    ≡ list_any (λ (column : ℕ). seen.changes_at l.row l.old column && seen.differs_at l.row l.old l.kept column) (filter (gives l.row) l.place-items)

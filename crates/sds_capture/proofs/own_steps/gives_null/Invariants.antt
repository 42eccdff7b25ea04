use Rattle.std.proofs.Common.{◌≡◌, drop}
use Rattle.std.specs.List.{enumerate_from, list_any}
use Rattle.sds_trade.specs.rules.OwnWrites.{gives_null}
use Rattle.sds_capture.proofs.own_steps.gives_null.Given as goal

abbrev pub invariant-loop-place : goal.invariant-loop-place
invariant-loop-place l = list_any (gives_null l.row) (enumerate_from l.place (drop l.place l.columns)) ≡ list_any (gives_null l.row) (enumerate_from 0 l.columns)

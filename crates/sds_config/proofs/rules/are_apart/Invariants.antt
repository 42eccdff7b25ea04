use Rattle.std.proofs.Common.{◌≡◌, drop}
use Rattle.sds_config.specs.Transforms as wanted
use Rattle.sds_config.proofs.rules.are_apart.Given as goal

-- all are apart exactly where those that are left are
abbrev pub invariant-loop-place : goal.invariant-loop-place
invariant-loop-place l = wanted.are_apart (drop l.place l.columns) ≡ wanted.are_apart l.columns

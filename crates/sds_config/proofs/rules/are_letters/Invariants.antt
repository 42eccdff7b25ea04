use Rattle.std.proofs.Common.{◌≡◌, drop}
use Rattle.sds_config.specs.Transforms as wanted
use Rattle.sds_config.proofs.rules.are_letters.Given as goal

-- all are letters exactly where those that are left are
abbrev pub invariant-loop-place : goal.invariant-loop-place
invariant-loop-place l = wanted.are_letters (drop l.place l.events) ≡ wanted.are_letters l.events

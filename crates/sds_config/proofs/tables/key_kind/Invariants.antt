use Rattle.std.proofs.Common.{◌≡◌, drop}
use Rattle.sds_config.specs.TableEntries as wanted
use Rattle.sds_config.proofs.tables.key_kind.Given as goal

-- the only key column is among those that are left
abbrev pub invariant-loop-place : goal.invariant-loop-place
invariant-loop-place l = wanted.key_kind (drop l.place l.columns) ≡ wanted.key_kind l.columns

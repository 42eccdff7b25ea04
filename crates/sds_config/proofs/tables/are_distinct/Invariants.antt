use Rattle.std.proofs.Common.{◌≡◌, drop}
use Rattle.sds_config.specs.TableEntries as wanted
use Rattle.sds_config.proofs.tables.are_distinct.Given as goal

-- no name stands twice among the columns that are left exactly where none does at all
abbrev pub invariant-loop-place : goal.invariant-loop-place
invariant-loop-place l = wanted.are_distinct (drop l.place l.columns) ≡ wanted.are_distinct l.columns

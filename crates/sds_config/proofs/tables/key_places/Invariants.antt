use Rattle.std.proofs.Common.{◌≡◌, ◌++◌, drop}
use Rattle.sds_config.specs.TableEntries as wanted
use Rattle.sds_config.proofs.tables.key_places.Given as goal

-- the places so far, and those among the columns that are left
abbrev pub invariant-loop-place : goal.invariant-loop-place
invariant-loop-place l = l.places.items ++ wanted.key_places l.place (drop l.place l.columns) ≡ wanted.key_places 0 l.columns

use Rattle.std.proofs.Common.{◌≡◌, ◌++◌, ℕ, List, drop, map}
use Rattle.std.specs.List.{zip}
use Rattle.sds_transform.proofs.fields.zipped.Given as goal

abbrev pub invariant-loop-place : goal.invariant-loop-place
invariant-loop-place l = l.made.items ++ zip (drop l.place l.names) (drop l.place l.fields) ≡ zip l.names l.fields

use Rattle.std.proofs.Common.{◌≡◌, ◌+◌, drop}
use Rattle.sds_batchtext.specs.Entries.{place_of}
use Rattle.sds_batchtext.proofs.table_names.place_of.Given as goal

abbrev pub invariant-loop-place : goal.invariant-loop-place
invariant-loop-place l = place_of l.table (drop l.place l.entries) + l.place ≡ place_of l.table l.entries

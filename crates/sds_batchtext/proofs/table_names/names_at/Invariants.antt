use Rattle.std.proofs.Common.{◌≡◌, drop}
use Rattle.sds_batchtext.specs.Positions.{names_at}
use Rattle.sds_batchtext.proofs.table_names.names_at.Given as goal

abbrev pub invariant-loop-entry : goal.invariant-loop-entry
invariant-loop-entry l = names_at l.table (drop l.entry-index l.entries) ≡ names_at l.table l.entries

use Rattle.std.proofs.Common.{◌≡◌}
use Rattle.sds_capture.proofs.tests_writes.a_refused_write_leaves_the_rows_after_each_number_of_steps.Given as goal

abbrev pub invariant-loop-most : goal.invariant-loop-most
invariant-loop-most g l = l.tables.defs ≡ l.config.tables

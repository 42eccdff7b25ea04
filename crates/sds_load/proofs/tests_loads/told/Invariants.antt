use Rattle.std.proofs.Common.{◌≡◌}
use Rattle.sds_load.proofs.tests_loads.told.Given as goal

abbrev pub invariant-loop-line : goal.invariant-loop-line
invariant-loop-line l = l.tables.defs ≡ l.config.tables

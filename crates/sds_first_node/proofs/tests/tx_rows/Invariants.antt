use Rattle.sds_first_node.specs.NewRows.{ArePairRows}
use Rattle.sds_first_node.proofs.tests.tx_rows.Given as goal

abbrev pub invariant-loop-pair : goal.invariant-loop-pair
invariant-loop-pair l = ArePairRows l.rows

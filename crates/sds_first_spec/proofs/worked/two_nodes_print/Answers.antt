use Rattle.sds_first_spec.proofs.TwoNodesComputed.{screen-two_nodes}
use Rattle.sds_first_spec.proofs.worked.two_nodes_print.Goals as goal

pub returns : goal.returns
returns c = screen-two_nodes

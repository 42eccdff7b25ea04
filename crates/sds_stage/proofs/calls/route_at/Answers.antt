use Rattle.sds_types.specs.declared.node_fault.NodeFault.{NodeFault}
use Rattle.sds_history.specs.history.Routes.{route_answer}
use Rattle.sds_nodelaws.specs.Calls.Call.{Route}
use Rattle.sds_node.proofs.Endings.{ended_plain}
use Rattle.sds_stage.proofs.Called.{goes_by}
use Rattle.sds_stage.proofs.calls.route_at.Goals as goal

pub returns-clause-goes : goal.returns-clause-goes
returns-clause-goes c =
    goes_by (λ (fault : NodeFault). fault) Route (λ config state. route_answer config state) ended_plain
    c.args.node.now c.route.new.self c.route.result c.unless_lacking.result (λ config state. tt) tt
    c.route.ensures.node c.route.ensures.still c.route.ensures.goes c.unless_lacking.ensures

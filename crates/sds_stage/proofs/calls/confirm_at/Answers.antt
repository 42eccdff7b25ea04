use Rattle.std.specs.Str.{chars}
use Rattle.sds_types.specs.declared.node_fault.NodeFault.{NodeFault}
use Rattle.sds_history.specs.history.Registrations.{confirm_answer}
use Rattle.sds_nodelaws.specs.Calls.Call.{Confirm}
use Rattle.sds_node.proofs.Endings.{ended_plain}
use Rattle.sds_stage.proofs.Called.{goes_by}
use Rattle.sds_stage.proofs.calls.confirm_at.Goals as goal

pub returns-clause-goes : goal.returns-clause-goes
returns-clause-goes c =
    goes_by (λ (fault : NodeFault). fault) (Confirm (chars c.args.peer.now)) (λ config state. confirm_answer config state (chars c.args.peer.now)) ended_plain
    c.args.node.now c.confirm.new.self c.confirm.result c.unless_lacking.result (λ config state. tt) tt
    c.confirm.ensures.node c.confirm.ensures.still c.confirm.ensures.goes c.unless_lacking.ensures

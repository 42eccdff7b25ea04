use Rattle.std.proofs.Common.{ap}
use Rattle.std.specs.Str.{chars}
use Rattle.sds_types.specs.declared.node_fault.NodeFault.{NodeFault}
use Rattle.sds_history.specs.history.Registrations.{confirm_answer}
use Rattle.sds_nodelaws.specs.Calls.{act_of}
use Rattle.sds_nodelaws.specs.Calls.Call.{Confirm}
use Rattle.sds_rows.specs.Stored.{Stored}
use Rattle.sds_node.proofs.Endings.{ended_plain}
use Rattle.sds_node.proofs.Goings.{goes_settled, goes_unsettled, node_settled, still_settled}
use Rattle.sds_node.proofs.node.Node.confirm.Goals as goal

pub returns-in-Err-clause-goes : goal.returns-in-Err-clause-goes
returns-in-Err-clause-goes g c =
    goes_unsettled g.K.Keeper.keeping g.K.Keeper.damage c.args.self.now c.settle.new.self c.settle.result c.in-Err.fault
    (λ now. act_of c.args.self.now.config now (Confirm (chars c.args.peer.now))) (λ (found : NodeFault). found) (λ now. confirm_answer c.args.self.now.config now (chars c.args.peer.now)) c.settle.ensures.settles c.in-Err.is

pub returns-clause-node : goal.returns-clause-node
returns-clause-node g c =
    node_settled g.K.Keeper.is_open g.K.Keeper.keeping g.K.Keeper.damage c.args.self.now c.settle.new.self c.settle.result c.settle.ensures.settles c.in_default.is c.settle.ensures.node
    (Confirm (chars c.args.peer.now)) (λ (found : NodeFault). found) (λ config state. confirm_answer config state (chars c.args.peer.now)) c.confirm-result.result c.confirm-result.new.state c.confirm-result.new.keeper c.has_failed.result (ended_plain c.confirm-result.result) c.confirm-result.ensures.ends c.has_failed.ensures c.requires.asked tt (ap (λ (tables : Stored). tables.defs) c.confirm-result.ensures.tables) c.confirm-result.ensures.open

pub returns-clause-goes : goal.returns-clause-goes
returns-clause-goes g c =
    goes_settled g.K.Keeper.is_open g.K.Keeper.keeping g.K.Keeper.damage c.args.self.now c.settle.new.self c.settle.result c.settle.ensures.settles c.in_default.is c.settle.ensures.node
    (Confirm (chars c.args.peer.now)) (λ (found : NodeFault). found) (λ config state. confirm_answer config state (chars c.args.peer.now)) c.confirm-result.result c.confirm-result.new.state c.confirm-result.new.keeper c.has_failed.result (ended_plain c.confirm-result.result) c.confirm-result.ensures.ends c.has_failed.ensures

pub returns-clause-still : goal.returns-clause-still
returns-clause-still g c =
    still_settled g.K.Keeper.is_open g.K.Keeper.keeping g.K.Keeper.damage c.args.self.now c.settle.new.self c.settle.result c.settle.ensures.settles c.in_default.is c.settle.ensures.node
    (Confirm (chars c.args.peer.now)) (λ (found : NodeFault). found) (λ config state. confirm_answer config state (chars c.args.peer.now)) c.confirm-result.result c.confirm-result.new.state c.confirm-result.new.keeper c.has_failed.result (ended_plain c.confirm-result.result) c.confirm-result.ensures.ends

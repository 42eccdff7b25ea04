use Rattle.std.proofs.Common.{ap}
use Rattle.sds_types.specs.declared.node_fault.NodeFault.{NodeFault}
use Rattle.sds_history.specs.history.Routes.{route_answer}
use Rattle.sds_nodelaws.specs.Calls.{act_of}
use Rattle.sds_nodelaws.specs.Calls.Call.{Route}
use Rattle.sds_rows.specs.Stored.{Stored}
use Rattle.sds_node.proofs.Endings.{ended_plain}
use Rattle.sds_node.proofs.Goings.{goes_settled, goes_unsettled, node_settled, still_settled}
use Rattle.sds_node.proofs.node.Node.route.Goals as goal

pub returns-in-Err-clause-goes : goal.returns-in-Err-clause-goes
returns-in-Err-clause-goes g c =
    goes_unsettled g.K.Keeper.keeping g.K.Keeper.damage c.args.self.now c.settle.new.self c.settle.result c.in-Err.fault
    (λ now. act_of c.args.self.now.config now Route) (λ (found : NodeFault). found) (λ now. route_answer c.args.self.now.config now) c.settle.ensures.settles c.in-Err.is

pub returns-clause-node : goal.returns-clause-node
returns-clause-node g c =
    node_settled g.K.Keeper.is_open g.K.Keeper.keeping g.K.Keeper.damage c.args.self.now c.settle.new.self c.settle.result c.settle.ensures.settles c.in_default.is c.settle.ensures.node
    Route (λ (found : NodeFault). found) (λ config state. route_answer config state) c.route-result.result c.route-result.new.state c.route-result.new.keeper c.has_failed.result (ended_plain c.route-result.result) c.route-result.ensures.ends c.has_failed.ensures c.requires.asked tt (ap (λ (tables : Stored). tables.defs) c.route-result.ensures.tables) c.route-result.ensures.open

pub returns-clause-goes : goal.returns-clause-goes
returns-clause-goes g c =
    goes_settled g.K.Keeper.is_open g.K.Keeper.keeping g.K.Keeper.damage c.args.self.now c.settle.new.self c.settle.result c.settle.ensures.settles c.in_default.is c.settle.ensures.node
    Route (λ (found : NodeFault). found) (λ config state. route_answer config state) c.route-result.result c.route-result.new.state c.route-result.new.keeper c.has_failed.result (ended_plain c.route-result.result) c.route-result.ensures.ends c.has_failed.ensures

pub returns-clause-still : goal.returns-clause-still
returns-clause-still g c =
    still_settled g.K.Keeper.is_open g.K.Keeper.keeping g.K.Keeper.damage c.args.self.now c.settle.new.self c.settle.result c.settle.ensures.settles c.in_default.is c.settle.ensures.node
    Route (λ (found : NodeFault). found) (λ config state. route_answer config state) c.route-result.result c.route-result.new.state c.route-result.new.keeper c.has_failed.result (ended_plain c.route-result.result) c.route-result.ensures.ends

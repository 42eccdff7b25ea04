use Rattle.std.proofs.Common.{ap}
use Rattle.std.specs.Str.{chars}
use Rattle.sds_types.specs.declared.registration.RegRefusal.TheVariants.{Fault}
use Rattle.sds_history.specs.history.Joins.{join_answer}
use Rattle.sds_nodelaws.specs.Calls.{act_of}
use Rattle.sds_nodelaws.specs.Calls.Call.{Join}
use Rattle.sds_rows.specs.Stored.{Stored}
use Rattle.sds_node.proofs.Endings.{ended_reg}
use Rattle.sds_node.proofs.Goings.{goes_settled, goes_unsettled, node_settled, still_settled}
use Rattle.sds_node.proofs.node.Node.join.Goals as goal

pub returns-in-Err-clause-goes : goal.returns-in-Err-clause-goes
returns-in-Err-clause-goes g c =
    goes_unsettled g.K.Keeper.keeping g.K.Keeper.damage c.args.self.now c.settle.new.self c.settle.result c.in-Err.fault
    (λ now. act_of c.args.self.now.config now (Join c.args.other.now (chars c.args.token.now))) Fault (λ now. join_answer c.args.self.now.config now c.args.other.now (chars c.args.token.now)) c.settle.ensures.settles c.in-Err.is

pub returns-clause-node : goal.returns-clause-node
returns-clause-node g c =
    node_settled g.K.Keeper.is_open g.K.Keeper.keeping g.K.Keeper.damage c.args.self.now c.settle.new.self c.settle.result c.settle.ensures.settles c.in_default.is c.settle.ensures.node
    (Join c.args.other.now (chars c.args.token.now)) Fault (λ config state. join_answer config state c.args.other.now (chars c.args.token.now)) c.join-result.result c.join-result.new.state c.join-result.new.keeper c.registering_failed.result (ended_reg c.join-result.result) c.join-result.ensures.ends c.registering_failed.ensures c.requires.asked tt (ap (λ (tables : Stored). tables.defs) c.join-result.ensures.tables) c.join-result.ensures.open

pub returns-clause-goes : goal.returns-clause-goes
returns-clause-goes g c =
    goes_settled g.K.Keeper.is_open g.K.Keeper.keeping g.K.Keeper.damage c.args.self.now c.settle.new.self c.settle.result c.settle.ensures.settles c.in_default.is c.settle.ensures.node
    (Join c.args.other.now (chars c.args.token.now)) Fault (λ config state. join_answer config state c.args.other.now (chars c.args.token.now)) c.join-result.result c.join-result.new.state c.join-result.new.keeper c.registering_failed.result (ended_reg c.join-result.result) c.join-result.ensures.ends c.registering_failed.ensures

pub returns-clause-still : goal.returns-clause-still
returns-clause-still g c =
    still_settled g.K.Keeper.is_open g.K.Keeper.keeping g.K.Keeper.damage c.args.self.now c.settle.new.self c.settle.result c.settle.ensures.settles c.in_default.is c.settle.ensures.node
    (Join c.args.other.now (chars c.args.token.now)) Fault (λ config state. join_answer config state c.args.other.now (chars c.args.token.now)) c.join-result.result c.join-result.new.state c.join-result.new.keeper c.registering_failed.result (ended_reg c.join-result.result) c.join-result.ensures.ends

use Rattle.std.proofs.Common.{ap}
use Rattle.std.specs.Str.{chars}
use Rattle.sds_types.specs.declared.ack.AckRefusal.TheVariants.{Fault}
use Rattle.sds_history.specs.history.Acks.{acks_answer}
use Rattle.sds_nodelaws.specs.Calls.{act_of}
use Rattle.sds_nodelaws.specs.Calls.Call.{TakeAcks}
use Rattle.sds_rows.specs.Stored.{Stored}
use Rattle.sds_node.proofs.Endings.{ended_ack}
use Rattle.sds_node.proofs.Goings.{goes_settled, goes_unsettled, node_settled, still_settled}
use Rattle.sds_node.proofs.node.Node.take_acks.Goals as goal

pub returns-in-Err-clause-goes : goal.returns-in-Err-clause-goes
returns-in-Err-clause-goes g c =
    goes_unsettled g.K.Keeper.keeping g.K.Keeper.damage c.args.self.now c.settle.new.self c.settle.result c.in-Err.fault
    (λ now. act_of c.args.self.now.config now (TakeAcks (chars c.args.from.now) c.args.acks.now)) Fault (λ now. acks_answer c.args.self.now.config now (chars c.args.from.now) c.args.acks.now) c.settle.ensures.settles c.in-Err.is

pub returns-clause-node : goal.returns-clause-node
returns-clause-node g c =
    node_settled g.K.Keeper.is_open g.K.Keeper.keeping g.K.Keeper.damage c.args.self.now c.settle.new.self c.settle.result c.settle.ensures.settles c.in_default.is c.settle.ensures.node
    (TakeAcks (chars c.args.from.now) c.args.acks.now) Fault (λ config state. acks_answer config state (chars c.args.from.now) c.args.acks.now) c.take_acks-result.result c.take_acks-result.new.state c.take_acks-result.new.keeper c.acking_failed.result (ended_ack c.take_acks-result.result) c.take_acks-result.ensures.ends c.acking_failed.ensures c.requires.asked c.requires.held (ap (λ (tables : Stored). tables.defs) c.take_acks-result.ensures.tables) c.take_acks-result.ensures.open

pub returns-clause-goes : goal.returns-clause-goes
returns-clause-goes g c =
    goes_settled g.K.Keeper.is_open g.K.Keeper.keeping g.K.Keeper.damage c.args.self.now c.settle.new.self c.settle.result c.settle.ensures.settles c.in_default.is c.settle.ensures.node
    (TakeAcks (chars c.args.from.now) c.args.acks.now) Fault (λ config state. acks_answer config state (chars c.args.from.now) c.args.acks.now) c.take_acks-result.result c.take_acks-result.new.state c.take_acks-result.new.keeper c.acking_failed.result (ended_ack c.take_acks-result.result) c.take_acks-result.ensures.ends c.acking_failed.ensures

pub returns-clause-still : goal.returns-clause-still
returns-clause-still g c =
    still_settled g.K.Keeper.is_open g.K.Keeper.keeping g.K.Keeper.damage c.args.self.now c.settle.new.self c.settle.result c.settle.ensures.settles c.in_default.is c.settle.ensures.node
    (TakeAcks (chars c.args.from.now) c.args.acks.now) Fault (λ config state. acks_answer config state (chars c.args.from.now) c.args.acks.now) c.take_acks-result.result c.take_acks-result.new.state c.take_acks-result.new.keeper c.acking_failed.result (ended_ack c.take_acks-result.result) c.take_acks-result.ensures.ends

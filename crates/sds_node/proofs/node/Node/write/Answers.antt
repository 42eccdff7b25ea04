use Rattle.std.specs.Str.{chars}
use Rattle.sds_types.specs.declared.write_answer.WriteRefusal.TheVariants.{Fault}
use Rattle.sds_history.specs.history.Writes.{write_answer}
use Rattle.sds_nodelaws.specs.Calls.{act_of}
use Rattle.sds_nodelaws.specs.Calls.Call.{Write}
use Rattle.sds_node.proofs.Endings.{ended_write}
use Rattle.sds_node.proofs.Goings.{goes_settled, goes_unsettled, node_settled, still_settled}
use Rattle.sds_node.proofs.node.Node.write.Goals as goal

pub returns-in-Err-clause-goes : goal.returns-in-Err-clause-goes
returns-in-Err-clause-goes g c =
    goes_unsettled g.K.Keeper.keeping g.K.Keeper.damage c.args.self.now c.settle.new.self c.settle.result c.in-Err.fault
    (λ now. act_of c.args.self.now.config now (Write (chars c.args.writer.now) c.args.number c.args.tx.now)) Fault (λ now. write_answer c.args.self.now.config now (chars c.args.writer.now) c.args.number c.args.tx.now) c.settle.ensures.settles c.in-Err.is

pub returns-clause-node : goal.returns-clause-node
returns-clause-node g c =
    node_settled g.K.Keeper.is_open g.K.Keeper.keeping g.K.Keeper.damage c.args.self.now c.settle.new.self c.settle.result c.settle.ensures.settles c.in_default.is c.settle.ensures.node
    (Write (chars c.args.writer.now) c.args.number c.args.tx.now) Fault (λ config state. write_answer config state (chars c.args.writer.now) c.args.number c.args.tx.now) c.write-result.result c.write-result.new.state c.write-result.new.keeper c.writing_failed.result (ended_write c.write-result.result) c.write-result.ensures.ends c.writing_failed.ensures c.requires.asked tt (c.write-result.ensures.tables) c.write-result.ensures.open

pub returns-clause-goes : goal.returns-clause-goes
returns-clause-goes g c =
    goes_settled g.K.Keeper.is_open g.K.Keeper.keeping g.K.Keeper.damage c.args.self.now c.settle.new.self c.settle.result c.settle.ensures.settles c.in_default.is c.settle.ensures.node
    (Write (chars c.args.writer.now) c.args.number c.args.tx.now) Fault (λ config state. write_answer config state (chars c.args.writer.now) c.args.number c.args.tx.now) c.write-result.result c.write-result.new.state c.write-result.new.keeper c.writing_failed.result (ended_write c.write-result.result) c.write-result.ensures.ends c.writing_failed.ensures

pub returns-clause-still : goal.returns-clause-still
returns-clause-still g c =
    still_settled g.K.Keeper.is_open g.K.Keeper.keeping g.K.Keeper.damage c.args.self.now c.settle.new.self c.settle.result c.settle.ensures.settles c.in_default.is c.settle.ensures.node
    (Write (chars c.args.writer.now) c.args.number c.args.tx.now) Fault (λ config state. write_answer config state (chars c.args.writer.now) c.args.number c.args.tx.now) c.write-result.result c.write-result.new.state c.write-result.new.keeper c.writing_failed.result (ended_write c.write-result.result) c.write-result.ensures.ends

use Rattle.std.specs.Str.{chars}
use Rattle.sds_types.specs.declared.load_answer.PeerRefusal.TheVariants.{Fault}
use Rattle.sds_history.specs.history.Loads.{load_answer}
use Rattle.sds_nodelaws.specs.Calls.{act_of}
use Rattle.sds_nodelaws.specs.Calls.Call.{Load}
use Rattle.sds_node.proofs.Endings.{ended_peer}
use Rattle.sds_node.proofs.Goings.{goes_settled, goes_unsettled, node_settled, still_settled}
use Rattle.sds_node.proofs.node.Node.load.Goals as goal

pub returns-in-Err-clause-goes : goal.returns-in-Err-clause-goes
returns-in-Err-clause-goes g c =
    goes_unsettled g.K.Keeper.keeping g.K.Keeper.damage c.args.self.now c.settle.new.self c.settle.result c.in-Err.fault
    (λ now. act_of c.args.self.now.config now (Load (chars c.args.from.now) c.args.batch.now)) Fault (λ now. load_answer c.args.self.now.config now (chars c.args.from.now) c.args.batch.now) c.settle.ensures.settles c.in-Err.is

pub returns-clause-node : goal.returns-clause-node
returns-clause-node g c =
    node_settled g.K.Keeper.is_open g.K.Keeper.keeping g.K.Keeper.damage c.args.self.now c.settle.new.self c.settle.result c.settle.ensures.settles c.in_default.is c.settle.ensures.node
    (Load (chars c.args.from.now) c.args.batch.now) Fault (λ config state. load_answer config state (chars c.args.from.now) c.args.batch.now) c.load-result.result c.load-result.new.state c.load-result.new.keeper c.loading_failed.result (ended_peer c.load-result.result) c.load-result.ensures.ends c.loading_failed.ensures c.requires.asked c.requires.held (c.load-result.ensures.tables) c.load-result.ensures.open

pub returns-clause-goes : goal.returns-clause-goes
returns-clause-goes g c =
    goes_settled g.K.Keeper.is_open g.K.Keeper.keeping g.K.Keeper.damage c.args.self.now c.settle.new.self c.settle.result c.settle.ensures.settles c.in_default.is c.settle.ensures.node
    (Load (chars c.args.from.now) c.args.batch.now) Fault (λ config state. load_answer config state (chars c.args.from.now) c.args.batch.now) c.load-result.result c.load-result.new.state c.load-result.new.keeper c.loading_failed.result (ended_peer c.load-result.result) c.load-result.ensures.ends c.loading_failed.ensures

pub returns-clause-still : goal.returns-clause-still
returns-clause-still g c =
    still_settled g.K.Keeper.is_open g.K.Keeper.keeping g.K.Keeper.damage c.args.self.now c.settle.new.self c.settle.result c.settle.ensures.settles c.in_default.is c.settle.ensures.node
    (Load (chars c.args.from.now) c.args.batch.now) Fault (λ config state. load_answer config state (chars c.args.from.now) c.args.batch.now) c.load-result.result c.load-result.new.state c.load-result.new.keeper c.loading_failed.result (ended_peer c.load-result.result) c.load-result.ensures.ends

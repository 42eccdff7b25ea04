use Rattle.std.proofs.Common.{ap}
use Rattle.sds_types.specs.declared.registration.RegRefusal.TheVariants.{Fault}
use Rattle.sds_history.specs.history.Registrations.{register_answer}
use Rattle.sds_nodelaws.specs.Calls.{act_of}
use Rattle.sds_nodelaws.specs.Calls.Call.{Register}
use Rattle.sds_rows.specs.Stored.{Stored}
use Rattle.sds_node.proofs.Endings.{ended_reg}
use Rattle.sds_node.proofs.Goings.{goes_settled, goes_unsettled, node_settled, still_settled}
use Rattle.sds_node.proofs.node.Node.register.Goals as goal

pub returns-in-Err-clause-goes : goal.returns-in-Err-clause-goes
returns-in-Err-clause-goes g c =
    goes_unsettled g.K.Keeper.keeping g.K.Keeper.damage c.args.self.now c.settle.new.self c.settle.result c.in-Err.fault
    (λ now. act_of c.args.self.now.config now (Register c.args.asks.now)) Fault (λ now. register_answer c.args.self.now.config now c.args.asks.now) c.settle.ensures.settles c.in-Err.is

pub returns-clause-node : goal.returns-clause-node
returns-clause-node g c =
    node_settled g.K.Keeper.is_open g.K.Keeper.keeping g.K.Keeper.damage c.args.self.now c.settle.new.self c.settle.result c.settle.ensures.settles c.in_default.is c.settle.ensures.node
    (Register c.args.asks.now) Fault (λ config state. register_answer config state c.args.asks.now) c.register-result.result c.register-result.new.state c.register-result.new.keeper c.registering_failed.result (ended_reg c.register-result.result) c.register-result.ensures.ends c.registering_failed.ensures c.requires.asked tt (ap (λ (tables : Stored). tables.defs) c.register-result.ensures.tables) c.register-result.ensures.open

pub returns-clause-goes : goal.returns-clause-goes
returns-clause-goes g c =
    goes_settled g.K.Keeper.is_open g.K.Keeper.keeping g.K.Keeper.damage c.args.self.now c.settle.new.self c.settle.result c.settle.ensures.settles c.in_default.is c.settle.ensures.node
    (Register c.args.asks.now) Fault (λ config state. register_answer config state c.args.asks.now) c.register-result.result c.register-result.new.state c.register-result.new.keeper c.registering_failed.result (ended_reg c.register-result.result) c.register-result.ensures.ends c.registering_failed.ensures

pub returns-clause-still : goal.returns-clause-still
returns-clause-still g c =
    still_settled g.K.Keeper.is_open g.K.Keeper.keeping g.K.Keeper.damage c.args.self.now c.settle.new.self c.settle.result c.settle.ensures.settles c.in_default.is c.settle.ensures.node
    (Register c.args.asks.now) Fault (λ config state. register_answer config state c.args.asks.now) c.register-result.result c.register-result.new.state c.register-result.new.keeper c.registering_failed.result (ended_reg c.register-result.result) c.register-result.ensures.ends

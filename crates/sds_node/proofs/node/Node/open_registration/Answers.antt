use Rattle.std.proofs.Common.{ap}
use Rattle.std.specs.Str.{chars}
use Rattle.sds_types.specs.declared.registration.RegRefusal.TheVariants.{Fault}
use Rattle.sds_history.specs.history.Registrations.{open_answer}
use Rattle.sds_nodelaws.specs.Calls.{act_of}
use Rattle.sds_nodelaws.specs.Calls.Call.{Open}
use Rattle.sds_rows.specs.Stored.{Stored}
use Rattle.sds_node.proofs.Endings.{ended_reg}
use Rattle.sds_node.proofs.Goings.{goes_settled, goes_unsettled, node_settled, still_settled}
use Rattle.sds_node.proofs.node.Node.open_registration.Goals as goal

pub returns-in-Err-clause-goes : goal.returns-in-Err-clause-goes
returns-in-Err-clause-goes g c =
    goes_unsettled g.K.Keeper.keeping g.K.Keeper.damage c.args.self.now c.settle.new.self c.settle.result c.in-Err.fault
    (λ now. act_of c.args.self.now.config now (Open (chars c.args.group.now) (chars c.args.external.now) c.args.noise)) Fault (λ now. open_answer c.args.self.now.config now (chars c.args.group.now) (chars c.args.external.now) c.args.noise) c.settle.ensures.settles c.in-Err.is

pub returns-clause-node : goal.returns-clause-node
returns-clause-node g c =
    node_settled g.K.Keeper.is_open g.K.Keeper.keeping g.K.Keeper.damage c.args.self.now c.settle.new.self c.settle.result c.settle.ensures.settles c.in_default.is c.settle.ensures.node
    (Open (chars c.args.group.now) (chars c.args.external.now) c.args.noise) Fault (λ config state. open_answer config state (chars c.args.group.now) (chars c.args.external.now) c.args.noise) c.open-result.result c.open-result.new.state c.open-result.new.keeper c.registering_failed.result (ended_reg c.open-result.result) c.open-result.ensures.ends c.registering_failed.ensures c.requires.asked tt (ap (λ (tables : Stored). tables.defs) c.open-result.ensures.tables) c.open-result.ensures.open

pub returns-clause-goes : goal.returns-clause-goes
returns-clause-goes g c =
    goes_settled g.K.Keeper.is_open g.K.Keeper.keeping g.K.Keeper.damage c.args.self.now c.settle.new.self c.settle.result c.settle.ensures.settles c.in_default.is c.settle.ensures.node
    (Open (chars c.args.group.now) (chars c.args.external.now) c.args.noise) Fault (λ config state. open_answer config state (chars c.args.group.now) (chars c.args.external.now) c.args.noise) c.open-result.result c.open-result.new.state c.open-result.new.keeper c.registering_failed.result (ended_reg c.open-result.result) c.open-result.ensures.ends c.registering_failed.ensures

pub returns-clause-still : goal.returns-clause-still
returns-clause-still g c =
    still_settled g.K.Keeper.is_open g.K.Keeper.keeping g.K.Keeper.damage c.args.self.now c.settle.new.self c.settle.result c.settle.ensures.settles c.in_default.is c.settle.ensures.node
    (Open (chars c.args.group.now) (chars c.args.external.now) c.args.noise) Fault (λ config state. open_answer config state (chars c.args.group.now) (chars c.args.external.now) c.args.noise) c.open-result.result c.open-result.new.state c.open-result.new.keeper c.registering_failed.result (ended_reg c.open-result.result) c.open-result.ensures.ends

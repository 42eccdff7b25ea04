use Rattle.sds_types.specs.declared.ack.AckRefusal.TheVariants as ack
use Rattle.sds_types.specs.declared.load_answer.PeerRefusal.TheVariants as peer
use Rattle.sds_types.specs.declared.node_fault.NodeFault.{NodeFault}
use Rattle.sds_types.specs.declared.registration.RegRefusal.TheVariants as reg
use Rattle.sds_types.specs.declared.write_answer.WriteRefusal.TheVariants as write
use Rattle.sds_history.specs.history.Acks.{acks_answer}
use Rattle.sds_history.specs.history.Joins.{join_answer}
use Rattle.sds_history.specs.history.Loads.{load_answer}
use Rattle.sds_history.specs.history.Registrations.{confirm_answer, open_answer, register_answer}
use Rattle.sds_history.specs.history.Routes.{route_answer}
use Rattle.sds_history.specs.history.Writes.{write_answer}
use Rattle.sds_nodelaws.specs.Calls.Call.{Confirm, Join, Load, Open, Register, Route, TakeAcks, Write}
use Rattle.sds_node.proofs.Endings.{ended_ack, ended_peer, ended_plain, ended_reg, ended_write}
use Rattle.sds_standing.proofs.Calls.{calls_go}
use Rattle.sds_standing.proofs.laws.calls_go.Goals as goal

pub returns-clause-open : goal.returns-clause-open
returns-clause-open g c = λ group external noise. calls_go g.K.Keeper.is_open g.K.Keeper.keeping g.K.Keeper.damage reg.Fault (Open group external noise)
    (λ config state. open_answer config state group external noise) ended_reg

pub returns-clause-register : goal.returns-clause-register
returns-clause-register g c = λ asks. calls_go g.K.Keeper.is_open g.K.Keeper.keeping g.K.Keeper.damage reg.Fault (Register asks)
    (λ config state. register_answer config state asks) ended_reg

pub returns-clause-join : goal.returns-clause-join
returns-clause-join g c = λ other token. calls_go g.K.Keeper.is_open g.K.Keeper.keeping g.K.Keeper.damage reg.Fault (Join other token)
    (λ config state. join_answer config state other token) ended_reg

pub returns-clause-confirm : goal.returns-clause-confirm
returns-clause-confirm g c = λ peer. calls_go g.K.Keeper.is_open g.K.Keeper.keeping g.K.Keeper.damage (λ (fault : NodeFault). fault) (Confirm peer)
    (λ config state. confirm_answer config state peer) ended_plain

pub returns-clause-write : goal.returns-clause-write
returns-clause-write g c = λ writer number rows. calls_go g.K.Keeper.is_open g.K.Keeper.keeping g.K.Keeper.damage write.Fault (Write writer number rows)
    (λ config state. write_answer config state writer number rows) ended_write

pub returns-clause-route : goal.returns-clause-route
returns-clause-route g c = calls_go g.K.Keeper.is_open g.K.Keeper.keeping g.K.Keeper.damage (λ (fault : NodeFault). fault) Route
    (λ config state. route_answer config state) ended_plain

pub returns-clause-load : goal.returns-clause-load
returns-clause-load g c = λ from batch. calls_go g.K.Keeper.is_open g.K.Keeper.keeping g.K.Keeper.damage peer.Fault (Load from batch)
    (λ config state. load_answer config state from batch) ended_peer

pub returns-clause-take_acks : goal.returns-clause-take_acks
returns-clause-take_acks g c = λ from acks. calls_go g.K.Keeper.is_open g.K.Keeper.keeping g.K.Keeper.damage ack.Fault (TakeAcks from acks)
    (λ config state. acks_answer config state from acks) ended_ack

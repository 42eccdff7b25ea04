use Rattle.std.proofs.Common.{sym, subst}
use Rattle.std.specs.Str.{chars}
use Rattle.sds_types.specs.declared.ack.AckRefusal.TheVariants.{Fault}
use Rattle.sds_history.specs.history.Acks.{acks_act, acks_answer}
use Rattle.sds_history.specs.world.Calling.{call}
use Rattle.sds_history.specs.world.Worlds.{state_in}
use Rattle.sds_nodelaws.specs.Calls.Call.{TakeAcks}
use Rattle.sds_node.proofs.Endings.{ended_ack}
use Rattle.sds_stage.specs.Standing.{Goes}
use Rattle.sds_stage.proofs.Called.{goes_by, if_ok}
use Rattle.sds_stage.proofs.calls.take_at.Goals as goal

pub returns-clause-goes : goal.returns-clause-goes
returns-clause-goes c =
    if_ok c.unless_acking_lacks.result
    (goes_by Fault (TakeAcks (chars c.args.from.now) c.args.acks.now) (λ config state. acks_answer config state (chars c.args.from.now) c.args.acks.now) ended_ack
    c.args.node.now c.take_acks.new.self c.take_acks.result c.unless_acking_lacks.result (λ config state. c.requires.asked) c.requires.held
    c.take_acks.ensures.node c.take_acks.ensures.still c.take_acks.ensures.goes c.unless_acking_lacks.ensures)
    (λ told goes reply from acks. subst (λ name. Goes c.args.node.now c.take_acks.new.self told (λ config stood. call Fault stood
    (acks_act config (state_in config stood) name reply.acks) (acks_answer config (state_in config stood) name reply.acks))) (sym from)
    (subst (λ taken. Goes c.args.node.now c.take_acks.new.self told (λ config stood. call Fault stood
    (acks_act config (state_in config stood) (chars c.args.from.now) taken) (acks_answer config (state_in config stood) (chars c.args.from.now) taken))) (sym acks)
    goes))

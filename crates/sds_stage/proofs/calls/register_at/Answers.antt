use Rattle.std.proofs.Common.{sym, subst}
use Rattle.sds_types.specs.declared.registration.RegRefusal.TheVariants.{Fault}
use Rattle.sds_history.specs.history.Registrations.{register_act, register_answer}
use Rattle.sds_history.specs.world.Calling.{call}
use Rattle.sds_history.specs.world.Worlds.{state_in}
use Rattle.sds_nodelaws.specs.Calls.Call.{Register}
use Rattle.sds_node.proofs.Endings.{ended_reg}
use Rattle.sds_stage.specs.Standing.{Goes}
use Rattle.sds_stage.proofs.Called.{goes_by, if_ok}
use Rattle.sds_stage.proofs.Registered.{gives_token}
use Rattle.sds_stage.proofs.calls.register_at.Goals as goal

pub returns-clause-goes : goal.returns-clause-goes
returns-clause-goes c =
    if_ok c.unless_registering_lacks.result
    (goes_by Fault (Register c.args.asks.now) (λ config state. register_answer config state c.args.asks.now) ended_reg
    c.args.node.now c.register.new.self c.register.result c.unless_registering_lacks.result (λ config state. c.requires.asked) tt
    c.register.ensures.node c.register.ensures.still c.register.ensures.goes c.unless_registering_lacks.ensures)
    (λ told goes other is. subst (λ me. Goes c.args.node.now c.register.new.self told (λ config stood. call Fault stood
    (register_act config (state_in config stood) me) (register_answer config (state_in config stood) me))) (sym is) goes)

pub returns-clause-token : goal.returns-clause-token
returns-clause-token c =
    gives_token c.args.node.now c.register.new.self c.args.asks.now c.register.result c.unless_registering_lacks.result c.register.ensures.goes
    c.unless_registering_lacks.ensures

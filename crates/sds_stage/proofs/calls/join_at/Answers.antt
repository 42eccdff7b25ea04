use Rattle.std.proofs.Common.{sym, subst}
use Rattle.std.specs.Str.{chars}
use Rattle.sds_types.specs.declared.registration.RegRefusal.TheVariants.{Fault}
use Rattle.sds_history.specs.history.Joins.{join_act, join_answer}
use Rattle.sds_history.specs.world.Calling.{call}
use Rattle.sds_history.specs.world.Worlds.{state_in}
use Rattle.sds_nodelaws.specs.Calls.Call.{Join}
use Rattle.sds_node.proofs.Endings.{ended_reg}
use Rattle.sds_stage.specs.Standing.{Goes}
use Rattle.sds_stage.proofs.Called.{goes_by, if_ok}
use Rattle.sds_stage.proofs.calls.join_at.Goals as goal

pub returns-clause-goes : goal.returns-clause-goes
returns-clause-goes c =
    if_ok c.unless_registering_lacks.result
    (goes_by Fault (Join c.args.other.now (chars c.args.token.now)) (λ config state. join_answer config state c.args.other.now (chars c.args.token.now)) ended_reg
    c.args.node.now c.join.new.self c.join.result c.unless_registering_lacks.result (λ config state. c.requires.asked) tt
    c.join.ensures.node c.join.ensures.still c.join.ensures.goes c.unless_registering_lacks.ensures)
    (λ told goes at is. subst (λ me. Goes c.args.node.now c.join.new.self told (λ config stood. call Fault stood
    (join_act config (state_in config stood) me (chars c.args.token.now)) (join_answer config (state_in config stood) me (chars c.args.token.now))))
    (sym is) goes)

use Rattle.std.specs.Str.{chars}
use Rattle.sds_types.specs.declared.registration.RegRefusal.TheVariants.{Fault}
use Rattle.sds_history.specs.history.Registrations.{open_answer}
use Rattle.sds_nodelaws.specs.Calls.Call.{Open}
use Rattle.sds_node.proofs.Endings.{ended_reg}
use Rattle.sds_stage.proofs.Called.{goes_by}
use Rattle.sds_stage.proofs.calls.open_at.Goals as goal

pub returns-clause-goes : goal.returns-clause-goes
returns-clause-goes c =
    goes_by Fault (Open (chars c.args.group.now) (chars c.args.external.now) c.args.noise) (λ config state. open_answer config state (chars c.args.group.now) (chars c.args.external.now) c.args.noise) ended_reg
    c.args.node.now c.open_registration.new.self c.open_registration.result c.unless_registering_lacks.result (λ config state. c.requires.asked) tt
    c.open_registration.ensures.node c.open_registration.ensures.still c.open_registration.ensures.goes c.unless_registering_lacks.ensures

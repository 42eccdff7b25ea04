use Rattle.std.specs.Str.{chars}
use Rattle.sds_types.specs.declared.write_answer.WriteRefusal.TheVariants.{Fault}
use Rattle.sds_history.specs.history.Writes.{write_answer}
use Rattle.sds_nodelaws.specs.Calls.Call.{Write}
use Rattle.sds_node.proofs.Endings.{ended_write}
use Rattle.sds_stage.proofs.Called.{goes_by}
use Rattle.sds_stage.proofs.calls.write_at.Goals as goal

pub returns-clause-goes : goal.returns-clause-goes
returns-clause-goes c =
    goes_by Fault (Write (chars c.args.writer.now) c.args.number c.args.rows.now) (λ config state. write_answer config state (chars c.args.writer.now) c.args.number c.args.rows.now) ended_write
    c.args.node.now c.write.new.self c.write.result c.unless_writing_lacks.result (λ config state. c.requires.asked) tt
    c.write.ensures.node c.write.ensures.still c.write.ensures.goes c.unless_writing_lacks.ensures

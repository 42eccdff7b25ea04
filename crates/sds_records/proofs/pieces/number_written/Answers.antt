use Rattle.sds_records.proofs.Numbers.{number_err, number_ok}
use Rattle.sds_records.proofs.pieces.number_written.Goals as goal

pub returns-in-Ok : goal.returns-in-Ok
returns-in-Ok c = λ zeros number fits same. number_ok zeros number c.args.text.now c.parse.result c.in-Ok.number fits c.parse.ensures.value.0 c.in-Ok.is same

pub returns-in-Err : goal.returns-in-Err
returns-in-Err c = λ zeros number fits same. absurd (number_err zeros number c.args.text.now c.parse.result c.in-Err.field-0 fits c.parse.ensures.value.0 c.in-Err.is same)

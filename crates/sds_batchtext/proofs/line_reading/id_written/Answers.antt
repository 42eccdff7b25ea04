use Rattle.std.proofs.Common.{◌∙◌}
use Rattle.sds_batchtext.proofs.Ids.{parsed, not_parsed}
use Rattle.sds_batchtext.proofs.line_reading.id_written.Goals as goal

pub returns-in-Ok : goal.returns-in-Ok
returns-in-Ok c = c.in_range.ensures
    ∙ parsed c.args.text.now c.as_bytes.result.now c.parse.result c.in-Ok.id c.all_digits.result c.parse.ensures.value.0 c.in-Ok.is c.as_bytes.ensures.value c.all_digits.ensures c.if-not-all_digits.false

pub returns-in-Err : goal.returns-in-Err
returns-in-Err c =
    not_parsed c.args.text.now c.as_bytes.result.now c.parse.result c.in-Err.field-0 c.all_digits.result c.parse.ensures.value.0 c.in-Err.is c.as_bytes.ensures.value c.all_digits.ensures c.if-not-all_digits.false

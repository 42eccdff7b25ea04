use Rattle.sds_value.proofs.Integers.{answer_bad, answer_ok, answer_range}
use Rattle.sds_value.proofs.texts.read_integer.Goals as goal

pub returns-then-not-is_integer : goal.returns-then-not-is_integer
returns-then-not-is_integer c = answer_bad c.args.text.now c.as_bytes.result.now c.is_integer.result c.utf8.text c.as_bytes.ensures.value c.is_integer.ensures c.if-not-is_integer.true

pub returns-in-Ok : goal.returns-in-Ok
returns-in-Ok c = answer_ok c.args.text.now c.as_bytes.result.now c.is_integer.result c.parse.result c.in-Ok.number c.as_bytes.ensures.value c.is_integer.ensures c.if-not-is_integer.false c.parse.ensures.value.0 c.in-Ok.is

pub returns-in-Err : goal.returns-in-Err
returns-in-Err c = answer_range c.args.text.now c.as_bytes.result.now c.is_integer.result c.parse.result c.in-Err.field-0 c.as_bytes.ensures.value c.is_integer.ensures c.if-not-is_integer.false c.parse.ensures.value.0 c.in-Err.is

use Rattle.std.proofs.Common.{◌∙◌, arith}
use Rattle.sds_told.proofs.Numbers.{parsed, not_parsed}
use Rattle.sds_told.proofs.pairs.number_in.Goals as goal

pub returns-in-Ok-clause-number : goal.returns-in-Ok-clause-number
returns-in-Ok-clause-number c = c.ranged.ensures.number
    ∙ parsed c.args.least c.args.most (omega (arith, c.ranges.most.fits)) c.args.text.now c.as_bytes.result.now c.parse.result c.in-Ok.number c.all_digits.result c.parse.ensures.value.0 c.in-Ok.is c.as_bytes.ensures.value c.all_digits.ensures c.if-not-all_digits.false

pub returns-in-Err-clause-number : goal.returns-in-Err-clause-number
returns-in-Err-clause-number c =
    not_parsed c.args.least c.args.most (omega (arith, c.ranges.most.fits)) c.args.text.now c.as_bytes.result.now c.parse.result c.in-Err.field-0 c.all_digits.result c.parse.ensures.value.0 c.in-Err.is c.as_bytes.ensures.value c.all_digits.ensures c.if-not-all_digits.false

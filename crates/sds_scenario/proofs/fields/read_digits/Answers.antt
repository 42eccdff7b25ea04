use Rattle.sds_scenario.proofs.Digits.{read}
use Rattle.sds_scenario.proofs.fields.read_digits.Goals as goal

pub returns : goal.returns
returns c = read c.args.text.now c.as_bytes.result.now c.parse.result c.ok.result c.are_digits.result c.parse.ensures.value.0 c.ok.ensures.value c.as_bytes.ensures.value c.are_digits.ensures c.if-not-are_digits.false

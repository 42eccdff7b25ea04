use Rattle.sds_first_world.proofs.Numbers.{read_digits}
use Rattle.sds_first_world.proofs.forms.read_digits.Goals as goal

pub returns : goal.returns
returns c = read_digits c.args.text.now c.as_bytes-digits.result.now c.parse.result c.ok.result c.all_digits.result c.parse.ensures.value.0 c.ok.ensures.value c.as_bytes-digits.ensures.value c.all_digits.ensures c.if-not-all_digits.false c.if-digits-gt19.false

use Rattle.sds_first_world.proofs.Numbers.{of_characters}
use Rattle.sds_first_world.proofs.forms.read_number.Goals as goal

pub returns : goal.returns
returns c = of_characters c.as_str.result.now c.args.text.now c.read_digits.result c.as_str.utf8 c.as_str.ensures.chars c.read_digits.ensures

use Rattle.std.proofs.Common.{◌∙◌}
use Rattle.sds_scenario.proofs.Digits.{of_characters}
use Rattle.sds_scenario.proofs.fields.read_number.Goals as goal

pub returns : goal.returns
returns c = c.read_digits.ensures ∙ of_characters c.as_str.result.now c.args.text.now c.as_str.utf8 c.as_str.ensures.chars

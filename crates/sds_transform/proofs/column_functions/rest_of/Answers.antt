use Rattle.std.proofs.Common.{◌∙◌, string_bytes}
use Rattle.sds_transform.proofs.Texts.{text_dropped}
use Rattle.sds_transform.proofs.column_functions.rest_of.Goals as goal

pub returns : goal.returns
returns c = c.of.ensures ∙ text_dropped c.as_str.result.now c.args.text.now (string_bytes c.in_ok-rest.rest) c.args.first c.as_str.utf8 c.as_str.ensures.chars c.in_ok-rest.ensures

use Rattle.std.proofs.Common.{◌∙◌, string_bytes}
use Rattle.sds_transform.proofs.Texts.{text_taken}
use Rattle.sds_transform.proofs.column_functions.between.Goals as goal

pub returns : goal.returns
returns c = c.of.ensures ∙ text_taken c.as_str.result.now c.args.text.now (string_bytes c.in_ok-made.made) c.args.count c.args.first c.as_str.utf8 c.as_str.ensures.chars c.in_ok-made.ensures

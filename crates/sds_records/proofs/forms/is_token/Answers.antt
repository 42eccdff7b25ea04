use Rattle.std.proofs.Common.{◌∙◌}
use Rattle.sds_records.proofs.Texts.{same_token}
use Rattle.sds_records.proofs.forms.is_token.Goals as goal

pub returns : goal.returns
returns c = c.are_token_bytes.ensures ∙ same_token c.as_bytes.result.now c.as_str.result.now c.args.text.now c.as_bytes.ensures.value c.as_str.utf8 c.as_str.ensures.chars

use Rattle.std.proofs.Common.{◌∙◌, ap}
use Rattle.hex.specs.Hex.{encode_lower}
use Rattle.sds_acts.proofs.Tokens.{token_text}
use Rattle.sds_acts.proofs.openings.token_of.Goals as goal

pub returns : goal.returns
returns c = token_text c.args.noise.now c.of.result _ c.of.ensures (c.in_ok-encode.ensures ∙ ap encode_lower c.as_slice.ensures)

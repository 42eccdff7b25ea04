use Rattle.std.proofs.Common.{◌∙◌}
use Rattle.sds_batchtext.proofs.Ids.{same_id}
use Rattle.sds_batchtext.proofs.line_reading.read_id.Goals as goal

pub returns : goal.returns
returns c = c.id_written.ensures ∙ same_id c.as_str.result.now c.args.text.now c.as_str.utf8 c.as_str.ensures.chars

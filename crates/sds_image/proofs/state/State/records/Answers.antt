use Rattle.std.proofs.Common.{ap, ◌∙◌}
use Rattle.sds_outside.specs.Records.{in_key_order}
use Rattle.sds_history.specs.history.Image.{records_of}
use Rattle.sds_image.specs.Meaning.{meaning_of}
use Rattle.sds_image.proofs.Ordered.{sorted_is}
use Rattle.sds_image.proofs.state.State.records.Goals as goal

pub returns : goal.returns
returns c = c.of.ensures ∙ (c.in_ok-sorted.ensures ∙ (ap in_key_order c.in_ok-all.ensures ∙ sorted_is (records_of c.args.config.now (meaning_of c.args.self.now))))

use Rattle.sds_image.proofs.TellingParts.{later_key}
use Rattle.sds_image.proofs.telling.is_after.Goals as goal

pub returns-in-Some : goal.returns-in-Some
returns-in-Some c = later_key c.args.before.now c.args.key.now c.in-Some.earlier.now c.is_before.result c.in-Some.ensures.value c.is_before.ensures

use Rattle.sds_imagelaws.proofs.AskedImages.{asked_calls_make_images}
use Rattle.sds_imagelaws.proofs.laws.asked_calls_make_images.Goals as goal

pub returns : goal.returns
returns c = record { make = asked_calls_make_images }

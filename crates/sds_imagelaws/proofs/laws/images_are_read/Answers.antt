use Rattle.sds_imagelaws.proofs.ReadImages.{images_are_read}
use Rattle.sds_imagelaws.proofs.laws.images_are_read.Goals as goal

pub returns : goal.returns
returns c = record { read = images_are_read }

use Rattle.sds_imagelaws.proofs.ImageParts.{images_are_told}
use Rattle.sds_imagelaws.proofs.laws.images_are_told.Goals as goal

pub returns : goal.returns
returns c = record { told = images_are_told }

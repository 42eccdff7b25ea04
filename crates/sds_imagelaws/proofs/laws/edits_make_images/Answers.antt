use Rattle.sds_imagelaws.proofs.Images.{edits_make_images}
use Rattle.sds_imagelaws.proofs.laws.edits_make_images.Goals as goal

pub returns : goal.returns
returns c = record { make = edits_make_images }

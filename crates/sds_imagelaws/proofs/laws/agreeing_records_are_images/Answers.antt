use Rattle.sds_imagelaws.proofs.AgreeingStates.{agreeing_records_are_images}
use Rattle.sds_imagelaws.proofs.laws.agreeing_records_are_images.Goals as goal

pub returns : goal.returns
returns c = record { image = agreeing_records_are_images }

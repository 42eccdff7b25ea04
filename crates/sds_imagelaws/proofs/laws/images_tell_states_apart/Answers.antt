use Rattle.sds_imagelaws.proofs.StatesApart.{images_tell_states_apart}
use Rattle.sds_imagelaws.proofs.laws.images_tell_states_apart.Goals as goal

pub returns : goal.returns
returns c = record { apart = images_tell_states_apart }

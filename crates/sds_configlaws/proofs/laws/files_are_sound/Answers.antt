use Rattle.sds_configlaws.proofs.SoundFiles.{files_are_sound}
use Rattle.sds_configlaws.proofs.laws.files_are_sound.Goals as goal

pub returns : goal.returns
returns c = files_are_sound

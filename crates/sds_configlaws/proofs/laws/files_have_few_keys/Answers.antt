use Rattle.sds_configlaws.proofs.SoundFiles.{files_have_few_keys}
use Rattle.sds_configlaws.proofs.laws.files_have_few_keys.Goals as goal

pub returns : goal.returns
returns c = files_have_few_keys

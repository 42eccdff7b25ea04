use Rattle.sds_config.proofs.OneReading.{one_configuration, one_refusal, not_both}
use Rattle.sds_config.proofs.laws.files_have_one_reading.Goals as goal

pub returns : goal.returns
returns c = record { configuration = one_configuration; refusal = one_refusal; apart = not_both }

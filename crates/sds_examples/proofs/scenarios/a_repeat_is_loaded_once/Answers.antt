use Rattle.sds_examples.proofs.RepeatsComputed.{repeats_load_once}
use Rattle.sds_examples.proofs.scenarios.a_repeat_is_loaded_once.Goals as goal

pub returns : goal.returns
returns c = record { prints = repeats_load_once }

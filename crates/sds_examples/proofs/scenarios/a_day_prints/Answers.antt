use Rattle.sds_examples.proofs.DayComputed.{day_prints}
use Rattle.sds_examples.proofs.scenarios.a_day_prints.Goals as goal

pub returns : goal.returns
returns c = record { prints = day_prints }

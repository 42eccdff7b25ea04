use Rattle.sds_loadlaws.proofs.Texts.{named_ways_are_spelt}
use Rattle.sds_loadlaws.proofs.laws.named_ways_are_spelt.Goals as goal

pub returns : goal.returns
returns c = record { spelt = named_ways_are_spelt }

use Rattle.std.proofs.Common.{◌≡◌, drop}
use Rattle.std.specs.List.{list_all}
use Rattle.sds_loadlaws.specs.Spelt.{is_spelt_transform}
use Rattle.sds_loadlaws.proofs.spelling.transforms_are_spelt.Given as goal

abbrev pub invariant-loop-transform : goal.invariant-loop-transform
invariant-loop-transform l = list_all is_spelt_transform (drop l.transform-index l.transforms) ≡ list_all is_spelt_transform l.transforms

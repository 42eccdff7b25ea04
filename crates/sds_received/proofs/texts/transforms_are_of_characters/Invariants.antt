use Rattle.std.proofs.Common.{◌≡◌, drop}
use Rattle.std.specs.List.{list_all}
use Rattle.sds_received.specs.Characters.{is_transform_text}
use Rattle.sds_received.proofs.texts.transforms_are_of_characters.Given as goal

abbrev pub invariant-loop-transform : goal.invariant-loop-transform
invariant-loop-transform l = list_all is_transform_text (drop l.transform-index l.transforms) ≡ list_all is_transform_text l.transforms

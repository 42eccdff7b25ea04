use Rattle.std.proofs.Common.{take}
use Rattle.sds_image.specs.PartsSeen.{records_of_pairs}
use Rattle.sds_image.specs.Reading.{AreTold}
use Rattle.sds_image.proofs.telling.read_parts.Given as goal

abbrev pub invariant-loop-place : goal.invariant-loop-place
invariant-loop-place l = AreTold l.config (records_of_pairs (take l.place l.records)) l.parts

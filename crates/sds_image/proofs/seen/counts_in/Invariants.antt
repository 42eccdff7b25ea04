use Rattle.std.proofs.Common.{◌≡◌, drop}
use Rattle.sds_image.specs.Reading.{counts_of_part, first_told}
use Rattle.sds_image.proofs.seen.counts_in.Given as goal

abbrev pub invariant-loop-part : goal.invariant-loop-part
invariant-loop-part l = first_told counts_of_part (drop l.part-index l.parts) ≡ first_told counts_of_part l.parts

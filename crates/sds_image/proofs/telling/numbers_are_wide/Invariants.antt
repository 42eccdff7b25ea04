use Rattle.std.proofs.Common.{take, All}
use Rattle.sds_records.specs.Told.{IsWide}
use Rattle.sds_image.proofs.telling.numbers_are_wide.Given as goal

abbrev pub invariant-loop-number : goal.invariant-loop-number
invariant-loop-number l = All IsWide (take l.number-index l.numbers)

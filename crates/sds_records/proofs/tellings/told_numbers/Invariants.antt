use Rattle.std.proofs.Common.{◌≡◌, ℕ, List, map, take}
use Rattle.std.specs.List.{All}
use Rattle.sds_history.specs.history.Records.{number_field}
use Rattle.sds_records.specs.Told.{IsWide}
use Rattle.sds_records.proofs.tellings.told_numbers.Given as goal

-- the numbers so far are the first of those that the fields write
abbrev pub invariant-loop-field : goal.invariant-loop-field
invariant-loop-field l = (numbers : List ℕ) → All IsWide numbers → l.fields ≡ map number_field numbers → l.numbers ≡ take l.field-index numbers

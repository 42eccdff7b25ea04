use Rattle.std.proofs.Common.{◌≡◌, ◌++◌, drop, map}
use Rattle.sds_history.specs.history.Records.{number_field}
use Rattle.sds_records.proofs.fields.put_numbers.Given as goal

abbrev pub invariant-loop-number : goal.invariant-loop-number
invariant-loop-number l = l.out.items ++ map number_field (drop l.number-index l.numbers)
    ≡ l.fn.out.items ++ map number_field l.numbers

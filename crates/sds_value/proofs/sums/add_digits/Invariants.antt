use Rattle.std.proofs.Common.{◌≡◌, ◌+◌, ◌*◌, ◌^◌, ◌<◌, length, drop}
use Rattle.sds_value.specs.Digits.{digits_value}
use Rattle.sds_value.proofs.sums.add_digits.Given as goal

abbrev pub invariant-loop-digit : goal.invariant-loop-digit
invariant-loop-digit l = record {
  small : l.sum < 2 ^ 64;
  so_far : l.sum * 10 ^ length (drop l.digit-index l.digits) + digits_value (drop l.digit-index l.digits) ≡ l.number * 10 ^ length l.digits + digits_value l.digits;
}

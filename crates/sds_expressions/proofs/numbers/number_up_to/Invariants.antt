use Rattle.std.proofs.Common.{◌≡◌, ◌≤◌, drop, true}
use Rattle.std.specs.List.{list_all}
use Rattle.std.specs.Char.{is_ascii_digit}
use Rattle.sds_expressions.specs.Numbers as wanted
use Rattle.sds_expressions.proofs.numbers.number_up_to.Given as goal

-- the digits that are left are read after the number so far, which isn't too great
abbrev pub invariant-loop-digit : goal.invariant-loop-digit
invariant-loop-digit l = record {
  so_far : wanted.number_from l.number (drop l.digit-index l.digits) ≡ wanted.number_from 0 l.digits;
  digits : list_all is_ascii_digit (drop l.digit-index l.digits) ≡ true;
  bound : l.number ≤ l.most;
}

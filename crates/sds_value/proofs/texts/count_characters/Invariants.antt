use Rattle.std.proofs.Common.{◌≡◌, length, drop}
use Rattle.std.specs.Str.{chars}
use Rattle.sds_value.specs.Values.{has_zero}
use Rattle.sds_value.proofs.texts.count_characters.Given as goal

abbrev pub invariant-loop-character : goal.invariant-loop-character
invariant-loop-character l = record {
  counted : l.count ≡ length l.yielded;
  rest : has_zero (drop l.count (chars l.text)) ≡ has_zero (chars l.text);
}

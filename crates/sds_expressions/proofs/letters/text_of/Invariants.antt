use Rattle.std.proofs.Common.{◌≡◌, take, true, string_bytes}
use Rattle.std.specs.Str.{encode_utf8_all, all_scalars}
use Rattle.sds_expressions.proofs.letters.text_of.Given as goal

-- the characters so far are in the text, each in UTF-8
abbrev pub invariant-loop-character : goal.invariant-loop-character
invariant-loop-character l = record {
  so_far : string_bytes l.text ≡ encode_utf8_all (take l.character-index l.characters);
  scalars : all_scalars (take l.character-index l.characters) ≡ true;
}

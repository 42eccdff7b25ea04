use Rattle.std.proofs.Common.{◌≡◌, length, []}
use denote.Shadow.{shadow}
use denote.Text.{Utf8}
use Rattle.sds_expressions.specs.Computed as wanted
use Rattle.sds_expressions.specs.Pieces.{split}
use Rattle.sds_expressions.proofs.computed.value_map_of.Given as goal

-- the pairs so far and those of the text that is left
abbrev pub invariant-loop-front : goal.invariant-loop-front
invariant-loop-front l = record {
  so_far : wanted.pairs_from l.pairs.items (split 32 l.rest) ≡ wanted.pairs_from [] (split 32 l.text);
  text : shadow (Utf8 l.rest);
}

abbrev pub decreases-loop-front : goal.decreases-loop-front
decreases-loop-front l = length l.rest

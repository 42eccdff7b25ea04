use Rattle.std.specs.Prelude.{◌≡◌, map, take}
use Rattle.symds.specs.Words.{characters_of}
use Rattle.symds.proofs.words.copies_of.Given as goal

abbrev pub invariant-loop-word : goal.invariant-loop-word
invariant-loop-word l = l.copies.items ≡ characters_of (map (λ word. word.now) (take l.word-index l.words))

use Rattle.std.specs.Prelude.{◌≡◌, map, take}
use Rattle.symds.specs.Words.{texts_of}
use Rattle.symds.proofs.words.texts_of.Given as goal

abbrev pub invariant-loop-word : goal.invariant-loop-word
invariant-loop-word l = map (λ text. text.now) l.texts.items ≡ texts_of (take l.word-index l.words)

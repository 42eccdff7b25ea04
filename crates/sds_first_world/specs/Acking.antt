-- The words of a reply's acks in one pass.
use Rattle.std.specs.Prelude.{ℕ, List, [], ◌∷◌, ◌++◌, codes}
use Rattle.sds_types.specs.declared.ack.Ack.{Ack}
use Rattle.sds_first_spec.specs.Screen.{ack_word}

-- the words of acks that stand behind another
abbrev pub others_words : List Ack → List ℕ
others_words [] = []
others_words (ack ∷ acks) = codes "&" ++ (ack_word ack ++ others_words acks)

-- Words on texts and lists of texts, and the texts of values.
use Rattle.std.specs.Prelude.{ℕ, Bool, true, false, ◌&&◌, List, [], ◌∷◌}
use Rattle.std.specs.Str.{bytes_eq}
use Rattle.sds_value.specs.declared.kind.Binary.TheVariants.{Base64}
use Rattle.sds_value.specs.declared.kind.Kind.TheVariants as kind
use Rattle.sds_value.specs.declared.kind.Value.{Value}
use Rattle.sds_value.specs.declared.kind.Value.TheVariants.{Integer, Text}
use Rattle.sds_value.specs.Values.{printed}

abbrev pub same_texts : List (List ℕ) → List (List ℕ) → Bool
same_texts [] [] = true
same_texts (x ∷ xs) (y ∷ ys) = bytes_eq x y && same_texts xs ys
same_texts xs ys = false

-- the printed text of a value of the one table, whose columns hold numbers of INTEGER and texts, and nothing for any other value
abbrev pub value_text : Value → List ℕ
value_text (Integer z) = printed kind.Integer Base64 (Integer z)
value_text (Text text) = printed (kind.Varchar 40) Base64 (Text text)
value_text value = []

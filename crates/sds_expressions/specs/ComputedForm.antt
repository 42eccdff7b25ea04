-- The forms of the expressions of a transform's columns, by their bytes in UTF-8.
use Rattle.std.specs.Prelude.{◌≡◌, ◌≤◌, ◌⊎◌, ℕ, ℤ, pos, nat_abs, not, ◌==◌, List, [], ◌∷◌, ◌++◌, codes, Option, Some, None}
use Rattle.std.specs.Fmt.{decimal, signed_decimal}
use Rattle.std.specs.Str.{chars}
use Rattle.sds_types.specs.declared.transform_column.MapPair.{MapPair}
use Rattle.sds_types.specs.declared.transform_column.NodeWord.{NodeWord}
use Rattle.sds_types.specs.declared.transform_column.NodeWord.TheVariants.{SourceNode, TargetNode}
use Rattle.sds_types.specs.declared.transform_column.Substring.{Substring}
use Rattle.sds_expressions.specs.Forms.{Form, ◌▸◌, Exactly, AnyOf}

-- a number up to a bound, in decimal digits without a sign and without a leading zero
abbrev pub NumberOf : ℕ → ℕ → Form
NumberOf most n text = (text ≡ decimal n) × (n ≤ most)

-- `left`: how many characters it takes
abbrev pub IsLeftForm : List ℕ → ℕ → Type 0
IsLeftForm text n = NumberOf 2000 n text

-- `substr`: one number, or two that a comma joins
abbrev pub PieceOf : ℕ → Option ℕ → Form
PieceOf first None = NumberOf 2000 first
PieceOf first (Some end) = NumberOf 2000 first ▸ Exactly (codes ",") ▸ NumberOf 2000 end

abbrev pub IsSubstrForm : List ℕ → Substring → Type 0
IsSubstrForm text piece = PieceOf piece.first piece.end text

-- `valueMap`: pairs that single spaces join, each divided at its first `=`; a pair has no space
abbrev pub Without : ℕ → Form
Without mark = AnyOf (λ c. not (c == mark))

pub record PairOf (pair : MapPair) (text : List ℕ) : Type 0 where
  pub source : List ℕ
  pub target : List ℕ
  pub is : text ≡ source ++ 61 ∷ target
  pub first : Without 61 source
  pub unspaced : Without 32 text
  pub source_is : chars source ≡ pair.source
  pub target_is : chars target ≡ pair.target

abbrev pub PairsOf : List MapPair → Form
PairsOf [] = λ text. ⊥
PairsOf (pair ∷ []) = PairOf pair
PairsOf (pair ∷ next ∷ pairs) = PairOf pair ▸ Exactly (codes " ") ▸ PairsOf (next ∷ pairs)

abbrev pub IsValueMapForm : List ℕ → List MapPair → Type 0
IsValueMapForm text pairs = PairsOf pairs text

-- `variable`: one of its two words
abbrev pub IsVariableForm : List ℕ → NodeWord → Type 0
IsVariableForm text SourceNode = text ≡ codes "source_node_id"
IsVariableForm text TargetNode = text ≡ codes "target_node_id"

-- `additive`: a multiplier, which is 1 where the text is empty
abbrev pub IsAdditiveForm : List ℕ → ℤ → Type 0
IsAdditiveForm text factor =
    ((text ≡ []) × (factor ≡ pos 1)) ⊎ ((text ≡ signed_decimal factor) × (nat_abs factor ≤ 1000000))

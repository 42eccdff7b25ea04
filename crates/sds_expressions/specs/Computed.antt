-- The expressions of a transform's columns, by their bytes in UTF-8.
use Rattle.std.specs.Prelude.{ℕ, ℤ, pos, neg_ℤ, ◌==◌, if◌then◌else◌, List, [], ◌∷◌, ◌++◌, codes, Option, Some, None, option_map, option_and_then}
use Rattle.std.specs.Str.{bytes_eq, chars}
use Rattle.sds_types.specs.declared.transform_column.NodeWord.{NodeWord}
use Rattle.sds_types.specs.declared.transform_column.NodeWord.TheVariants.{SourceNode, TargetNode}
use Rattle.sds_types.specs.declared.transform_column.MapPair.{MapPair}
use Rattle.sds_types.specs.declared.transform_column.Substring.{Substring}
use Rattle.sds_expressions.specs.Numbers.{plain_number}
use Rattle.sds_expressions.specs.Pieces.{split_at, split}

-- how many characters `left` takes, which is also what `substr` counts by
abbrev pub left_of : List ℕ → Option ℕ
left_of text = plain_number 2000 text

-- one number, or two that a comma joins
abbrev pub two_numbers : Option ℕ → Option ℕ → Option Substring
two_numbers first end =
    option_and_then (λ from. option_map (λ to. record { first = from; end = Some to }) end) first

abbrev pub substr_of : List ℕ → Option Substring
substr_of text = elim (split_at 44 text) [
  | None ↦ option_map (λ from. record { first = from; end = None }) (left_of text)
  | Some parts ↦ two_numbers (left_of parts.0) (left_of parts.1)
]

-- a pair is divided at its first `=`
abbrev pub pair_of : List ℕ → Option MapPair
pair_of text =
    option_map (λ pair. record { source = chars pair.0; target = chars pair.1 }) (split_at 61 text)

-- the pairs so far and those of the texts that follow
abbrev pub pairs_from : List MapPair → List (List ℕ) → Option (List MapPair)
pairs_from earlier [] = Some earlier
pairs_from earlier (text ∷ texts) = option_and_then (λ pair. pairs_from (earlier
    ++ pair ∷ []) texts) (pair_of text)

-- pairs that single spaces join
abbrev pub value_map_of : List ℕ → Option (List MapPair)
value_map_of text = pairs_from [] (split 32 text)

-- one of the two words
abbrev pub variable_of : List ℕ → Option NodeWord
variable_of text = if bytes_eq text (codes "source_node_id") then Some SourceNode
    else (if bytes_eq text (codes "target_node_id") then Some TargetNode else None)

-- a number with `-` before it, which isn't 0
abbrev pub negative_of : List ℕ → Option ℤ
negative_of digits = option_and_then (λ n. if n == 0 then None
    else Some (neg_ℤ (pos n))) (plain_number 1000000 digits)

-- a multiplier: 1 where it is empty, else a number from -1,000,000 to 1,000,000
abbrev pub multiplier_of : List ℕ → Option ℤ
multiplier_of [] = Some (pos 1)
multiplier_of (c ∷ cs) = if c == 45 then negative_of cs
    else option_map (λ n. pos n) (plain_number 1000000 (c ∷ cs))

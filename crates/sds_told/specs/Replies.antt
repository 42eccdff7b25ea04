-- The text of a reply, and what it says.
use Rattle.std.specs.Prelude.{ℕ, ◌+◌, ◌-◌, ◌^◌, Bool, true, ◌&&◌, nat_le, is_none, if◌then◌else◌, List, [], ◌∷◌, ◌++◌, map, codes, Option, None, Some, option_map, Result, Ok, Err}
use Rattle.std.specs.Fmt.{decimal}
use Rattle.std.specs.List.{filter_map, join_with_byte, position}
use Rattle.std.specs.Option.{option_and_then, option_map_or}
use Rattle.std.specs.Str.{bytes_eq}
use Rattle.std.specs.Str.Lossy.{utf8_lossy}
use Rattle.form_urlencoded.specs.Form.{decode, raw_pairs}
use Rattle.sds_value.specs.Digits.{digits_value, is_digit_text}
use Rattle.sds_types.specs.DocumentCauses.{number_of}
use Rattle.sds_types.specs.Limits.{most_count}
use Rattle.sds_types.specs.declared.ack.Ack.{Ack}
use Rattle.sds_types.specs.declared.ack.AcksRefusal.{AcksRefusal}
use Rattle.sds_types.specs.declared.ack.AcksRefusal.TheVariants.{BadAcks}
use Rattle.sds_types.specs.declared.document.End.{End}
use Rattle.sds_types.specs.declared.document.End.TheVariants.{Clean, Broken}
use Rattle.sds_history.specs.history.SoundParts.{most_rule}
use Rattle.sds_expressions.specs.Pieces.{behind, split_at}
use Rattle.sds_screen.specs.Words.{ack_word}

-- the words of acks that stand after another
abbrev pub further_words : List Ack → List ℕ
further_words [] = []
further_words (ack ∷ acks) = codes "&" ++ (ack_word ack ++ further_words acks)

-- how the document ended that a reply answers: `broken=LINE.CAUSE` where it is broken
abbrev pub end_words : End → List (List ℕ)
end_words Clean = []
end_words (Broken line cause) =
    (codes "broken=" ++ (decimal line ++ (codes "." ++ decimal (number_of cause)))) ∷ []

-- a reply to a document that ended so
abbrev pub ended_text : List Ack → End → List ℕ
ended_text acks ending = join_with_byte 38 (map ack_word acks ++ end_words ending)

-- the pairs that a text writes as web forms do, each a name and a value
abbrev pub pair_texts : List ℕ × List ℕ → List ℕ × List ℕ
pair_texts pair = (utf8_lossy (decode pair.0), utf8_lossy (decode pair.1))

abbrev pub pairs : List ℕ → List (List ℕ × List ℕ)
pairs text = map pair_texts (raw_pairs text)

-- a number from the least to the most, in decimal digits, which may begin with zeros
abbrev pub ranged : ℕ → ℕ → ℕ → Option ℕ
ranged least most number =
    if nat_le least number && nat_le number most then Some number else None

abbrev pub number_in : ℕ → ℕ → List ℕ → Option ℕ
number_in least most text =
    if is_digit_text text then ranged least most (digits_value text) else None

-- the batch that a name names: `batch-N`
abbrev pub named_batch : List ℕ → Option ℕ
named_batch name = option_and_then (number_in 1 most_count) (behind (codes "batch-") name)

-- the highest number of a row
abbrev pub most_row : ℕ
most_row = 2 ^ 32 - 1

abbrev pub both : Option ℕ → Option ℕ → Option (ℕ × ℕ)
both (Some first) (Some second) = Some (first, second)
both first second = None

abbrev pub error_in : List ℕ × List ℕ → Option (ℕ × ℕ)
error_in parts = both (number_in 0 most_row parts.0) (number_in 1 most_rule parts.1)

-- an ack that can be written and read: its batch is 1 to 2^62, the row of its error fits 32 bits,
-- and the rule is 1 to 16
abbrev pub is_readable_error : ℕ × ℕ → Bool
is_readable_error error = nat_le error.0 most_row && (nat_le 1 error.1 && nat_le error.1 most_rule)

abbrev pub is_readable_ack : Ack → Bool
is_readable_ack ack = (nat_le 1 ack.batch && nat_le ack.batch most_count)
    && option_map_or is_readable_error ack.error true

-- what a value says: `ok`, or `er.ROW.RULE`
abbrev pub told_error : List ℕ → Option (Option (ℕ × ℕ))
told_error value = if bytes_eq value (codes "ok") then Some None
    else option_map Some
    (option_and_then error_in (option_and_then (split_at 46) (behind (codes "er.") value)))

-- what a pair says of a batch; a pair of another form says nothing
abbrev pub ack_if : Option ℕ → Option (Option (ℕ × ℕ)) → Option Ack
ack_if (Some batch) (Some error) = Some (record { batch = batch; error = error })
ack_if batch error = None

abbrev pub ack_of : List ℕ → List ℕ → Option Ack
ack_of name value = ack_if (named_batch name) (told_error value)

abbrev pub ack_in : List ℕ × List ℕ → Option Ack
ack_in pair = ack_of pair.0 pair.1

-- the acks of all pairs, or the place, from 1, of the first that says nothing
abbrev pub acks_of : List (List ℕ × List ℕ) → Result (List Ack) AcksRefusal
acks_of pairs = elim (position (λ (pair : List ℕ × List ℕ). is_none (ack_in pair)) pairs) [
  | None ↦ Ok (filter_map ack_in pairs)
  | Some at ↦ Err (BadAcks (at + 1))
]

-- What a pair of a reply says, by the form of its texts.
use Rattle.std.specs.Prelude.{◌≡◌, ◌≤◌, ℕ, true, List, ◌++◌, codes, Option, None, Some}
use Rattle.sds_value.specs.Digits.{digits_value, is_digit_text}
use Rattle.sds_types.specs.Limits.{most_count}
use Rattle.sds_types.specs.declared.ack.Ack.{Ack}
use Rattle.sds_history.specs.history.SoundParts.{most_rule}
use Rattle.sds_told.specs.Replies.{most_row}

-- the text is decimal digits, which may begin with zeros, of a number from the least to the most
pub record IsNumberText (least most : ℕ) (text : List ℕ) (number : ℕ) : Type 0 where
  pub digits : is_digit_text text ≡ true
  pub value : digits_value text ≡ number
  pub low : least ≤ number
  pub high : number ≤ most

-- `batch-N`
pub record SaysBatch (name : List ℕ) (batch : ℕ) : Type 0 where
  pub digits : List ℕ
  pub form : name ≡ codes "batch-" ++ digits
  pub number : IsNumberText 1 most_count digits batch

-- `er.ROW.RULE`
pub record SaysRule (value : List ℕ) (row rule : ℕ) : Type 0 where
  pub first : List ℕ
  pub second : List ℕ
  pub form : value ≡ codes "er." ++ (first ++ (codes "." ++ second))
  pub row_is : IsNumberText 0 most_row first row
  pub rule_is : IsNumberText 1 most_rule second rule

-- `ok` tells of no error
abbrev pub SaysError : List ℕ → Option (ℕ × ℕ) → Type 0
SaysError value None = value ≡ codes "ok"
SaysError value (Some error) = SaysRule value error.0 error.1

abbrev pub Says : List ℕ → List ℕ → Ack → Type 0
Says name value ack = SaysBatch name ack.batch × SaysError value ack.error

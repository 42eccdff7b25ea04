-- Which text reads as which value, the printed text of a value, and the order of values.
-- A text that is read is given by its characters, a printed text by its bytes.
use Rattle.std.specs.Prelude.{ℕ, Bool, true, false, not, ◌&&◌, ◌==◌, nat_le, if◌then◌else◌, List, [], length, ℤ, Option, None, Some, Result, Ok, Err}
use Rattle.std.specs.List.{list_any}
use Rattle.std.specs.Fmt.{signed_decimal}
use Rattle.std.specs.Str.{encode_utf8_all, all_scalars}
use Rattle.std.specs.declared.cmp.Ordering.{Ordering}
use Rattle.std.specs.Ordering.{nat_cmp, int_cmp, ordering_then}
use Rattle.std.specs.Cmp.Lexicographic.{slice_cmp}
use Rattle.sds_value.specs.declared.kind.Binary.{Binary}
use Rattle.sds_value.specs.declared.kind.Binary.TheVariants.{Plain}
use Rattle.sds_value.specs.declared.kind.Kind.{Kind}
use Rattle.sds_value.specs.declared.kind.Kind.TheVariants as Kinds
use Rattle.sds_value.specs.declared.kind.Value.{Value}
use Rattle.sds_value.specs.declared.kind.Value.TheVariants.{Null, Integer, Decimal, Text, Stamp, Bin}
use Rattle.sds_value.specs.declared.refusal.ValueRefusal.{ValueRefusal}
use Rattle.sds_value.specs.declared.refusal.ValueRefusal.TheVariants.{BadText, TooLong, OutOfRange}
use Rattle.sds_value.specs.Binaries.{are_bytes, coded_bytes, coded_text}
use Rattle.sds_value.specs.Stamps.{is_stamp_text, year_in, day_value, nano_value, is_stamp, stamp_text}
use Rattle.sds_value.specs.Decimals.{is_decimal_text, decimal_value, decimal_text}
pub use Rattle.sds_value.specs.Digits.{digits_value, is_digit_text, without_sign, has_minus, signed, is_in_range}

-- a sign or none, and then one decimal digit or more
abbrev pub is_integer_text : List ℕ → Bool
is_integer_text text = is_digit_text (without_sign text)

-- the number that such a text writes
abbrev pub integer_value : List ℕ → ℤ
integer_value text = signed (has_minus text) (digits_value (without_sign text))

-- what a text reads as under INTEGER
abbrev pub integer_of : List ℕ → Result Value ValueRefusal
integer_of text = if is_integer_text text then (if is_in_range (integer_value text) then Ok (Integer (integer_value text)) else Err OutOfRange) else Err BadText

-- what a text reads as under DECIMAL(s)
abbrev pub decimal_of : ℕ → List ℕ → Result Value ValueRefusal
decimal_of s text = if is_decimal_text s text then (if is_in_range (decimal_value s text) then Ok (Decimal (decimal_value s text)) else Err OutOfRange) else Err BadText

-- the text has the character U+0000
abbrev pub has_zero : List ℕ → Bool
has_zero text = list_any (λ c. c == 0) text

-- what a text reads as under VARCHAR(n)
abbrev pub varchar_of : ℕ → List ℕ → Result Value ValueRefusal
varchar_of n text = if has_zero text then Err BadText else (if nat_le (length text) n then Ok (Text text) else Err TooLong)

-- what a text reads as under TIMESTAMP
abbrev pub stamp_of : List ℕ → Result Value ValueRefusal
stamp_of text = if is_stamp_text text then (if nat_le 1 (year_in text) then Ok (Stamp (day_value text) (nano_value text)) else Err OutOfRange) else Err BadText

-- bytes under VARBINARY(n)
abbrev pub binary_of : ℕ → Option (List ℕ) → Result Value ValueRefusal
binary_of n None = Err BadText
binary_of n (Some bytes) = if nat_le (length bytes) n then Ok (Bin bytes) else Err TooLong

-- what a text reads as under VARBINARY(n)
abbrev pub varbinary_of : ℕ → Binary → List ℕ → Result Value ValueRefusal
varbinary_of n form text = binary_of n (coded_bytes form (encode_utf8_all text))

-- what a text reads as, or why it doesn't
abbrev pub value_of : Kind → Binary → List ℕ → Result Value ValueRefusal
value_of Kinds.Integer form text = integer_of text
value_of (Kinds.Decimal s) form text = decimal_of s text
value_of (Kinds.Varchar n) form text = varchar_of n text
value_of Kinds.Timestamp form text = stamp_of text
value_of (Kinds.Varbinary n) form text = varbinary_of n form text

-- the value is one of this kind's form, whatever its size; null is of none
abbrev pub is_of : Kind → Value → Bool
is_of Kinds.Integer (Integer z) = true
is_of (Kinds.Decimal s) (Decimal z) = true
is_of (Kinds.Varchar n) (Text text) = true
is_of Kinds.Timestamp (Stamp day nano) = true
is_of (Kinds.Varbinary n) (Bin bytes) = true
is_of kind value = false

-- the value has a printed text under this kind: it is one of the kind's form, and a time lies in the years 1 to 9999
abbrev pub is_printable : Kind → Value → Bool
is_printable Kinds.Timestamp (Stamp day nano) = is_stamp day nano
is_printable kind value = is_of kind value

-- the value is one of this kind, within its limits: a number in range, a text of characters or bytes within the length, the text without U+0000, and a time of the years 1 to 9999
abbrev pub fits : Kind → Value → Bool
fits Kinds.Integer (Integer z) = is_in_range z
fits (Kinds.Decimal s) (Decimal z) = is_in_range z
fits (Kinds.Varchar n) (Text text) = all_scalars text && (not (has_zero text) && nat_le (length text) n)
fits Kinds.Timestamp (Stamp day nano) = is_stamp day nano
fits (Kinds.Varbinary n) (Bin bytes) = are_bytes bytes && nat_le (length bytes) n
fits kind value = false

-- the printed text of a value: of a number `-` where it is negative and its digits without leading zeros, with so many behind a point under DECIMAL; of a text the text
-- itself in UTF-8; of a time year, month, day, hour, minute, second and fraction; of bytes their base64 or their hexadecimal digits; a value of another kind has none
abbrev pub printed : Kind → Binary → Value → List ℕ
printed Kinds.Integer form (Integer z) = signed_decimal z
printed (Kinds.Decimal s) form (Decimal z) = decimal_text s z
printed (Kinds.Varchar n) form (Text text) = encode_utf8_all text
printed Kinds.Timestamp form (Stamp day nano) = stamp_text day nano
printed (Kinds.Varbinary n) form (Bin bytes) = coded_text form bytes
printed kind form value = []

-- the form writes values of the kind: the plain form writes no bytes
abbrev pub is_written : Kind → Binary → Bool
is_written (Kinds.Varbinary n) Plain = false
is_written kind form = true

-- null first, then a place for each form of value
abbrev pub form_place : Value → ℕ
form_place Null = 0
form_place (Integer z) = 1
form_place (Decimal z) = 2
form_place (Text text) = 3
form_place (Stamp day nano) = 4
form_place (Bin bytes) = 5

-- the order of texts is that of their bytes in UTF-8
abbrev pub text_order : List ℕ → List ℕ → Ordering
text_order a b = slice_cmp nat_cmp (encode_utf8_all a) (encode_utf8_all b)

-- the order of values: null is below every value, and values of two forms stand in the order of their places
abbrev pub value_order : Value → Value → Ordering
value_order (Integer a) (Integer b) = int_cmp a b
value_order (Decimal a) (Decimal b) = int_cmp a b
value_order (Text a) (Text b) = text_order a b
value_order (Stamp day nano) (Stamp day' nano') = ordering_then (int_cmp day day') (nat_cmp nano nano')
value_order (Bin a) (Bin b) = slice_cmp nat_cmp a b
value_order a b = nat_cmp (form_place a) (form_place b)

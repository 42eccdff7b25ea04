-- How many bytes the field of a value takes at most, by the kind of its column.
use Rattle.std.proofs.Common.{◌≡◌, ℕ, suc, ◌+◌, ◌-◌, ◌*◌, ◌^◌, ◌<◌, ◌≤◌, Bool, true, false, ◌||◌, ◌&&◌, ◌==◌, not, List, [], ◌∷◌, ◌++◌, length, take, drop, replicate, ℤ, pos, negsuc, Result, Ok, Err, None, Some, zero, refl, sym, ap, subst, ◌∙◌, arith, leb}
use Rattle.std.proofs.lemmas.Fmt.{length-decimal-le, length_signed_le}
use Rattle.std.proofs.lemmas.List.{length-append, length-drop, length-replicate, take-append-drop}
use Rattle.std.proofs.lemmas.Str.{encodes-chars, scalars-chars}
use Rattle.std.specs.Fmt.{decimal, signed_decimal}
use Rattle.std.specs.Int.{is_negative}
use Rattle.std.specs.List.{list_all}
use Rattle.std.specs.Option.{option_map_or}
use Rattle.std.specs.Prelude.{if◌then◌else◌, unsigned_abs, slice_index}
use Rattle.std.specs.Str.{all_scalars, chars, encode_utf8_all, IsUtf8}
use Rattle.base64.specs.Engines.{standard}
use Rattle.base64.specs.GeneralPurpose.{encode_of}
use Rattle.base64.specs.Rfc4648.{encode_symbols, padding_len}
use Rattle.sds_value.specs.declared.kind.Binary.TheVariants.{Base64}
use Rattle.sds_value.specs.declared.kind.Kind.{Kind}
use Rattle.sds_value.specs.declared.kind.Kind.TheVariants as Kinds
use Rattle.sds_value.specs.declared.kind.Value.{Value}
use Rattle.sds_value.specs.declared.kind.Value.TheVariants as value
use Rattle.sds_value.specs.declared.refusal.ValueRefusal.{ValueRefusal}
use Rattle.sds_value.specs.declared.refusal.ValueRefusal.TheVariants.{BadText}
use Rattle.sds_value.specs.declared.row.Field.{Field}
use Rattle.sds_value.specs.declared.row.Field.TheVariants.{Null, Text}
use Rattle.sds_value.specs.declared.table.ColumnDef.{ColumnDef}
use Rattle.sds_value.specs.Binaries.{coded_text, are_bytes}
use Rattle.sds_value.specs.Decimals.{decimal_text, with_point}
use Rattle.sds_value.specs.Digits.{is_digit_text, is_in_range, padded}
use Rattle.sds_value.specs.Stamps.{has_stamp_form, is_date, is_stamp, is_stamp_text, is_subsecond, is_time, begins_like, stamp_text, year_in, month_in, day_in, hour_in, minute_in, second_in}
use Rattle.sds_value.specs.Values.{fits, has_zero, printed, stamp_of}
use Rattle.sds_value.proofs.Bytes.{base64_text}
use Rattle.sds_value.proofs.Integers.{range_mag}
use Rattle.sds_value.proofs.Moments.{spaced, with_t}
use Rattle.sds_value.proofs.Stamped.{stamp_back}
use Rattle.sds_line.specs.Written.{escaped, is_field}
use Rattle.sds_trade.specs.rules.RoutedValues.{field_of}
use Rattle.sds_trade.specs.rules.Tables.{is_null, may_hold}
use Rattle.sds_trade.specs.sound.Tables.{HasSize, width_of}
use Rattle.sds_rowvalues.proofs.Printed.{printed_utf8}
use Rattle.sds_nodelaws.proofs.Lists.{and_both, and_left, and_right, from_le}
use Rattle.sds_doclaws.proofs.Weights.{characters_most, cost, cost_is, escaped_most, escaped_same, is_unescaped, weight}

-- NUMBERS take at most 22 bytes
abs_small : (z : ℤ) → is_in_range z ≡ true → unsigned_abs z < 2 ^ 64
abs_small (pos n) is = omega (arith, range_mag (pos n) is)
abs_small (negsuc n) is = omega (arith, range_mag (negsuc n) is)

integer_short : (z : ℤ) → is_in_range z ≡ true → length (signed_decimal z) ≤ 20
integer_short z is = length_signed_le 19 z (omega (arith, range_mag z is)) (range_mag z is)

padded_short : (w n : ℕ) → w ≤ 10 → n < 2 ^ 64 → length (padded w n) ≤ 20
padded_short w n wide small =
    let digits : length (decimal n) ≤ 20 = length-decimal-le 20 n (omega arith) (omega (arith, small)) small in
    on (length (padded w n)) (length (decimal n))
    (length-append (replicate (w - length (decimal n)) 48) (decimal n) ∙ ap (λ k. k + length (decimal n)) (length-replicate (w - length (decimal n)) 48)) digits
  where
    on : (n l : ℕ) → n ≡ (w - l) + l → l ≤ 20 → n ≤ 20
    on n l same less = omega (arith, same, less, wide)

point_short : (s : ℕ) (digits : List ℕ) → length (with_point s digits) ≤ length digits + 1
point_short s digits = by (s == 0)
  where
    k : ℕ
    k = length digits - s

    more : (n a b m : ℕ) → n ≡ a + suc b → m ≡ a + b → n ≤ m + 1
    more n a b m first second = omega (arith, first, second)

    by : (t : Bool) → length (if t then digits else take k digits ++ 46 ∷ drop k digits) ≤ length digits + 1
    by true = omega arith
    by false = more (length (take k digits ++ 46 ∷ drop k digits)) (length (take k digits)) (length (drop k digits)) (length digits)
        (length-append (take k digits) (46 ∷ drop k digits)) (sym (ap length (take-append-drop k digits)) ∙ length-append (take k digits) (drop k digits))

decimal_short : (s : ℕ) (z : ℤ) → s ≤ 9 → is_in_range z ≡ true → length (decimal_text s z) ≤ 22
decimal_short s z few is = by (is_negative z)
    (point_short s (padded (s + 1) (unsigned_abs z))) (padded_short (s + 1) (unsigned_abs z) (omega (arith, few)) (abs_small z is))
  where
    digits : List ℕ
    digits = padded (s + 1) (unsigned_abs z)

    by : (t : Bool) → length (with_point s digits) ≤ length digits + 1 → length digits ≤ 20
        → length ((if t then 45 ∷ [] else []) ++ with_point s digits) ≤ 22
    by true first second = omega (arith, first, second)
    by false first second = omega (arith, first, second)

-- TIMES take at most 29 bytes
by_form : (b : Bool) (r : Result Value ValueRefusal) (v : Value)
    → (if b then r else Err BadText) ≡ Ok v → b ≡ true
by_form true r v is = refl
by_form false r v is = absurd (cc)

end_short : (rest : List ℕ) → is_subsecond rest ≡ true → length rest ≤ 10
end_short [] is = omega arith
end_short (c ∷ cs) is =
    let few = from_le (length cs) 9 (and_left (leb (length cs) 9) (is_digit_text cs) (and_right (c == 46) (leb (length cs) 9 && is_digit_text cs) is)) in
    omega (arith, few)

stamp_short : (day : ℤ) (nano : ℕ) → is_stamp day nano ≡ true → length (stamp_text day nano) ≤ 29
stamp_short day nano is = on (stamp_text day nano) (stamp_back day nano is)
  where
    on : (text : List ℕ) → stamp_of text ≡ Ok (value.Stamp day nano) → length text ≤ 29
    on text reads =
        let form = and_left (has_stamp_form text) (is_date (year_in text) (month_in text) (day_in text) && is_time (hour_in text) (minute_in text) (second_in text))
        (by_form (is_stamp_text text) _ (value.Stamp day nano) reads) in
        let rest = end_short (drop 19 text) (and_right (begins_like spaced text || begins_like with_t text) (is_subsecond (drop 19 text)) form) in
        long (length text) (length (drop 19 text)) (length-drop 19 text) rest
      where
        long : (n m : ℕ) → m ≡ n - 19 → m ≤ 10 → n ≤ 29
        long n m same less = omega (arith, same, less)

-- BYTES take at most four thirds of their number, rounded up to a multiple of four, and no escapes
index_passes : (p : ℕ → Bool) (xs : List ℕ) → p 0 ≡ true → list_all p xs ≡ true → (i : ℕ) → p (slice_index xs i) ≡ true
index_passes p [] zero_is are i = zero_is
index_passes p (x ∷ xs) zero_is are zero = and_left (p x) (list_all p xs) are
index_passes p (x ∷ xs) zero_is are (suc i) = index_passes p xs zero_is (and_right (p x) (list_all p xs) are) i

abbrev symbols : List ℕ
symbols = standard.encode_table

symbol_plain : (i : ℕ) → is_unescaped (slice_index symbols i) ≡ true
symbol_plain i = index_passes is_unescaped symbols refl refl i

symbols_plain : (t m : List ℕ) → ((i : ℕ) → is_unescaped (slice_index t i) ≡ true) → list_all is_unescaped (encode_symbols t m) ≡ true
unfolding encode_symbols
symbols_plain t [] plain = refl
symbols_plain t (a ∷ []) plain = and_both _ _ (plain _) (and_both _ _ (plain _) refl)
symbols_plain t (a ∷ b ∷ []) plain = and_both _ _ (plain _) (and_both _ _ (plain _) (and_both _ _ (plain _) refl))
symbols_plain t (a ∷ b ∷ c ∷ rest) plain =
    and_both _ _ (plain _) (and_both _ _ (plain _) (and_both _ _ (plain _) (and_both _ _ (plain _) (symbols_plain t rest plain))))

symbols_short : (t m : List ℕ) → 3 * length (encode_symbols t m) ≤ 4 * length m + 2
unfolding encode_symbols
symbols_short t [] = omega arith
symbols_short t (a ∷ []) = omega arith
symbols_short t (a ∷ b ∷ []) = omega arith
symbols_short t (a ∷ b ∷ c ∷ rest) = omega (arith, symbols_short t rest)

fill_plain : (n : ℕ) → list_all is_unescaped (replicate n 61) ≡ true
fill_plain zero = refl
fill_plain (suc n) = fill_plain n

append_passes : (p : ℕ → Bool) (xs ys : List ℕ) → list_all p xs ≡ true → list_all p ys ≡ true → list_all p (xs ++ ys) ≡ true
append_passes p [] ys first second = second
append_passes p (x ∷ xs) ys first second = and_both (p x) (list_all p (xs ++ ys)) (and_left (p x) (list_all p xs) first) (append_passes p xs ys (and_right (p x) (list_all p xs) first) second)

base64_plain : (bytes : List ℕ) → list_all is_unescaped (encode_of standard bytes) ≡ true
base64_plain bytes = append_passes is_unescaped (encode_symbols symbols bytes) (replicate (padding_len (length bytes)) 61)
    (symbols_plain symbols bytes symbol_plain) (fill_plain (padding_len (length bytes)))

base64_short : (bytes : List ℕ) → 3 * length (encode_of standard bytes) ≤ 4 * length bytes + 8
base64_short bytes =
    on (length (encode_of standard bytes)) (length (encode_symbols symbols bytes)) (padding_len (length bytes)) (length bytes)
    (length-append (encode_symbols symbols bytes) (replicate (padding_len (length bytes)) 61)
    ∙ ap (λ k. length (encode_symbols symbols bytes) + k) (length-replicate (padding_len (length bytes)) 61))
    (symbols_short symbols bytes) (few (length bytes))
  where
    few : (n : ℕ) → padding_len n ≤ 2
    few n = omega arith

    on : (n s p m : ℕ) → n ≡ s + p → 3 * s ≤ 4 * m + 2 → p ≤ 2 → 3 * n ≤ 4 * m + 8
    on n s p m same first second = omega (arith, same, first, second)

-- VALUES. The written bytes of a printed value: at most 8,000, and at most 4/3 of its kind's width and a few more
pub record IsShort (kind : Kind) (bytes : List ℕ) : Type 0 where
  pub few : length (escaped bytes) ≤ 8000
  pub narrow : 3 * length (escaped bytes) ≤ 4 * width_of kind + 58

by_length : (kind : Kind) (bytes : List ℕ) (most : ℕ) → length bytes ≤ most → most ≤ 29 → 6 * most ≤ 4 * width_of kind + 58 → IsShort kind bytes
by_length kind bytes most short small wide = record {
  few = few (length (escaped bytes)) (length bytes) (escaped_most bytes) short;
  narrow = narrow (length (escaped bytes)) (length bytes) (escaped_most bytes) short;
}
  where
    few : (n m : ℕ) → n ≤ 2 * m → m ≤ most → n ≤ 8000
    few n m first second = omega (arith, first, second, small)

    narrow : (n m : ℕ) → n ≤ 2 * m → m ≤ most → 3 * n ≤ 4 * width_of kind + 58
    narrow n m first second = omega (arith, first, second, wide)

text_short : (n : ℕ) (text : List ℕ) → n ≤ 2000 → length text ≤ n → IsShort (Kinds.Varchar n) (encode_utf8_all text)
text_short n text most short = record {
  few = few (length (escaped (encode_utf8_all text))) (length text) (characters_most text) short;
  narrow = narrow (length (escaped (encode_utf8_all text))) (length text) (characters_most text) short;
}
  where
    few : (a b : ℕ) → a ≤ 4 * b → b ≤ n → a ≤ 8000
    few a b first second = omega (arith, first, second, most)

    narrow : (a b : ℕ) → a ≤ 4 * b → b ≤ n → 3 * a ≤ 4 * (4 * n) + 58
    narrow a b first second = omega (arith, first, second)

bytes_short : (n : ℕ) (bytes : List ℕ) → n ≤ 4000 → length bytes ≤ n → IsShort (Kinds.Varbinary n) (coded_text Base64 bytes)
bytes_short n bytes most short = subst (IsShort (Kinds.Varbinary n)) (sym (base64_text bytes)) (record {
  few = few (length (escaped (encode_of standard bytes))) (length (encode_of standard bytes)) (length bytes) same (base64_short bytes) short;
  narrow = narrow (length (escaped (encode_of standard bytes))) (length (encode_of standard bytes)) (length bytes) same (base64_short bytes) short;
})
  where
    same : length (escaped (encode_of standard bytes)) ≡ length (encode_of standard bytes)
    same = ap length (escaped_same (encode_of standard bytes) (base64_plain bytes))

    few : (a b c : ℕ) → a ≡ b → 3 * b ≤ 4 * c + 8 → c ≤ n → a ≤ 8000
    few a b c first second third = omega (arith, first, second, third, most)

    narrow : (a b c : ℕ) → a ≡ b → 3 * b ≤ 4 * c + 8 → c ≤ n → 3 * a ≤ 4 * n + 58
    narrow a b c first second third = omega (arith, first, second, third)

pub printed_short : (kind : Kind) (v : Value) → HasSize kind → fits kind v ≡ true → IsShort kind (printed kind Base64 v)
printed_short Kinds.Integer (value.Integer z) size fit = by_length Kinds.Integer (signed_decimal z) 20 (integer_short z fit) (omega arith) (omega arith)
printed_short (Kinds.Decimal s) (value.Decimal z) size fit = by_length (Kinds.Decimal s) (decimal_text s z) 22 (decimal_short s z size fit) (omega arith) (omega arith)
printed_short (Kinds.Varchar n) (value.Text text) size fit =
    text_short n text size.1 (from_le (length text) n (and_right (not (has_zero text)) (leb (length text) n) (and_right (all_scalars text) _ fit)))
printed_short Kinds.Timestamp (value.Stamp day nano) size fit = by_length Kinds.Timestamp (stamp_text day nano) 29 (stamp_short day nano fit) (omega arith) (omega arith)
printed_short (Kinds.Varbinary n) (value.Bin bytes) size fit = bytes_short n bytes size.1 (from_le (length bytes) n (and_right (are_bytes bytes) (leb (length bytes) n) fit))
printed_short Kinds.Integer value.Null size fit = absurd (cc)
printed_short Kinds.Integer (value.Decimal z) size fit = absurd (cc)
printed_short Kinds.Integer (value.Text text) size fit = absurd (cc)
printed_short Kinds.Integer (value.Stamp day nano) size fit = absurd (cc)
printed_short Kinds.Integer (value.Bin bytes) size fit = absurd (cc)
printed_short (Kinds.Decimal s) value.Null size fit = absurd (cc)
printed_short (Kinds.Decimal s) (value.Integer z) size fit = absurd (cc)
printed_short (Kinds.Decimal s) (value.Text text) size fit = absurd (cc)
printed_short (Kinds.Decimal s) (value.Stamp day nano) size fit = absurd (cc)
printed_short (Kinds.Decimal s) (value.Bin bytes) size fit = absurd (cc)
printed_short (Kinds.Varchar n) value.Null size fit = absurd (cc)
printed_short (Kinds.Varchar n) (value.Integer z) size fit = absurd (cc)
printed_short (Kinds.Varchar n) (value.Decimal z) size fit = absurd (cc)
printed_short (Kinds.Varchar n) (value.Stamp day nano) size fit = absurd (cc)
printed_short (Kinds.Varchar n) (value.Bin bytes) size fit = absurd (cc)
printed_short Kinds.Timestamp value.Null size fit = absurd (cc)
printed_short Kinds.Timestamp (value.Integer z) size fit = absurd (cc)
printed_short Kinds.Timestamp (value.Decimal z) size fit = absurd (cc)
printed_short Kinds.Timestamp (value.Text text) size fit = absurd (cc)
printed_short Kinds.Timestamp (value.Bin bytes) size fit = absurd (cc)
printed_short (Kinds.Varbinary n) value.Null size fit = absurd (cc)
printed_short (Kinds.Varbinary n) (value.Integer z) size fit = absurd (cc)
printed_short (Kinds.Varbinary n) (value.Decimal z) size fit = absurd (cc)
printed_short (Kinds.Varbinary n) (value.Text text) size fit = absurd (cc)
printed_short (Kinds.Varbinary n) (value.Stamp day nano) size fit = absurd (cc)

-- FIELDS. Made of characters, and short: 2,000 characters of 4 bytes, two quotes and a comma
pub record IsFit (field : Field) : Type 0 where
  pub text : is_field field ≡ true
  pub short : cost field ≤ 8003

pub record Suits (kind : Kind) (field : Field) : Type 0 where
  pub fit : IsFit field
  pub narrow : 3 * cost field ≤ 4 * width_of kind + 67

pub null_fits : IsFit Null
null_fits = record { text = refl; short = omega arith }

pub text_fits : (text : List ℕ) → all_scalars text ≡ true → weight text ≤ 8000 → IsFit (Text text)
text_fits text are less = record { text = are; short = on (cost (Text text)) (weight text) (cost_is text) less }
  where
    on : (n w : ℕ) → n ≡ w + 3 → w ≤ 8000 → n ≤ 8003
    on n w same short = omega (arith, same, short)

printed_suits : (kind : Kind) (bytes : List ℕ) → IsUtf8 bytes → IsShort kind bytes → Suits kind (Text (chars bytes))
printed_suits kind bytes utf8 short = record {
  fit = text_fits (chars bytes) (scalars-chars bytes utf8) (subst (λ (n : ℕ). n ≤ 8000) (sym same) short.few);
  narrow = on (cost (Text (chars bytes))) (weight (chars bytes)) (length (escaped bytes)) (cost_is (chars bytes)) same short.narrow;
}
  where
    same : weight (chars bytes) ≡ length (escaped bytes)
    same = ap (λ bs. length (escaped bs)) (encodes-chars bytes utf8)

    on : (n w m : ℕ) → n ≡ w + 3 → w ≡ m → 3 * m ≤ 4 * width_of kind + 58 → 3 * n ≤ 4 * width_of kind + 67
    on n w m first second third = omega (arith, first, second, third)

-- the field of a value that a column may hold
pub held_suits : (column : ColumnDef) (v : Value) → HasSize column.kind → may_hold column v ≡ true → Suits column.kind (field_of column.kind v)
held_suits column v size held = by (is_null v) refl held
  where
    as_told : (null : Bool) → Type 0
    as_told null = Suits column.kind (option_map_or (λ (text : List ℕ). Text text) (elim null [ true ↦ None | false ↦ Some (chars (printed column.kind Base64 v)) ]) Null)

    by : (null : Bool) → is_null v ≡ null → elim null [ true ↦ not column.not_null | false ↦ fits column.kind v ] ≡ true → Suits column.kind (field_of column.kind v)
    by true is holds = subst as_told (sym is) (record { fit = null_fits; narrow = omega arith })
    by false is fit = subst as_told (sym is) (printed_suits column.kind (printed column.kind Base64 v) (printed_utf8 column.kind v fit) (printed_short column.kind v size fit))

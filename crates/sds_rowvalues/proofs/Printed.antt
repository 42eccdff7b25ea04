-- The printed text of a value that fits its kind is UTF-8.
use Rattle.std.proofs.Common.{◌≡◌, ℕ, suc, ◌<◌, Bool, true, false, ◌&&◌, ◌||◌, ◌==◌, List, [], ◌∷◌, take, drop, length, refl, subst, arith, leb, ltb, Ok, Err, Result}
use Rattle.std.proofs.lemmas.Bool.Decides.{nat_tests}
use Rattle.std.proofs.lemmas.Fmt.{IsAscii-signed}
use Rattle.std.proofs.lemmas.List.{take-append-drop}
use Rattle.std.proofs.lemmas.Str.{IsAscii-append, IsUtf8-from_ascii}
use Rattle.std.specs.Prelude.{if◌then◌else◌}
use Rattle.std.specs.Char.{is_ascii_digit}
use Rattle.std.specs.Fmt.{signed_decimal}
use Rattle.std.specs.List.{list_all}
use Rattle.std.specs.Str.{IsAscii, IsUtf8, all_scalars}
use Rattle.base64.proofs.EngineFacts.{IsAscii-encode_of}
use Rattle.base64.specs.Engines.{standard}
use Rattle.sds_value.specs.declared.kind.Binary.TheVariants.{Base64}
use Rattle.sds_value.specs.declared.kind.Kind.{Kind}
use Rattle.sds_value.specs.declared.kind.Kind.TheVariants as Kinds
use Rattle.sds_value.specs.declared.kind.Value.{Value}
use Rattle.sds_value.specs.declared.kind.Value.TheVariants.{Null, Integer, Decimal, Text, Stamp, Bin}
use Rattle.sds_value.specs.declared.refusal.ValueRefusal.{ValueRefusal}
use Rattle.sds_value.specs.declared.refusal.ValueRefusal.TheVariants.{BadText}
use Rattle.sds_value.specs.Binaries.{coded_text}
use Rattle.sds_value.specs.Decimals.{decimal_text, is_decimal_text}
use Rattle.sds_value.specs.Digits.{is_digit_text}
use Rattle.sds_value.specs.Stamps.{begins_like, has_stamp_form, is_date, is_like, is_stamp_text, is_subsecond, is_time, stamp_text, year_in, month_in, day_in, hour_in, minute_in, second_in}
use Rattle.sds_value.specs.Values.{fits, printed, stamp_of}
use Rattle.sds_value.proofs.Bytes.{base64_text}
use Rattle.sds_value.proofs.Characters.{all_small, digit_small, left_true, right_true}
use Rattle.sds_value.proofs.Integers.{range_mag}
use Rattle.sds_value.proofs.Decimals.{cons_ascii, decimal_ascii}
use Rattle.sds_value.proofs.Moments.{either, spaced, with_t}
use Rattle.sds_value.proofs.Pointed.{decimal_back}
use Rattle.sds_value.proofs.Stamped.{stamp_back}

-- what reads has the form
by_form : (b : Bool) (r : Result Value ValueRefusal) (v : Value) → (if b then r else Err BadText) ≡ Ok v → b ≡ true
by_form true r v is = refl
by_form false r v is = absurd (cc)

-- TIMES
like_small_by : (p c : ℕ) (b : Bool) → (p == 48) ≡ b → p < 128 → (if b then is_ascii_digit c else c == p) ≡ true → c < 128
like_small_by p c true at small is = digit_small c is
like_small_by p c false at small is = same_small c p small is
  where
    same_small : (c p : ℕ) → p < 128 → (c == p) ≡ true → c < 128
    same_small c p small is = grind (arith, nat_tests)

begins_ascii : (ps cs : List ℕ) → IsAscii ps → begins_like ps cs ≡ true → IsAscii (take (length ps) cs)
begins_ascii [] cs small is = λ i. omega arith
begins_ascii (p ∷ ps) [] small is = absurd (cc)
begins_ascii (p ∷ ps) (c ∷ cs) small is =
    cons_ascii c (take (length ps) cs)
    (like_small_by p c (p == 48) refl (small 0) (left_true (is_like p c) (begins_like ps cs) is))
    (begins_ascii ps cs (λ i. small (suc i)) (right_true (is_like p c) (begins_like ps cs) is))

digits_ascii : (c : ℕ) (cs : List ℕ) → is_subsecond (c ∷ cs) ≡ true → IsAscii cs
digits_ascii c cs is =
    let behind = right_true (c == 46) (leb (length cs) 9 && is_digit_text cs) is in
    all_small is_ascii_digit digit_small cs
    (right_true (ltb 0 (length cs)) (list_all is_ascii_digit cs) (right_true (leb (length cs) 9) (is_digit_text cs) behind))

point_small : (c : ℕ) → (c == 46) ≡ true → c < 128
point_small c is = grind (arith, nat_tests)

subsecond_ascii : (rest : List ℕ) → is_subsecond rest ≡ true → IsAscii rest
subsecond_ascii [] is = λ i. omega arith
subsecond_ascii (c ∷ cs) is =
    cons_ascii c cs (point_small c (left_true (c == 46) (leb (length cs) 9 && is_digit_text cs) is)) (digits_ascii c cs is)

small_test : (c : ℕ) → ltb c 128 ≡ true → c < 128
small_test c is = grind (arith, nat_tests)

form_ascii : (text : List ℕ) → has_stamp_form text ≡ true → IsAscii text
form_ascii text is =
    let first = left_true (begins_like spaced text || begins_like with_t text) (is_subsecond (drop 19 text)) is in
    let front : IsAscii (take 19 text) = either (begins_like spaced text) (begins_like with_t text) first
    (λ here. begins_ascii spaced text (all_small (λ (c : ℕ). ltb c 128) small_test spaced refl) here)
    (λ here. begins_ascii with_t text (all_small (λ (c : ℕ). ltb c 128) small_test with_t refl) here) in
    let rest = subsecond_ascii (drop 19 text) (right_true (begins_like spaced text || begins_like with_t text) (is_subsecond (drop 19 text)) is) in
    subst IsAscii (take-append-drop 19 text) (IsAscii-append (take 19 text) (drop 19 text) front rest)

stamp_ascii : (text : List ℕ) (value : Value) → stamp_of text ≡ Ok value → IsAscii text
stamp_ascii text value is = form_ascii text
    (left_true (has_stamp_form text) (is_date (year_in text) (month_in text) (day_in text) && is_time (hour_in text) (minute_in text) (second_in text))
    (by_form (is_stamp_text text) _ value is))

pub printed_utf8 : (kind : Kind) (value : Value) → fits kind value ≡ true → IsUtf8 (printed kind Base64 value)
printed_utf8 Kinds.Integer (Integer z) fit = IsUtf8-from_ascii (signed_decimal z) (IsAscii-signed z (range_mag z fit))
printed_utf8 (Kinds.Decimal s) (Decimal z) fit = IsUtf8-from_ascii (decimal_text s z)
    (decimal_ascii s (decimal_text s z) (by_form (is_decimal_text s (decimal_text s z)) _ (Decimal z) (decimal_back s z fit)))
printed_utf8 (Kinds.Varchar n) (Text text) fit = (text, (left_true (all_scalars text) _ fit, refl))
printed_utf8 Kinds.Timestamp (Stamp day nano) fit = IsUtf8-from_ascii (stamp_text day nano) (stamp_ascii (stamp_text day nano) (Stamp day nano) (stamp_back day nano fit))
printed_utf8 (Kinds.Varbinary n) (Bin bytes) fit = IsUtf8-from_ascii (coded_text Base64 bytes) (rw (base64_text bytes) (IsAscii-encode_of standard bytes))
printed_utf8 Kinds.Integer Null fit = absurd (cc)
printed_utf8 Kinds.Integer (Decimal z) fit = absurd (cc)
printed_utf8 Kinds.Integer (Text text) fit = absurd (cc)
printed_utf8 Kinds.Integer (Stamp day nano) fit = absurd (cc)
printed_utf8 Kinds.Integer (Bin bytes) fit = absurd (cc)
printed_utf8 (Kinds.Decimal s) Null fit = absurd (cc)
printed_utf8 (Kinds.Decimal s) (Integer z) fit = absurd (cc)
printed_utf8 (Kinds.Decimal s) (Text text) fit = absurd (cc)
printed_utf8 (Kinds.Decimal s) (Stamp day nano) fit = absurd (cc)
printed_utf8 (Kinds.Decimal s) (Bin bytes) fit = absurd (cc)
printed_utf8 (Kinds.Varchar n) Null fit = absurd (cc)
printed_utf8 (Kinds.Varchar n) (Integer z) fit = absurd (cc)
printed_utf8 (Kinds.Varchar n) (Decimal z) fit = absurd (cc)
printed_utf8 (Kinds.Varchar n) (Stamp day nano) fit = absurd (cc)
printed_utf8 (Kinds.Varchar n) (Bin bytes) fit = absurd (cc)
printed_utf8 Kinds.Timestamp Null fit = absurd (cc)
printed_utf8 Kinds.Timestamp (Integer z) fit = absurd (cc)
printed_utf8 Kinds.Timestamp (Decimal z) fit = absurd (cc)
printed_utf8 Kinds.Timestamp (Text text) fit = absurd (cc)
printed_utf8 Kinds.Timestamp (Bin bytes) fit = absurd (cc)
printed_utf8 (Kinds.Varbinary n) Null fit = absurd (cc)
printed_utf8 (Kinds.Varbinary n) (Integer z) fit = absurd (cc)
printed_utf8 (Kinds.Varbinary n) (Decimal z) fit = absurd (cc)
printed_utf8 (Kinds.Varbinary n) (Text text) fit = absurd (cc)
printed_utf8 (Kinds.Varbinary n) (Stamp day nano) fit = absurd (cc)

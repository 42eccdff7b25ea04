-- The printed text of a value reads as that value, and what is read lies within the kind.
use Rattle.std.proofs.Common.{◌≡◌, ℕ, suc, ◌<◌, ◌^◌, Bool, true, false, not, ◌&&◌, ◌||◌, ◌==◌, List, [], ◌∷◌, length, refl, arith, ltb, leb, Ok}
use Rattle.std.proofs.lemmas.Bool.Decides.{nat_tests}
use Rattle.std.proofs.lemmas.Fmt.{digits_decimal, digits_value-decimal, decimal_nonempty, IsAscii-signed}
use Rattle.std.proofs.lemmas.Str.{chars-IsAscii, chars-encodes}
use Rattle.std.specs.Prelude.{ℤ, pos, negsuc, neg_ℤ, if◌then◌else◌}
use Rattle.std.specs.List.{list_all}
use Rattle.std.specs.Char.{is_ascii_digit}
use Rattle.std.specs.Fmt.{decimal, signed_decimal}
use Rattle.std.specs.Str.{chars, all_scalars}
use Rattle.sds_value.specs.declared.kind.Binary.{Binary}
use Rattle.sds_value.specs.declared.kind.Kind.{Kind}
use Rattle.sds_value.specs.declared.kind.Kind.TheVariants as Kinds
use Rattle.sds_value.specs.declared.kind.Value.{Value}
use Rattle.sds_value.specs.declared.kind.Value.TheVariants.{Null, Integer, Decimal, Text, Stamp, Bin}
use Rattle.sds_value.specs.Values.{digits_value, without_sign, has_minus, is_integer_text, integer_value, is_in_range, integer_of, varchar_of, has_zero, fits, is_written, printed, value_of}
use Rattle.sds_value.proofs.Characters.{left_true, right_true}
use Rattle.sds_value.proofs.Integers.{own, range_mag}
use Rattle.sds_value.proofs.Decimals.{decimal_chars}
use Rattle.sds_value.proofs.Moments.{stamp_chars}
use Rattle.sds_value.proofs.Stamped.{stamp_back}
use Rattle.sds_value.specs.Stamps.{stamp_text}
use Rattle.sds_value.proofs.Bytes.{binary_back}
use Rattle.sds_value.specs.Binaries.{are_bytes}
use Rattle.sds_value.specs.declared.kind.Binary.TheVariants.{Base64, Hex, Plain}
use Rattle.sds_value.proofs.Pointed.{decimal_back}
use Rattle.sds_value.specs.Decimals.{decimal_text}

digit_unsigned : (c : ℕ) → is_ascii_digit c ≡ true → (c == 43 || c == 45) ≡ false
digit_unsigned c is = grind (arith, nat_tests)

digit_positive : (c : ℕ) → is_ascii_digit c ≡ true → (c == 45) ≡ false
digit_positive c is = grind (arith, nat_tests)

digits_unsigned : (ds : List ℕ) → list_all is_ascii_digit ds ≡ true → without_sign ds ≡ ds
digits_unsigned [] are = refl
digits_unsigned (c ∷ cs) are = rw (digit_unsigned c (left_true _ _ are)) refl

digits_positive : (ds : List ℕ) → list_all is_ascii_digit ds ≡ true → has_minus ds ≡ false
digits_positive [] are = refl
digits_positive (c ∷ cs) are = digit_positive c (left_true _ _ are)

some_test : (n : ℕ) → 0 < n → ltb 0 n ≡ true
some_test n some = grind (arith, nat_tests)

-- the form and the number of a text with its sign and its digits
integer_by : (text ds : List ℕ) (n : ℕ) (minus : Bool) → without_sign text ≡ ds → has_minus text ≡ minus → list_all is_ascii_digit ds ≡ true → 0 < length ds → digits_value ds ≡ n
    → (z : ℤ) → (if minus then neg_ℤ (pos n) else pos n) ≡ z → is_in_range z ≡ true → integer_of text ≡ Ok (Integer z)
integer_by text ds n minus unsigned sign digits some value z is inside =
    let number : integer_value text ≡ z = rw (sign, unsigned, value) is in
    let form : is_integer_text text ≡ true = rw (unsigned, digits, some_test (length ds) some) refl in
    rw (form, number, inside) refl

integer_back : (z : ℤ) → is_in_range z ≡ true → integer_of (signed_decimal z) ≡ Ok (Integer z)
integer_back (pos n) inside =
    let small : n < 2 ^ 64 = omega (arith, range_mag (pos n) inside) in
    let digits : list_all is_ascii_digit (decimal n) ≡ true = digits_decimal own n small in
    integer_by (decimal n) (decimal n) n false (digits_unsigned (decimal n) digits) (digits_positive (decimal n) digits) digits (decimal_nonempty n small) (digits_value-decimal own n small) (pos n) refl inside
integer_back (negsuc n) inside =
    let small : suc n < 2 ^ 64 = omega (arith, range_mag (negsuc n) inside) in
    integer_by (45 ∷ decimal (suc n)) (decimal (suc n)) (suc n) true refl refl (digits_decimal own (suc n) small) (decimal_nonempty (suc n) small) (digits_value-decimal own (suc n) small) (negsuc n) refl inside

not_true : (b : Bool) → not b ≡ true → b ≡ false
not_true true is = absurd (cc)
not_true false is = refl

varchar_back : (n : ℕ) (text : List ℕ) → (not (has_zero text) && leb (length text) n) ≡ true → varchar_of n text ≡ Ok (Text text)
varchar_back n text fit =
    let whole : has_zero text ≡ false = not_true (has_zero text) (left_true (not (has_zero text)) (leb (length text) n) fit) in
    let short : leb (length text) n ≡ true = right_true (not (has_zero text)) (leb (length text) n) fit in
    rw (whole, short) refl

plain_not : (n : ℕ) (form : Binary) → is_written (Kinds.Varbinary n) form ≡ true → form ≡ Plain → ⊥
plain_not n Base64 written is = cc
plain_not n Hex written is = cc
plain_not n Plain written is = cc

pub reads_back : (kind : Kind) (form : Binary) (value : Value) → is_written kind form ≡ true → fits kind value ≡ true → value_of kind form (chars (printed kind form value)) ≡ Ok value
reads_back Kinds.Integer form (Integer z) written fit = rw (chars-IsAscii (signed_decimal z) (IsAscii-signed z (range_mag z fit))) (integer_back z fit)
reads_back Kinds.Integer form Null written fit = absurd (cc)
reads_back Kinds.Integer form (Decimal z) written fit = absurd (cc)
reads_back Kinds.Integer form (Text text) written fit = absurd (cc)
reads_back Kinds.Integer form (Stamp day nano) written fit = absurd (cc)
reads_back Kinds.Integer form (Bin bytes) written fit = absurd (cc)
reads_back (Kinds.Varchar n) form (Text text) written fit = rw (chars-encodes text (left_true (all_scalars text) (not (has_zero text) && leb (length text) n) fit)) (varchar_back n text (right_true (all_scalars text) (not (has_zero text) && leb (length text) n) fit))
reads_back (Kinds.Varchar n) form Null written fit = absurd (cc)
reads_back (Kinds.Varchar n) form (Integer z) written fit = absurd (cc)
reads_back (Kinds.Varchar n) form (Decimal z) written fit = absurd (cc)
reads_back (Kinds.Varchar n) form (Stamp day nano) written fit = absurd (cc)
reads_back (Kinds.Varchar n) form (Bin bytes) written fit = absurd (cc)
reads_back (Kinds.Decimal s) form (Decimal z) written fit = decimal_chars s (decimal_text s z) (Decimal z) (decimal_back s z fit)
reads_back (Kinds.Decimal s) form Null written fit = absurd (cc)
reads_back (Kinds.Decimal s) form (Integer z) written fit = absurd (cc)
reads_back (Kinds.Decimal s) form (Text text) written fit = absurd (cc)
reads_back (Kinds.Decimal s) form (Stamp day nano) written fit = absurd (cc)
reads_back (Kinds.Decimal s) form (Bin bytes) written fit = absurd (cc)
reads_back Kinds.Timestamp form (Stamp day nano) written fit = stamp_chars (stamp_text day nano) (Stamp day nano) (stamp_back day nano fit)
reads_back Kinds.Timestamp form Null written fit = absurd (cc)
reads_back Kinds.Timestamp form (Integer z) written fit = absurd (cc)
reads_back Kinds.Timestamp form (Decimal z) written fit = absurd (cc)
reads_back Kinds.Timestamp form (Text text) written fit = absurd (cc)
reads_back Kinds.Timestamp form (Bin bytes) written fit = absurd (cc)
reads_back (Kinds.Varbinary n) form (Bin bytes) written fit = binary_back n form bytes (left_true (are_bytes bytes) (leb (length bytes) n) fit) (right_true (are_bytes bytes) (leb (length bytes) n) fit) (plain_not n form written)
reads_back (Kinds.Varbinary n) form Null written fit = absurd (cc)
reads_back (Kinds.Varbinary n) form (Integer z) written fit = absurd (cc)
reads_back (Kinds.Varbinary n) form (Decimal z) written fit = absurd (cc)
reads_back (Kinds.Varbinary n) form (Text text) written fit = absurd (cc)
reads_back (Kinds.Varbinary n) form (Stamp day nano) written fit = absurd (cc)

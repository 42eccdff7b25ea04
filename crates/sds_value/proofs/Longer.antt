-- What is too long reads under a greater length, and base64 reads only what it prints.
use Rattle.std.proofs.Common.{◌≡◌, ℕ, ◌<◌, Bool, true, false, List, length, refl, sym, ap, ◌∙◌, arith, leb, Ok, Err, Result, Option, Some, None}
use Rattle.std.specs.Prelude.{if◌then◌else◌}
use Rattle.std.proofs.lemmas.Bool.Decides.{nat_tests}
use Rattle.std.specs.Result.{result_ok}
use Rattle.std.specs.Str.{encode_utf8_all}
use Rattle.base64.specs.GeneralPurpose.{decode_of, decoded_of}
use Rattle.base64.specs.Engines.{standard}
use Rattle.base64.specs.declared.decode.DecodeError.{DecodeError}
use Rattle.base64.proofs.EngineFacts.{decode_of_strict}
use Rattle.sds_value.specs.declared.kind.Binary.{Binary}
use Rattle.sds_value.specs.declared.kind.Binary.TheVariants.{Base64}
use Rattle.sds_value.specs.declared.kind.Kind.TheVariants.{Varchar, Varbinary}
use Rattle.sds_value.specs.declared.kind.Value.{Value}
use Rattle.sds_value.specs.declared.kind.Value.TheVariants.{Text, Bin}
use Rattle.sds_value.specs.declared.refusal.ValueRefusal.TheVariants.{BadText, TooLong}
use Rattle.sds_value.specs.Binaries.{are_bytes, in_bytes, coded_bytes}
use Rattle.sds_value.specs.Values.{has_zero, varchar_of, binary_of, value_of, printed}
use Rattle.sds_value.proofs.Bytes.{base64_text, bytes_small}

long_from : (a n : ℕ) → leb a n ≡ false → n < a
long_from a n is = grind (arith, nat_tests)

itself : (n : ℕ) → leb n n ≡ true
itself n = grind (arith, nat_tests)

text_longer_by : (most : ℕ) (text : List ℕ) (zero short : Bool) → has_zero text ≡ zero → leb (length text) most ≡ short
    → (if zero then Err BadText else (if short then Ok (Text text) else Err TooLong)) ≡ Err TooLong
    → (more : ℕ) × (value : Value) × (most < more) × (varchar_of more text ≡ Ok value)
text_longer_by most text true short is_zero is_short reads = absurd (cc)
text_longer_by most text false true is_zero is_short reads = absurd (cc)
text_longer_by most text false false is_zero is_short reads = (length text, Text text, long_from (length text) most is_short, rw (is_zero, itself (length text)) refl)

pub text_longer : (most : ℕ) (form : Binary) (text : List ℕ) → value_of (Varchar most) form text ≡ Err TooLong → (more : ℕ) × (value : Value) × (most < more) × (value_of (Varchar more) form text ≡ Ok value)
text_longer most form text reads = text_longer_by most text (has_zero text) (leb (length text) most) refl refl reads

found_longer_by : (most : ℕ) (bytes : List ℕ) (short : Bool) → leb (length bytes) most ≡ short → (if short then Ok (Bin bytes) else Err TooLong) ≡ Err TooLong
    → (more : ℕ) × (value : Value) × (most < more) × (binary_of more (Some bytes) ≡ Ok value)
found_longer_by most bytes true is reads = absurd (cc)
found_longer_by most bytes false is reads = (length bytes, Bin bytes, long_from (length bytes) most is, rw (itself (length bytes)) refl)

found_longer : (most : ℕ) (found : Option (List ℕ)) → binary_of most found ≡ Err TooLong → (more : ℕ) × (value : Value) × (most < more) × (binary_of more found ≡ Ok value)
found_longer most None reads = absurd (cc)
found_longer most (Some bytes) reads = found_longer_by most bytes (leb (length bytes) most) refl reads

pub bytes_longer : (most : ℕ) (form : Binary) (text : List ℕ) → value_of (Varbinary most) form text ≡ Err TooLong → (more : ℕ) × (value : Value) × (most < more) × (value_of (Varbinary more) form text ≡ Ok value)
bytes_longer most form text reads = found_longer most (coded_bytes form (encode_utf8_all text)) reads

found_value : (most : ℕ) (found : Option (List ℕ)) (value : Value) → binary_of most found ≡ Ok value → (bytes : List ℕ) × (found ≡ Some bytes) × (value ≡ Bin bytes)
found_value most None value reads = absurd (cc)
found_value most (Some bytes) value reads = by (leb (length bytes) most) reads
  where
    by : (short : Bool) → (if short then Ok (Bin bytes) else Err TooLong) ≡ Ok value → (ds : List ℕ) × (Some bytes ≡ Some ds) × (value ≡ Bin ds)
    by true is = (bytes, refl, cc)
    by false is = absurd (cc)

in_bytes_from : (found : Option (List ℕ)) (bytes : List ℕ) → in_bytes found ≡ Some bytes → found ≡ Some bytes
in_bytes_from None bytes is = absurd (cc)
in_bytes_from (Some ds) bytes is = by (are_bytes ds) is
  where
    by : (b : Bool) → (if b then Some ds else None) ≡ Some bytes → Some ds ≡ Some bytes
    by true same = same
    by false same = absurd (cc)

ok_from : (r : Result (List ℕ) DecodeError) (bytes : List ℕ) → result_ok r ≡ Some bytes → r ≡ Ok bytes
ok_from (Ok ds) bytes is = let same : ds ≡ bytes = cc in ap Ok same
ok_from (Err e) bytes is = absurd (cc)

decoded_from : (text bytes : List ℕ) → coded_bytes Base64 text ≡ Some bytes → decode_of standard text ≡ Ok bytes
unfolding coded_bytes decoded_of
decoded_from text bytes is = ok_from (decode_of standard text) bytes (in_bytes_from (result_ok (decode_of standard text)) bytes is)

pub base64_only : (most : ℕ) (text : List ℕ) (value : Value) → are_bytes (encode_utf8_all text) ≡ true → value_of (Varbinary most) Base64 text ≡ Ok value → encode_utf8_all text ≡ printed (Varbinary most) Base64 value
base64_only most text value small reads =
    let found = found_value most (coded_bytes Base64 (encode_utf8_all text)) value reads in
    let same = decode_of_strict standard (encode_utf8_all text) found.0 (refl, refl) (bytes_small (encode_utf8_all text) small) (decoded_from (encode_utf8_all text) found.0 found.1) in
    rw found.2 (same ∙ sym (base64_text found.0))

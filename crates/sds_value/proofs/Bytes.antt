-- Bytes as base64 and as hexadecimal text.
use Rattle.std.proofs.Common.{◌≡◌, ℕ, zero, suc, ◌<◌, ◌≤◌, Bool, true, false, List, [], ◌∷◌, length, refl, sym, ap, subst, ◌⊎◌, inl, inr, ◌∙◌, arith, leb, ltb, Ok, Err, Result, Option, Some, None}
use Rattle.std.proofs.lemmas.Bool.Decides.{nat_tests}
use Rattle.std.proofs.lemmas.Str.{encodes-chars, IsUtf8-from_ascii}
use Rattle.std.specs.Prelude.{slice_index}
use Rattle.base64.proofs.EngineFacts.{decode_of-encode_of, IsAscii-encode_of}
use Rattle.hex.proofs.HexLemmas.{decode_of-ok, decode_of-encode_lower, IsAscii-encode_with}
use Rattle.sds_value.specs.declared.kind.Kind.TheVariants.{Varbinary}
use Rattle.sds_value.proofs.Characters.{left_true, right_true, all_small}
use Rattle.std.specs.Prelude.{if◌then◌else◌}
use Rattle.std.specs.Result.{result_ok}
use Rattle.std.specs.Str.{IsUtf8, IsAscii, chars, encode_utf8_all}
use Rattle.base64.specs.GeneralPurpose.{decode_of, encode_of, decoded_of}
use Rattle.base64.specs.Engines.{standard}
use Rattle.base64.specs.declared.decode.DecodeError.{DecodeError}
use Rattle.base64.specs.GeneralPurpose.{IsDecodeFailure}
use Rattle.base64.specs.declared.decode.DecodeAllocError.{DecodeAllocError}
use Rattle.base64.specs.declared.decode.DecodeAllocError.TheVariants.{DecodeError as Failed, OutOfMemory}
use Rattle.hex.specs.Hex as hex
use Rattle.hex.specs.declared.error.FromHexError.TheVariants.{OutOfMemory as Full}
use Rattle.std.specs.Prelude.{MatchOption}
use Rattle.hex.specs.declared.error.FromHexError.{FromHexError}
use Rattle.sds_value.specs.declared.kind.Binary.{Binary}
use Rattle.sds_value.specs.declared.kind.Binary.TheVariants.{Base64, Hex, Plain}
use Rattle.sds_value.specs.declared.kind.Value.{Value}
use Rattle.sds_value.specs.declared.kind.Value.TheVariants.{Bin}
use Rattle.sds_value.specs.declared.refusal.ValueRefusal.TheVariants.{TooLong}
use Rattle.sds_value.specs.Binaries.{are_bytes, in_bytes, coded_bytes, coded_text}
use Rattle.sds_value.specs.Values.{binary_of, varbinary_of, fits}

byte_test : (b : ℕ) → b < 256 → ltb b 256 ≡ true
byte_test b small = grind (arith, nat_tests)

pub bytes_pass : (bytes : List ℕ) → ((i : ℕ) → slice_index bytes i < 256) → are_bytes bytes ≡ true
bytes_pass [] small = refl
bytes_pass (b ∷ bytes) small = rw (byte_test b (small 0)) (bytes_pass bytes (λ i. small (suc i)))

byte_small : (b : ℕ) → ltb b 256 ≡ true → b < 256
byte_small b is = grind (arith, nat_tests)

pub bytes_small : (bytes : List ℕ) → are_bytes bytes ≡ true → (i : ℕ) → slice_index bytes i < 256
bytes_small [] pass i = omega arith
bytes_small (b ∷ bytes) pass zero = byte_small b (left_true (ltb b 256) (are_bytes bytes) pass)
bytes_small (b ∷ bytes) pass (suc i) = bytes_small bytes (right_true (ltb b 256) (are_bytes bytes) pass) i

in_bytes_some : (bytes : List ℕ) → ((i : ℕ) → slice_index bytes i < 256) → in_bytes (Some bytes) ≡ Some bytes
in_bytes_some bytes small = rw (bytes_pass bytes small) refl

pub base64_ok : (text bytes : List ℕ) → decode_of standard text ≡ Ok bytes → ((i : ℕ) → slice_index bytes i < 256) → coded_bytes Base64 text ≡ Some bytes
unfolding coded_bytes decoded_of
base64_ok text bytes is small = ap (λ (r : Result (List ℕ) DecodeError). in_bytes (result_ok r)) is ∙ in_bytes_some bytes small

base64_err : (text : List ℕ) (e : DecodeError) → decode_of standard text ≡ Err e → coded_bytes Base64 text ≡ None
unfolding coded_bytes decoded_of
base64_err text e is = ap (λ (r : Result (List ℕ) DecodeError). in_bytes (result_ok r)) is

pub base64_failed : (text : List ℕ) (f : DecodeAllocError) (e : DecodeError) → IsDecodeFailure standard text f → f ≡ Failed e → coded_bytes Base64 text ≡ None
base64_failed text (Failed d) e failure is = base64_err text d failure
base64_failed text OutOfMemory e failure is = absurd (cc)

pub hex_ok : (text bytes : List ℕ) → hex.decode_of text ≡ Ok bytes → coded_bytes Hex text ≡ Some bytes
unfolding coded_bytes
hex_ok text bytes is = ap (λ (r : Result (List ℕ) FromHexError). in_bytes (result_ok r)) is ∙ in_bytes_some bytes (decode_of-ok text bytes is).3

hex_err : (text : List ℕ) (e : FromHexError) → hex.decode_of text ≡ Err e → coded_bytes Hex text ≡ None
unfolding coded_bytes
hex_err text e is = ap (λ (r : Result (List ℕ) FromHexError). in_bytes (result_ok r)) is

pub hex_failed : (text : List ℕ) (e : FromHexError) → (e ≡ Full) ⊎ (hex.decode_of text ≡ Err e) → (e ≡ Full → ⊥) → coded_bytes Hex text ≡ None
hex_failed text e (inl full) other = absurd (other full)
hex_failed text e (inr failure) other = hex_err text e failure

pub plain_none : (text : List ℕ) → coded_bytes Plain text ≡ None
unfolding coded_bytes
plain_none text = refl

pub base64_text : (bytes : List ℕ) → coded_text Base64 bytes ≡ encode_of standard bytes
unfolding coded_text
base64_text bytes = refl

pub hex_text : (bytes : List ℕ) → coded_text Hex bytes ≡ hex.encode_lower bytes
unfolding coded_text
hex_text bytes = refl

pub plain_text : (bytes : List ℕ) → coded_text Plain bytes ≡ []
unfolding coded_text
plain_text bytes = refl

pub some_is : {A : Type 0} (P : Type 0) (Q : A → Type 0) (found : Option A) (x : A) → MatchOption found P Q → found ≡ Some x → Q x
some_is P Q None x given is = absurd (cc)
some_is {A} P Q (Some y) x given is = let same : y ≡ x = cc in subst Q same given

pub none_is : {A : Type 0} (P : Type 0) (Q : A → Type 0) (found : Option A) → MatchOption found P Q → found ≡ None → P
none_is P Q None given is = given
none_is P Q (Some y) given is = absurd (cc)

-- what a text in UTF-8 reads as
pub of_text : (n : ℕ) (form : Binary) (text : List ℕ) (found : Option (List ℕ)) → IsUtf8 text → coded_bytes form text ≡ found → binary_of n found ≡ varbinary_of n form (chars text)
of_text n form text found utf8 is = sym (ap (λ (bs : List ℕ). binary_of n (coded_bytes form bs)) (encodes-chars text utf8) ∙ ap (binary_of n) is)

pub short_binary : (n : ℕ) (bytes : List ℕ) → length bytes ≤ n → Ok (Bin bytes) ≡ binary_of n (Some bytes)
short_binary n bytes short = let test : leb (length bytes) n ≡ true = grind (arith, nat_tests) in rw test refl

pub long_binary : (n : ℕ) (bytes : List ℕ) → n < length bytes → Err TooLong ≡ binary_of n (Some bytes)
long_binary n bytes long = let test : leb (length bytes) n ≡ false = grind (arith, nat_tests) in rw test refl

-- the printed text of bytes stands for those bytes
pub base64_back : (bytes : List ℕ) → are_bytes bytes ≡ true → coded_bytes Base64 (encode_of standard bytes) ≡ Some bytes
base64_back bytes pass = base64_ok (encode_of standard bytes) bytes (decode_of-encode_of standard bytes refl (bytes_small bytes pass)) (bytes_small bytes pass)

pub hex_back : (bytes : List ℕ) → are_bytes bytes ≡ true → coded_bytes Hex (hex.encode_lower bytes) ≡ Some bytes
hex_back bytes pass = hex_ok (hex.encode_lower bytes) bytes (decode_of-encode_lower bytes (bytes_small bytes pass))

back_in : (n : ℕ) (form : Binary) (text bytes : List ℕ) → IsAscii text → coded_bytes form text ≡ Some bytes → length bytes ≤ n → varbinary_of n form (chars text) ≡ Ok (Bin bytes)
back_in n form text bytes ascii is short = sym (of_text n form text (Some bytes) (IsUtf8-from_ascii text ascii) is) ∙ sym (short_binary n bytes short)

short_by : (n : ℕ) (bytes : List ℕ) → leb (length bytes) n ≡ true → length bytes ≤ n
short_by n bytes is = grind (arith, nat_tests)

pub binary_back : (n : ℕ) (form : Binary) (bytes : List ℕ) → are_bytes bytes ≡ true → leb (length bytes) n ≡ true → (form ≡ Plain → ⊥) → varbinary_of n form (chars (coded_text form bytes)) ≡ Ok (Bin bytes)
binary_back n Base64 bytes pass short written =
    rw (base64_text bytes) (back_in n Base64 (encode_of standard bytes) bytes (IsAscii-encode_of standard bytes) (base64_back bytes pass) (short_by n bytes short))
binary_back n Hex bytes pass short written =
    rw (hex_text bytes) (back_in n Hex (hex.encode_lower bytes) bytes (IsAscii-encode_with hex.lower_digits bytes lower_ascii) (hex_back bytes pass) (short_by n bytes short))
  where
    lower_ascii : IsAscii hex.lower_digits
    lower_ascii = all_small (λ (c : ℕ). ltb c 128) (λ c is. small c is) hex.lower_digits refl
      where
        small : (c : ℕ) → ltb c 128 ≡ true → c < 128
        small c is = grind (arith, nat_tests)
binary_back n Plain bytes pass short written = absurd (written refl)

-- what a text stands for is bytes
in_bytes_pass : (found : Option (List ℕ)) (bytes : List ℕ) → in_bytes found ≡ Some bytes → are_bytes bytes ≡ true
in_bytes_pass None bytes is = absurd (cc)
in_bytes_pass (Some ds) bytes is = by (are_bytes ds) refl is
  where
    by : (b : Bool) → are_bytes ds ≡ b → (if b then Some ds else None) ≡ Some bytes → are_bytes bytes ≡ true
    by true pass reads = let same : ds ≡ bytes = cc in rw (← same) pass
    by false pass reads = absurd (cc)

coded_pass : (form : Binary) (text bytes : List ℕ) → coded_bytes form text ≡ Some bytes → are_bytes bytes ≡ true
unfolding coded_bytes
coded_pass Base64 text bytes is = in_bytes_pass (decoded_of standard text) bytes is
coded_pass Hex text bytes is = in_bytes_pass (result_ok (hex.decode_of text)) bytes is
coded_pass Plain text bytes is = absurd (cc)

found_fits : (n : ℕ) (found : Option (List ℕ)) (value : Value) → ((bytes : List ℕ) → found ≡ Some bytes → are_bytes bytes ≡ true) → binary_of n found ≡ Ok value → fits (Varbinary n) value ≡ true
found_fits n None value pass is = absurd (cc)
found_fits n (Some bytes) value pass is = by (leb (length bytes) n) refl is
  where
    by : (b : Bool) → leb (length bytes) n ≡ b → (if b then Ok (Bin bytes) else Err TooLong) ≡ Ok value → fits (Varbinary n) value ≡ true
    by true short reads = let same : Bin bytes ≡ value = cc in rw (← same) (rw (pass bytes refl, short) refl)
    by false short reads = absurd (cc)

pub binary_fits : (n : ℕ) (form : Binary) (text : List ℕ) (value : Value) → varbinary_of n form text ≡ Ok value → fits (Varbinary n) value ≡ true
binary_fits n form text value is = found_fits n (coded_bytes form (encode_utf8_all text)) value (coded_pass form (encode_utf8_all text)) is

-- The values that texts and fields tell.
use Rattle.std.proofs.Common.{◌≡◌, ◌≢◌, ℕ, List, Result, Ok, Err, Some, refl, sym, ap, ◌∙◌}
use Rattle.std.proofs.lemmas.Str.{scalars-chars}
use Rattle.std.specs.Prelude.{IsTrue}
use Rattle.std.specs.Str.{IsUtf8, all_scalars, chars}
use Rattle.sds_value.specs.declared.kind.Binary.{Binary}
use Rattle.sds_value.specs.declared.kind.Binary.TheVariants.{Base64}
use Rattle.sds_value.specs.declared.kind.Kind.{Kind}
use Rattle.sds_value.specs.declared.kind.Kind.TheVariants.{Integer, Decimal, Varchar, Timestamp, Varbinary}
use Rattle.sds_value.specs.declared.kind.Value.{Value}
use Rattle.sds_value.specs.declared.refusal.ValueRefusal.{ValueRefusal}
use Rattle.sds_value.specs.declared.refusal.ValueRefusal.TheVariants.{NoMemory}
use Rattle.sds_value.specs.Values.{fits, is_written, printed, value_of}

-- what a text is read as fits its kind
pub read_fits : (kind : Kind) (bytes : List ℕ) (value : Value)
    → ((kind : Kind) (form : Binary) (text : List ℕ) (value : Value) → IsTrue (all_scalars text) → value_of kind form text ≡ Ok value → IsTrue (fits kind value))
    → IsUtf8 bytes → (Ok value ≢ Err NoMemory → Ok value ≡ value_of kind Base64 (chars bytes)) → IsTrue (fits kind value)
read_fits kind bytes value law utf8 is =
    law kind Base64 (chars bytes) value (scalars-chars bytes utf8) (sym (is (λ (e : Ok value ≡ Err NoMemory). absurd (cc))))

written : (kind : Kind) → IsTrue (is_written kind Base64)
written Integer = refl
written (Decimal digits) = refl
written (Varchar most) = refl
written Timestamp = refl
written (Varbinary most) = refl

pub value_found : (kind : Kind) (bytes : List ℕ) (read value : Value)
    → ((kind : Kind) (form : Binary) (value : Value) → IsTrue (is_written kind form) → IsTrue (fits kind value) → value_of kind form (chars (printed kind form value)) ≡ Ok value)
    → IsTrue (fits kind value) → chars bytes ≡ chars (printed kind Base64 value) → (Ok read ≢ Err NoMemory → Ok read ≡ value_of kind Base64 (chars bytes)) → Some read ≡ Some value
value_found kind bytes read value law fit same is =
    ap Some (ok_is (is (λ (e : Ok read ≡ Err NoMemory). absurd (cc)) ∙ (ap (value_of kind Base64) same ∙ law kind Base64 value (written kind) fit)))
  where
    ok_is : {A E : Type 0} {a b : A} → ◌≡◌ {A = Result A E} (Ok a) (Ok b) → a ≡ b
    ok_is {A} {E} {a} {b} same = cc

pub none_found : (kind : Kind) (bytes : List ℕ) (refusal : ValueRefusal) (value : Value)
    → ((kind : Kind) (form : Binary) (value : Value) → IsTrue (is_written kind form) → IsTrue (fits kind value) → value_of kind form (chars (printed kind form value)) ≡ Ok value)
    → IsTrue (fits kind value) → chars bytes ≡ chars (printed kind Base64 value) → Err refusal ≡ value_of kind Base64 (chars bytes) → ⊥
none_found kind bytes refusal value law fit same is = err_ok (is ∙ (ap (value_of kind Base64) same ∙ law kind Base64 value (written kind) fit))
  where
    err_ok : {A E : Type 0} {e : E} {b : A} → ◌≡◌ {A = Result A E} (Err e) (Ok b) → ⊥
    err_ok {A} {E} {e} {b} same = cc

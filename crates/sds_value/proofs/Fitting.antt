-- What a text reads as lies within the limits of its kind.
use Rattle.std.proofs.Common.{◌≡◌, ℕ, Bool, true, false, List, length, refl, leb, Ok, Err}
use Rattle.std.specs.Prelude.{ℤ, if◌then◌else◌}
use Rattle.std.specs.Str.{all_scalars}
use Rattle.sds_value.specs.declared.refusal.ValueRefusal.TheVariants.{BadText, TooLong, OutOfRange}
use Rattle.sds_value.specs.declared.kind.Binary.{Binary}
use Rattle.sds_value.specs.declared.kind.Kind.{Kind}
use Rattle.sds_value.specs.declared.kind.Kind.TheVariants as Kinds
use Rattle.sds_value.specs.declared.kind.Value.{Value}
use Rattle.sds_value.specs.declared.kind.Value.TheVariants.{Integer, Decimal, Text}
use Rattle.sds_value.specs.Values.{is_in_range, is_integer_text, integer_value, has_zero, fits, value_of}
use Rattle.sds_value.proofs.Lasting.{stamp_fits}
use Rattle.sds_value.proofs.Bytes.{binary_fits}
use Rattle.sds_value.specs.Decimals.{is_decimal_text, decimal_value}

-- a number that is read lies in its range
number_fits : (kind : Kind) (make : ℤ → Value) (z : ℤ) (value : Value) → ((inside : Bool) → is_in_range z ≡ inside → fits kind (make z) ≡ inside) → (form inside : Bool) → is_in_range z ≡ inside
    → (if form then (if inside then Ok (make z) else Err OutOfRange) else Err BadText) ≡ Ok value → fits kind value ≡ true
number_fits kind make z value fit true true is reads = let same : make z ≡ value = cc in rw (← same) (fit true is)
number_fits kind make z value fit true false is reads = absurd (cc)
number_fits kind make z value fit false inside is reads = absurd (cc)

text_fits : (n : ℕ) (text : List ℕ) (value : Value) → all_scalars text ≡ true → (zero short : Bool) → has_zero text ≡ zero → leb (length text) n ≡ short
    → (if zero then Err BadText else (if short then Ok (Text text) else Err TooLong)) ≡ Ok value → fits (Kinds.Varchar n) value ≡ true
text_fits n text value scalars true short is_zero is_short reads = absurd (cc)
text_fits n text value scalars false true is_zero is_short reads =
    let same : Text text ≡ value = cc in
    rw (← same) (rw (scalars, is_zero, is_short) refl)
text_fits n text value scalars false false is_zero is_short reads = absurd (cc)

pub value_fits : (kind : Kind) (form : Binary) (text : List ℕ) (value : Value) → all_scalars text ≡ true → value_of kind form text ≡ Ok value → fits kind value ≡ true
value_fits Kinds.Integer form text value scalars reads = number_fits Kinds.Integer Integer (integer_value text) value (λ inside is. is) (is_integer_text text) (is_in_range (integer_value text)) refl reads
value_fits (Kinds.Decimal s) form text value scalars reads = number_fits (Kinds.Decimal s) Decimal (decimal_value s text) value (λ inside is. is) (is_decimal_text s text) (is_in_range (decimal_value s text)) refl reads
value_fits (Kinds.Varchar n) form text value scalars reads = text_fits n text value scalars (has_zero text) (leb (length text) n) refl refl reads
value_fits Kinds.Timestamp form text value scalars reads = stamp_fits text value reads
value_fits (Kinds.Varbinary n) form text value scalars reads = binary_fits n form text value reads

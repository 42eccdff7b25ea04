-- The order of values is total.
use Rattle.std.proofs.Common.{◌≡◌, ℕ, List, [], ◌∷◌, refl, ap, subst, Ordering}
use Rattle.std.proofs.lemmas.Cmp.{nat_cmp_total, int_cmp_total, nat_list_cmp_total, on_total, then_total, int_ranked, ranked}
use Rattle.std.proofs.lemmas.Str.{encodes_same}
use Rattle.std.specs.Prelude.{ℤ, pos}
use Rattle.std.specs.Cmp.{IsTotalOrder}
use Rattle.std.specs.Cmp.Lexicographic.{slice_cmp}
use Rattle.std.specs.declared.cmp.Ordering.TheVariants.{Less, Equal, Greater}
use Rattle.std.specs.Ordering.{nat_cmp, int_cmp, ordering_then, on, then_cmp}
use Rattle.std.specs.Str.{encode_utf8_all}
use Rattle.sds_value.specs.declared.kind.Value.{Value}
use Rattle.sds_value.specs.declared.kind.Value.TheVariants.{Null, Integer, Decimal, Text, Stamp, Bin}
use Rattle.sds_value.specs.Values.{form_place, value_order}

-- what a value has of a number, and what it has of a list
abbrev number_part : Value → ℤ
number_part (Integer z) = z
number_part (Decimal z) = z
number_part (Stamp day nano) = day
number_part value = pos 0

abbrev list_part : Value → List ℕ
list_part (Text text) = encode_utf8_all text
list_part (Stamp day nano) = nano ∷ []
list_part (Bin bytes) = bytes
list_part value = []

-- by the form, then by the number, then by the list
abbrev by_parts : Value → Value → Ordering
by_parts = then_cmp (on form_place nat_cmp) (then_cmp (on number_part int_cmp) (on list_part (slice_cmp nat_cmp)))

by_parts_total : IsTotalOrder by_parts
by_parts_total = then_total (on_total form_place nat_cmp_total) (then_total (on_total number_part int_cmp_total) (on_total list_part nat_list_cmp_total))

then_equal : (o : Ordering) → ordering_then o Equal ≡ o
then_equal Less = refl
then_equal Equal = refl
then_equal Greater = refl

same : (x y : Value) → by_parts x y ≡ value_order x y
same Null Null = refl
same Null (Integer b) = refl
same Null (Decimal b) = refl
same Null (Text b) = refl
same Null (Stamp b d) = refl
same Null (Bin b) = refl
same (Integer a) Null = refl
same (Integer a) (Integer b) = then_equal (int_cmp a b)
same (Integer a) (Decimal b) = refl
same (Integer a) (Text b) = refl
same (Integer a) (Stamp b d) = refl
same (Integer a) (Bin b) = refl
same (Decimal a) Null = refl
same (Decimal a) (Integer b) = refl
same (Decimal a) (Decimal b) = then_equal (int_cmp a b)
same (Decimal a) (Text b) = refl
same (Decimal a) (Stamp b d) = refl
same (Decimal a) (Bin b) = refl
same (Text a) Null = refl
same (Text a) (Integer b) = refl
same (Text a) (Decimal b) = refl
same (Text a) (Text b) = refl
same (Text a) (Stamp b d) = refl
same (Text a) (Bin b) = refl
same (Stamp a c) Null = refl
same (Stamp a c) (Integer b) = refl
same (Stamp a c) (Decimal b) = refl
same (Stamp a c) (Text b) = refl
same (Stamp a c) (Stamp b d) = ap (λ (o : Ordering). ordering_then (int_cmp a b) o) (then_equal (nat_cmp c d))
same (Stamp a c) (Bin b) = refl
same (Bin a) Null = refl
same (Bin a) (Integer b) = refl
same (Bin a) (Decimal b) = refl
same (Bin a) (Text b) = refl
same (Bin a) (Stamp b d) = refl
same (Bin a) (Bin b) = refl

pub value_order_total : IsTotalOrder value_order
value_order_total = subst IsTotalOrder (λ i x y. same x y i) by_parts_total

then_left : (o p : Ordering) → ordering_then o p ≡ Equal → o ≡ Equal
then_left Less p is = absurd (cc)
then_left Equal p is = refl
then_left Greater p is = absurd (cc)

then_right : (o p : Ordering) → ordering_then o p ≡ Equal → p ≡ Equal
then_right Less p is = absurd (cc)
then_right Equal p is = is
then_right Greater p is = absurd (cc)

int_by : (a b : ℤ) (o : Ordering) → o ≡ int_cmp a b → o ≡ Equal → a ≡ b
int_by a b Less answer is = absurd (cc)
int_by a b Equal answer is = int_ranked a b Equal answer
int_by a b Greater answer is = absurd (cc)

nat_by : (a b : ℕ) (o : Ordering) → o ≡ nat_cmp a b → o ≡ Equal → a ≡ b
nat_by a b Less answer is = absurd (cc)
nat_by a b Equal answer is = ranked a b Equal answer
nat_by a b Greater answer is = absurd (cc)

list_by : (xs ys : List ℕ) → slice_cmp nat_cmp xs ys ≡ Equal → xs ≡ ys
list_by [] [] is = refl
list_by [] (y ∷ ys) is = absurd (cc)
list_by (x ∷ xs) [] is = absurd (cc)
list_by (x ∷ xs) (y ∷ ys) is =
    let first : x ≡ y = nat_by x y (nat_cmp x y) refl (then_left (nat_cmp x y) (slice_cmp nat_cmp xs ys) is) in
    let others : xs ≡ ys = list_by xs ys (then_right (nat_cmp x y) (slice_cmp nat_cmp xs ys) is) in
    cc

-- values that compare as equal are one value
pub one_value : (x y : Value) → value_order x y ≡ Equal → x ≡ y
one_value Null Null is = refl
one_value Null (Integer b) is = absurd (cc)
one_value Null (Decimal b) is = absurd (cc)
one_value Null (Text b) is = absurd (cc)
one_value Null (Stamp b d) is = absurd (cc)
one_value Null (Bin b) is = absurd (cc)
one_value (Integer a) Null is = absurd (cc)
one_value (Integer a) (Integer b) is = ap Integer (int_by a b (int_cmp a b) refl is)
one_value (Integer a) (Decimal b) is = absurd (cc)
one_value (Integer a) (Text b) is = absurd (cc)
one_value (Integer a) (Stamp b d) is = absurd (cc)
one_value (Integer a) (Bin b) is = absurd (cc)
one_value (Decimal a) Null is = absurd (cc)
one_value (Decimal a) (Integer b) is = absurd (cc)
one_value (Decimal a) (Decimal b) is = ap Decimal (int_by a b (int_cmp a b) refl is)
one_value (Decimal a) (Text b) is = absurd (cc)
one_value (Decimal a) (Stamp b d) is = absurd (cc)
one_value (Decimal a) (Bin b) is = absurd (cc)
one_value (Text a) Null is = absurd (cc)
one_value (Text a) (Integer b) is = absurd (cc)
one_value (Text a) (Decimal b) is = absurd (cc)
one_value (Text a) (Text b) is = ap Text (encodes_same a b (list_by (encode_utf8_all a) (encode_utf8_all b) is))
one_value (Text a) (Stamp b d) is = absurd (cc)
one_value (Text a) (Bin b) is = absurd (cc)
one_value (Stamp a c) Null is = absurd (cc)
one_value (Stamp a c) (Integer b) is = absurd (cc)
one_value (Stamp a c) (Decimal b) is = absurd (cc)
one_value (Stamp a c) (Text b) is = absurd (cc)
one_value (Stamp a c) (Stamp b d) is =
    let day : a ≡ b = int_by a b (int_cmp a b) refl (then_left (int_cmp a b) (nat_cmp c d) is) in
    let nano : c ≡ d = nat_by c d (nat_cmp c d) refl (then_right (int_cmp a b) (nat_cmp c d) is) in
    cc
one_value (Stamp a c) (Bin b) is = absurd (cc)
one_value (Bin a) Null is = absurd (cc)
one_value (Bin a) (Integer b) is = absurd (cc)
one_value (Bin a) (Decimal b) is = absurd (cc)
one_value (Bin a) (Text b) is = absurd (cc)
one_value (Bin a) (Stamp b d) is = absurd (cc)
one_value (Bin a) (Bin b) is = ap Bin (list_by a b is)

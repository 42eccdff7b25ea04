-- A day and a time that a text reads as lie in the years 1 to 9999.
use Rattle.std.proofs.Common.{◌≡◌, inl, inr, ℕ, ◌^◌, ◌<◌, ◌≤◌, Bool, true, false, ◌&&◌, List, take, drop, refl, sym, ap, arith, leb, ltb, Ok, Err, Result, IfOk, length}
use Rattle.std.specs.Prelude.{ℤ, pos, ◌≤ℤ◌, int_le, if◌then◌else◌}
use Rattle.std.proofs.lemmas.Bool.{cases_order}
use Rattle.std.proofs.lemmas.Bool.Decides.{nat_tests}
use Rattle.std.proofs.lemmas.List.{length-take-le}
use Rattle.jiff_core.specs.Calendar.{days_from_civil, days_in_month, IsCivilDate}
use Rattle.jiff_core.proofs.SignedLemmas.{signed_arith}
use Rattle.jiff_core.proofs.CalendarLemmas.{days_from_civil-day_count, day_count-day_of_year, day_of_year_bound, day_count-last_of_year, day_count-later_year}
use Rattle.sds_value.specs.declared.kind.Kind.{Kind}
use Rattle.sds_value.specs.declared.kind.Kind.TheVariants.{Timestamp}
use Rattle.sds_value.specs.declared.kind.Value.{Value}
use Rattle.sds_value.specs.declared.kind.Value.TheVariants.{Null, Integer, Decimal, Text, Stamp, Bin}
use Rattle.sds_value.specs.declared.refusal.ValueRefusal.{ValueRefusal}
use Rattle.sds_value.specs.declared.refusal.ValueRefusal.TheVariants.{BadText, OutOfRange}
use Rattle.sds_value.specs.Digits.{digits_value, filled}
use Rattle.sds_value.specs.Stamps.{has_stamp_form, is_date, is_time, nano_of, is_stamp_text, is_stamp, year_in, month_in, day_in, hour_in, minute_in, second_in, day_value, nano_value}
use Rattle.sds_value.specs.Values.{stamp_of, fits, is_printable}
use Rattle.sds_value.proofs.Characters.{left_true, right_true}
use Rattle.sds_value.proofs.Weights.{digits_bound, filled_bound}
use Rattle.sds_value.proofs.Days.{gt_from}
use Rattle.sds_value.proofs.Moments.{form_digits, fraction_digits}

date_parts : (y m d long : ℕ) → (leb 1 m && (leb m 12 && (leb 1 d && leb d long))) ≡ true → (1 ≤ m) × (m ≤ 12) × (1 ≤ d) × (d ≤ long)
date_parts y m d long is = (one is, two is, three is, four is)
  where
    one : (leb 1 m && (leb m 12 && (leb 1 d && leb d long))) ≡ true → 1 ≤ m
    one is = grind (arith, nat_tests)

    two : (leb 1 m && (leb m 12 && (leb 1 d && leb d long))) ≡ true → m ≤ 12
    two is = grind (arith, nat_tests)

    three : (leb 1 m && (leb m 12 && (leb 1 d && leb d long))) ≡ true → 1 ≤ d
    three is = grind (arith, nat_tests)

    four : (leb 1 m && (leb m 12 && (leb 1 d && leb d long))) ≡ true → d ≤ long
    four is = grind (arith, nat_tests)

time_parts : (h n s : ℕ) → is_time h n s ≡ true → (h < 24) × (n < 60) × (s < 60)
time_parts h n s is = (one is, two is, three is)
  where
    one : is_time h n s ≡ true → h < 24
    one is = grind (arith, nat_tests)

    two : is_time h n s ≡ true → n < 60
    two is = grind (arith, nat_tests)

    three : is_time h n s ≡ true → s < 60
    three is = grind (arith, nat_tests)

le_test : (a b : ℤ) → a ≤ℤ b → int_le a b ≡ true
le_test a b le = by (int_le a b) refl
  where
    by : (t : Bool) → int_le a b ≡ t → t ≡ true
    by true is = refl
    by false is = let past = gt_from a b is in absurd (omega (arith, signed_arith, past, le))

below_test : (n : ℕ) → n < 86400000000000 → ltb n 86400000000000 ≡ true
below_test n small = grind (arith, nat_tests)

low_test : (n : ℕ) → leb 1 n ≡ true → 1 ≤ n
low_test n is = grind (arith, nat_tests)

civil_of : (y m d : ℕ) → y ≤ 9999 → 1 ≤ m → m ≤ 12 → 1 ≤ d → d ≤ days_in_month (pos y) m → IsCivilDate (pos y) m d
civil_of y m d year month_low month_high day_low day_high = ((omega (arith, signed_arith), omega (arith, signed_arith, year)), (month_low, month_high), (day_low, day_high))

from_first : (y m d : ℕ) → 1 ≤ d → days_from_civil (pos y) 1 1 ≤ℤ days_from_civil (pos y) m d
from_first y m d low = let place = day_count-day_of_year (pos y) m d low in omega (arith, signed_arith, days_from_civil-day_count, place, low)

to_last : (y m d : ℕ) → IsCivilDate (pos y) m d → 1 ≤ d → days_from_civil (pos y) m d ≤ℤ days_from_civil (pos y) 12 31
to_last y m d civil low =
    let place = day_count-day_of_year (pos y) m d low in
    let bound = day_of_year_bound (pos y) m d civil in
    let last = day_count-last_of_year (pos y) in
    omega (arith, signed_arith, days_from_civil-day_count, place, bound, last)

first_year : (y : ℕ) → 1 ≤ y → days_from_civil (pos 1) 1 1 ≤ℤ days_from_civil (pos y) 1 1
first_year y low = elim (cases_order 1 y) [
  | inr (inl lt) ↦
      let later = day_count-later_year (pos 1) (pos y) (omega (arith, signed_arith)) (omega (arith, signed_arith, lt)) in
      omega (arith, signed_arith, days_from_civil-day_count, later)
  | inl same ↦ rw (← same) (omega (arith, signed_arith))
  | inr (inr gt) ↦ absurd (omega (arith, gt, low))
]

last_year : (y : ℕ) → y ≤ 9999 → days_from_civil (pos y) 12 31 ≤ℤ days_from_civil (pos 9999) 12 31
last_year y high = elim (cases_order y 9999) [
  | inr (inl lt) ↦
      let later = day_count-later_year (pos y) (pos 9999) (omega (arith, signed_arith)) (omega (arith, signed_arith, lt)) in
      let here = day_count-last_of_year (pos y) in
      let there = from_first 9999 12 31 (omega arith) in
      omega (arith, signed_arith, days_from_civil-day_count, later, here, there)
  | inl same ↦ rw same (omega (arith, signed_arith))
  | inr (inr gt) ↦ absurd (omega (arith, gt, high))
]

parts_fit : (y m d h n s f : ℕ) → 1 ≤ y → y ≤ 9999 → is_date y m d ≡ true → is_time h n s ≡ true → f < 1000000000 → is_stamp (days_from_civil (pos y) m d) (nano_of h n s f) ≡ true
parts_fit y m d h n s f low high date time fraction =
    let parts = date_parts y m d (days_in_month (pos y) m) date in
    let clock = time_parts h n s time in
    let first = from_first y m d parts.2 in
    let first_of = first_year y low in
    let last = to_last y m d (civil_of y m d high parts.0 parts.1 parts.2 parts.3) parts.2 in
    let last_of = last_year y high in
    let begins = le_test (days_from_civil (pos 1) 1 1) (days_from_civil (pos y) m d) (omega (arith, signed_arith, first, first_of)) in
    let ends = le_test (days_from_civil (pos y) m d) (days_from_civil (pos 9999) 12 31) (omega (arith, signed_arith, last, last_of)) in
    let below = below_test (nano_of h n s f) (omega (arith, clock.0, clock.1, clock.2, fraction)) in
    rw (begins, ends, below) refl

year_bound : (text : List ℕ) → has_stamp_form text ≡ true → year_in text < 10000
year_bound text form =
    let here = form_digits text 0 4 form (omega arith) refl refl in
    let len = length-take-le 4 text (omega (arith, here.1)) in
    let power : 10 ^ length (take 4 text) ≡ 10 ^ 4 = ap (λ (n : ℕ). 10 ^ n) len in
    omega (arith, digits_bound (take 4 text) here.0, power)

stamp_by : (text : List ℕ) (value : Value) (form low : Bool) → is_stamp_text text ≡ form → leb 1 (year_in text) ≡ low
    → (if form then (if low then Ok (Stamp (day_value text) (nano_value text)) else Err OutOfRange) else Err BadText) ≡ Ok value → fits Timestamp value ≡ true
stamp_by text value true true is some reads =
    let same : Stamp (day_value text) (nano_value text) ≡ value = cc in
    let form = left_true (has_stamp_form text) (is_date (year_in text) (month_in text) (day_in text) && is_time (hour_in text) (minute_in text) (second_in text)) is in
    let both = right_true (has_stamp_form text) (is_date (year_in text) (month_in text) (day_in text) && is_time (hour_in text) (minute_in text) (second_in text)) is in
    let year = year_bound text form in
    rw (← same) (parts_fit (year_in text) (month_in text) (day_in text) (hour_in text) (minute_in text) (second_in text) (digits_value (filled 9 (drop 20 text))) (low_test (year_in text) some) (omega (arith, year))
    (left_true (is_date (year_in text) (month_in text) (day_in text)) (is_time (hour_in text) (minute_in text) (second_in text)) both) (right_true (is_date (year_in text) (month_in text) (day_in text)) (is_time (hour_in text) (minute_in text) (second_in text)) both)
    (filled_bound 9 (drop 20 text) (fraction_digits text form)))
stamp_by text value true false is some reads = absurd (cc)
stamp_by text value false low is some reads = absurd (cc)

pub stamp_fits : (text : List ℕ) (value : Value) → stamp_of text ≡ Ok value → fits Timestamp value ≡ true
stamp_fits text value reads = stamp_by text value (is_stamp_text text) (leb 1 (year_in text)) refl refl reads

printable : (value : Value) → fits Timestamp value ≡ true → is_printable Timestamp value ≡ true
printable (Stamp day nano) fit = fit
printable Null fit = absurd (cc)
printable (Integer z) fit = absurd (cc)
printable (Decimal z) fit = absurd (cc)
printable (Text text) fit = absurd (cc)
printable (Bin bytes) fit = absurd (cc)

-- a time that is read may be printed
pub stamp_printable : (kind : Kind) (text : List ℕ) (r : Result Value ValueRefusal) → kind ≡ Timestamp → r ≡ stamp_of text → IfOk r (λ (value : Value). is_printable kind value ≡ true)
stamp_printable kind text (Ok value) is reads = rw is (printable value (stamp_fits text value (sym reads)))
stamp_printable kind text (Err refusal) is reads = tt

-- The printed text of a day and a nanosecond of the day reads as them.
use Rattle.std.proofs.Common.{◌≡◌, ℕ, ◌+◌, ◌-◌, ◌*◌, ◌/◌, ◌%◌, ◌^◌, ◌<◌, ◌≤◌, Bool, true, false, ◌&&◌, ◌==◌, List, [], ◌∷◌, ◌++◌, length, refl, ap, ◌∙◌, arith, ltb, leb, Ok}
use Rattle.std.specs.Prelude.{ℤ, pos, int_le, if◌then◌else◌}
use Rattle.std.proofs.lemmas.Bool.{eqb-true}
use Rattle.std.proofs.lemmas.Bool.Decides.{nat_tests}
use Rattle.std.specs.List.{list_all}
use Rattle.std.specs.Char.{is_ascii_digit}
use Rattle.jiff_core.specs.Calendar.{days_from_civil, days_in_month}
use Rattle.jiff_core.proofs.CalendarLemmas.{days_in_month_bounds}
use Rattle.sds_value.specs.declared.kind.Value.TheVariants.{Stamp}
use Rattle.sds_value.specs.Digits.{digits_value, padded, filled}
use Rattle.sds_value.specs.Stamps.{is_subsecond, is_date, is_time, nano_of, is_stamp, year_of, month_of, day_of, subsecond_text, stamp_text}
use Rattle.sds_value.specs.Values.{stamp_of}
use Rattle.sds_value.proofs.Characters.{left_true, right_true}
use Rattle.sds_value.proofs.Padding.{padded_digits, padded_value, padded_length, digit_text}
use Rattle.sds_value.proofs.Weights.{fraction_zeros}
use Rattle.sds_value.proofs.Days.{day_is, le_from}

all_two : (a b : ℕ) → list_all is_ascii_digit (a ∷ b ∷ []) ≡ true → (is_ascii_digit a ≡ true) × (is_ascii_digit b ≡ true)
all_two a b are = (left_true (is_ascii_digit a) (is_ascii_digit b && true) are, left_true (is_ascii_digit b) true (right_true (is_ascii_digit a) (is_ascii_digit b && true) are))

all_four : (a b c d : ℕ) → list_all is_ascii_digit (a ∷ b ∷ c ∷ d ∷ []) ≡ true → (is_ascii_digit a ≡ true) × (is_ascii_digit b ≡ true) × (is_ascii_digit c ≡ true) × (is_ascii_digit d ≡ true)
all_four a b c d are =
    let rest = right_true (is_ascii_digit a) (is_ascii_digit b && (is_ascii_digit c && (is_ascii_digit d && true))) are in
    let last = all_two c d (right_true (is_ascii_digit b) (is_ascii_digit c && (is_ascii_digit d && true)) rest) in
    (left_true (is_ascii_digit a) (is_ascii_digit b && (is_ascii_digit c && (is_ascii_digit d && true))) are, left_true (is_ascii_digit b) (is_ascii_digit c && (is_ascii_digit d && true)) rest, last.0, last.1)

with_two : (P : List ℕ → Type 0) → ((a b : ℕ) → P (a ∷ b ∷ [])) → (xs : List ℕ) → length xs ≡ 2 → P xs
with_two P made [] len = absurd (omega arith)
with_two P made (a ∷ []) len = absurd (omega arith)
with_two P made (a ∷ b ∷ []) len = made a b
with_two P made (a ∷ b ∷ c ∷ xs) len = absurd (omega arith)

with_four : (P : List ℕ → Type 0) → ((a b c d : ℕ) → P (a ∷ b ∷ c ∷ d ∷ [])) → (xs : List ℕ) → length xs ≡ 4 → P xs
with_four P made [] len = absurd (omega arith)
with_four P made (a ∷ xs) len = with_three xs (omega (arith, len))
  where
    with_three : (ys : List ℕ) → length ys ≡ 3 → P (a ∷ ys)
    with_three [] n = absurd (omega arith)
    with_three (b ∷ ys) n = with_two (λ (zs : List ℕ). P (a ∷ b ∷ zs)) (λ c d. made a b c d) ys (omega (arith, n))

-- digits of a number
record Writes (text : List ℕ) (number : ℕ) : Type 0 where
  pub digits : list_all is_ascii_digit text ≡ true
  pub value : digits_value text ≡ number

writes : (width n : ℕ) → n < 2 ^ 64 → Writes (padded width n) n
writes width n small = record { digits = padded_digits width n small; value = padded_value width n small }

module _ (y m d h n s : ℕ) (f : List ℕ) (fraction : is_subsecond (46 ∷ f) ≡ true) (date : is_date y m d ≡ true) (time : is_time h n s ≡ true) (low : leb 1 y ≡ true) where
  abbrev Reads : List ℕ → List ℕ → List ℕ → List ℕ → List ℕ → List ℕ → Type 0
  Reads yt mt dt ht nt st =
      Writes yt y → Writes mt m → Writes dt d → Writes ht h → Writes nt n → Writes st s
      → stamp_of ((yt ++ (45 ∷ (mt ++ (45 ∷ dt)))) ++ (32 ∷ ((ht ++ (58 ∷ (nt ++ (58 ∷ st)))) ++ (46 ∷ f))))
      ≡ Ok (Stamp (days_from_civil (pos y) m d) (nano_of h n s (digits_value (filled 9 f))))

  read_digits : (y1 y2 y3 y4 m1 m2 d1 d2 h1 h2 n1 n2 s1 s2 : ℕ) → Reads (y1 ∷ y2 ∷ y3 ∷ y4 ∷ []) (m1 ∷ m2 ∷ []) (d1 ∷ d2 ∷ []) (h1 ∷ h2 ∷ []) (n1 ∷ n2 ∷ []) (s1 ∷ s2 ∷ [])
  read_digits y1 y2 y3 y4 m1 m2 d1 d2 h1 h2 n1 n2 s1 s2 wy wm wd wh wn ws =
      let yd = all_four y1 y2 y3 y4 wy.digits in
      let md = all_two m1 m2 wm.digits in
      let dd = all_two d1 d2 wd.digits in
      let hd = all_two h1 h2 wh.digits in
      let nd = all_two n1 n2 wn.digits in
      let sd = all_two s1 s2 ws.digits in
      rw (yd.0, yd.1, yd.2, yd.3, md.0, md.1, dd.0, dd.1, hd.0, hd.1, nd.0, nd.1, sd.0, sd.1, fraction, wy.value, wm.value, wd.value, wh.value, wn.value, ws.value, date, time, low) refl

  read_lists : (yt mt dt ht nt st : List ℕ) → length yt ≡ 4 → length mt ≡ 2 → length dt ≡ 2 → length ht ≡ 2 → length nt ≡ 2 → length st ≡ 2 → Reads yt mt dt ht nt st
  read_lists yt mt dt ht nt st ly lm ld lh ln ls =
      with_four (λ (yt : List ℕ). Reads yt mt dt ht nt st) (λ y1 y2 y3 y4.
      with_two (λ (mt : List ℕ). Reads (y1 ∷ y2 ∷ y3 ∷ y4 ∷ []) mt dt ht nt st) (λ m1 m2.
      with_two (λ (dt : List ℕ). Reads (y1 ∷ y2 ∷ y3 ∷ y4 ∷ []) (m1 ∷ m2 ∷ []) dt ht nt st) (λ d1 d2.
      with_two (λ (ht : List ℕ). Reads (y1 ∷ y2 ∷ y3 ∷ y4 ∷ []) (m1 ∷ m2 ∷ []) (d1 ∷ d2 ∷ []) ht nt st) (λ h1 h2.
      with_two (λ (nt : List ℕ). Reads (y1 ∷ y2 ∷ y3 ∷ y4 ∷ []) (m1 ∷ m2 ∷ []) (d1 ∷ d2 ∷ []) (h1 ∷ h2 ∷ []) nt st) (λ n1 n2.
      with_two (λ (st : List ℕ). Reads (y1 ∷ y2 ∷ y3 ∷ y4 ∷ []) (m1 ∷ m2 ∷ []) (d1 ∷ d2 ∷ []) (h1 ∷ h2 ∷ []) (n1 ∷ n2 ∷ []) st) (λ s1 s2.
      read_digits y1 y2 y3 y4 m1 m2 d1 d2 h1 h2 n1 n2 s1 s2) st ls) nt ln) ht lh) dt ld) mt lm) yt ly

  read_numbers : y < 10000 → m < 100 → d < 100 → h < 100 → n < 100 → s < 100
      → stamp_of ((padded 4 y ++ (45 ∷ (padded 2 m ++ (45 ∷ padded 2 d)))) ++ (32 ∷ ((padded 2 h ++ (58 ∷ (padded 2 n ++ (58 ∷ padded 2 s)))) ++ (46 ∷ f))))
      ≡ Ok (Stamp (days_from_civil (pos y) m d) (nano_of h n s (digits_value (filled 9 f))))
  read_numbers ly lm ld lh ln ls =
      read_lists (padded 4 y) (padded 2 m) (padded 2 d) (padded 2 h) (padded 2 n) (padded 2 s)
      (padded_length 4 y (omega arith) ly (omega arith)) (padded_length 2 m (omega arith) lm (omega arith)) (padded_length 2 d (omega arith) ld (omega arith))
      (padded_length 2 h (omega arith) lh (omega arith)) (padded_length 2 n (omega arith) ln (omega arith)) (padded_length 2 s (omega arith) ls (omega arith))
      (writes 4 y (omega arith)) (writes 2 m (omega arith)) (writes 2 d (omega arith)) (writes 2 h (omega arith)) (writes 2 n (omega arith)) (writes 2 s (omega arith))

date_test : (y m d : ℕ) → 1 ≤ m → m ≤ 12 → 1 ≤ d → d ≤ days_in_month (pos y) m → is_date y m d ≡ true
date_test y m d month_low month_high day_low day_high = by (days_in_month (pos y) m) day_high
  where
    by : (long : ℕ) → d ≤ long → (leb 1 m && (leb m 12 && (leb 1 d && leb d long))) ≡ true
    by long high = grind (arith, nat_tests)

time_test : (h n s : ℕ) → h < 24 → n < 60 → s < 60 → is_time h n s ≡ true
time_test h n s hour minute second = grind (arith, nat_tests)

year_test : (y : ℕ) → 1 ≤ y → leb 1 y ≡ true
year_test y low = grind (arith, nat_tests)

digits_nine : (f : List ℕ) → 0 < length f → length f ≤ 9 → list_all is_ascii_digit f ≡ true → is_subsecond (46 ∷ f) ≡ true
digits_nine f some few digits = rw (nine (length f) few, digit_text f some digits) refl
  where
    nine : (n : ℕ) → n ≤ 9 → leb n 9 ≡ true
    nine n few = grind (arith, nat_tests)

-- the fraction of a second
record IsFraction (f : List ℕ) (nano : ℕ) : Type 0 where
  pub form : is_subsecond (46 ∷ f) ≡ true
  pub value : digits_value (filled 9 f) ≡ nano

plain : (v w p q r : ℕ) → 0 * p + v ≡ (0 * q + w) * r → v ≡ w * r
plain v w p q r is = omega (arith, is)

fraction_of : (width n zeros nano : ℕ) → 0 < width → width + zeros ≡ 9 → n < 10 ^ width → n < 2 ^ 64 → n * 10 ^ zeros ≡ nano → IsFraction (padded width n) nano
fraction_of width n zeros nano some whole fits small is =
    let len = padded_length width n some fits small in
    let filled_is = fraction_zeros 0 9 (padded width n) (omega (arith, len)) in
    let value = padded_value width n small in
    let rest : 9 - length (padded width n) ≡ zeros = omega (arith, len) in
    record {
      form = digits_nine (padded width n) (omega (arith, len)) (omega (arith, len)) (padded_digits width n small);
      value = plain (digits_value (filled 9 (padded width n))) (digits_value (padded width n)) (10 ^ 9) (10 ^ length (padded width n)) (10 ^ (9 - length (padded width n))) filled_is
          ∙ (ap (λ (k : ℕ). digits_value (padded width n) * 10 ^ k) rest ∙ (ap (λ (v : ℕ). v * 10 ^ zeros) value ∙ is));
    }

subsecond_by : (nano : ℕ) (milli micro : Bool) → (nano % 1000000 == 0) ≡ milli → (nano % 1000 == 0) ≡ micro
    → IsFraction (if milli then padded 3 (nano % 1000000000 / 1000000) else (if micro then padded 6 (nano % 1000000000 / 1000) else padded 9 (nano % 1000000000))) (nano % 1000000000)
subsecond_by nano true micro is_milli is_micro = fraction_of 3 (nano % 1000000000 / 1000000) 6 (nano % 1000000000) (omega arith) refl (omega arith) (omega arith) (whole nano is_milli)
  where
    whole : (nano : ℕ) → (nano % 1000000 == 0) ≡ true → nano % 1000000000 / 1000000 * 1000000 ≡ nano % 1000000000
    whole nano is = let none : nano % 1000000 ≡ 0 = eqb-true _ _ is in omega arith
subsecond_by nano false true is_milli is_micro = fraction_of 6 (nano % 1000000000 / 1000) 3 (nano % 1000000000) (omega arith) refl (omega arith) (omega arith) (whole nano is_micro)
  where
    whole : (nano : ℕ) → (nano % 1000 == 0) ≡ true → nano % 1000000000 / 1000 * 1000 ≡ nano % 1000000000
    whole nano is = let none : nano % 1000 ≡ 0 = eqb-true _ _ is in omega arith
subsecond_by nano false false is_milli is_micro = fraction_of 9 (nano % 1000000000) 0 (nano % 1000000000) (omega arith) refl (omega arith) (omega arith) (omega arith)

time_parts : (nano : ℕ) → nano_of (nano / 3600000000000) (nano / 60000000000 % 60) (nano / 1000000000 % 60) (nano % 1000000000) ≡ nano
time_parts nano = omega arith

nano_below : (nano : ℕ) → ltb nano 86400000000000 ≡ true → nano < 86400000000000
nano_below nano is = grind (arith, nat_tests)

pub stamp_back : (day : ℤ) (nano : ℕ) → is_stamp day nano ≡ true → stamp_of (stamp_text day nano) ≡ Ok (Stamp day nano)
stamp_back day nano is =
    let first = left_true (int_le (days_from_civil (pos 1) 1 1) day) (int_le day (days_from_civil (pos 9999) 12 31) && ltb nano 86400000000000) is in
    let others = right_true (int_le (days_from_civil (pos 1) 1 1) day) (int_le day (days_from_civil (pos 9999) 12 31) && ltb nano 86400000000000) is in
    let last = left_true (int_le day (days_from_civil (pos 9999) 12 31)) (ltb nano 86400000000000) others in
    let below = nano_below nano (right_true (int_le day (days_from_civil (pos 9999) 12 31)) (ltb nano 86400000000000) others) in
    let date = day_is day (le_from (days_from_civil (pos 1) 1 1) day first) (le_from day (days_from_civil (pos 9999) 12 31) last) in
    let long = days_in_month_bounds (pos (year_of day)) (month_of day) in
    let fraction = subsecond_by nano (nano % 1000000 == 0) (nano % 1000 == 0) refl refl in
    let reads = read_numbers (year_of day) (month_of day) (day_of day) (nano / 3600000000000) (nano / 60000000000 % 60) (nano / 1000000000 % 60) (subsecond_text nano) fraction.form
    (date_test (year_of day) (month_of day) (day_of day) date.month_low date.month_high date.day_low date.day_high) (time_test (nano / 3600000000000) (nano / 60000000000 % 60) (nano / 1000000000 % 60) (omega arith) (omega arith) (omega arith)) (year_test (year_of day) date.year_low)
    (omega (arith, date.year_high)) (omega (arith, date.month_high)) (omega (arith, date.day_high, long.0)) (omega arith) (omega arith) (omega arith) in
    reads ∙ (rw (date.value, fraction.value, time_parts nano) refl)

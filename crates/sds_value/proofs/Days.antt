-- The year, the month and the day of a day number.
use Rattle.std.proofs.Common.{◌≡◌, inl, inr, ◌&&◌, leb, ltb, ℕ, zero, suc, ◌+◌, ◌^◌, ◌<◌, ◌≤◌, Bool, true, false, refl, sym, ap, subst, ◌∙◌, arith, add-one}
use Rattle.std.specs.Prelude.{ℤ, pos, negsuc, neg_ℤ, int_le, if◌then◌else◌, unsigned_abs, ◌+ℤ◌, ◌≤ℤ◌, ◌<ℤ◌}
use Rattle.std.proofs.lemmas.Bool.{cases_order}
use Rattle.std.proofs.lemmas.Bool.Decides.{nat_tests}
use Rattle.sds_value.proofs.Characters.{left_true, right_true}
use Rattle.jiff_core.specs.declared.civil.date.Date.{Date}
use Rattle.jiff_core.specs.Calendar.{IsDate, IsEpochDay, days_from_civil, days_in_month}
use Rattle.jiff_core.specs.Date.{epoch_day}
use Rattle.jiff_core.proofs.SignedLemmas.{signed_arith, back_small}
use Rattle.jiff_core.proofs.CalendarLemmas.{days_from_civil-day_count, days_in_month_bounds, day_count_bounds}
use Rattle.jiff_core.proofs.DateLemmas.{days_from_civil-max, days_from_civil-next_year, days_from_civil-next_month, days_from_civil-day, epoch_day_injective}
use Rattle.sds_value.specs.Stamps.{is_date, is_stamp, last_begun, year_of, month_of, day_of}
use mir.Val.{to_z, of_z}
use mir.Syntax.{w16}
use Rattle.std.proofs.Common.{w32, w64, Result, Ok, Err, IfOk}

-- r is the last of the numbers from 1 to `most` that has begun on this day
pub record IsLast (begins : ℕ → ℤ) (day : ℤ) (most r : ℕ) : Type 0 where
  pub low : 1 ≤ r
  pub high : r ≤ most
  pub begun : begins r ≤ℤ day
  pub next : r < most → day <ℤ begins (r + 1)

pub le_from : (a b : ℤ) → int_le a b ≡ true → a ≤ℤ b
le_from a b is = omega (arith, signed_arith)

pub gt_from : (a b : ℤ) → int_le a b ≡ false → b <ℤ a
gt_from a b is = omega (arith, signed_arith)

apart : {P : Type 0} (a b : ℤ) → a ≤ℤ b → b <ℤ a → P
apart a b low high = absurd (omega (arith, signed_arith))

step : (begins : ℕ → ℤ) (day : ℤ) (most r : ℕ) (b : Bool) → int_le (begins (suc most)) day ≡ b → (1 ≤ most → IsLast begins day most r) → (most ≡ 0 → begins (suc most) ≤ℤ day)
    → IsLast begins day (suc most) (if b then suc most else r)
step begins day most r true is before first = record { low = omega arith; high = omega arith; begun = le_from (begins (suc most)) day is; next = λ less. absurd (omega arith) }
step begins day zero r false is before first = apart (begins 1) day (first refl) (gt_from (begins 1) day is)
step begins day (suc most) r false is before first =
    let last = before (omega arith) in
    record {
      low = last.low;
      high = omega (arith, last.high);
      begun = last.begun;
      next = λ less. elim (cases_order r (suc most)) [
        | inr (inl lt) ↦ last.next lt
        | inl same ↦ ap_next same (gt_from (begins (suc (suc most))) day is)
        | inr (inr gt) ↦ absurd (omega (arith, last.high))
      ];
    }
  where
    ap_next : r ≡ suc most → day <ℤ begins (suc (suc most)) → day <ℤ begins (r + 1)
    ap_next same after = rw (same, add-one) after

pub last_is : (begins : ℕ → ℤ) (day : ℤ) (most : ℕ) → 1 ≤ most → begins 1 ≤ℤ day → IsLast begins day most (last_begun begins day most)
unfolding last_begun
last_is begins day zero some first = absurd (omega arith)
last_is begins day (suc most) some first = step begins day most (last_begun begins day most) (int_le (begins (suc most)) day) refl (λ more. last_is begins day most more first) (λ none. rw none first)

-- a day of the calendar
pub record IsDay (day : ℤ) (y m d : ℕ) : Type 0 where
  pub year_low : 1 ≤ y
  pub year_high : y ≤ 9999
  pub month_low : 1 ≤ m
  pub month_high : m ≤ 12
  pub day_low : 1 ≤ d
  pub day_high : d ≤ days_in_month (pos y) m
  pub value : days_from_civil (pos y) m d ≡ day

year_is : (day : ℤ) → days_from_civil (pos 1) 1 1 ≤ℤ day → IsLast (λ (year : ℕ). days_from_civil (pos year) 1 1) day 9999 (year_of day)
unfolding year_of
year_is day first = last_is (λ (year : ℕ). days_from_civil (pos year) 1 1) day 9999 (omega arith) first

month_is : (day : ℤ) → days_from_civil (pos (year_of day)) 1 1 ≤ℤ day → IsLast (λ (month : ℕ). days_from_civil (pos (year_of day)) month 1) day 12 (month_of day)
unfolding month_of
month_is day first = last_is (λ (month : ℕ). days_from_civil (pos (year_of day)) month 1) day 12 (omega arith) first

year_end : (day : ℤ) (y : ℕ) → IsLast (λ (year : ℕ). days_from_civil (pos year) 1 1) day 9999 y → day ≤ℤ days_from_civil (pos 9999) 12 31 → day ≤ℤ days_from_civil (pos y) 12 31
year_end day y last end = elim (cases_order y 9999) [
  | inr (inl lt) ↦
      let next = last.next lt in
      let low : neg_ℤ (pos 10000) ≤ℤ pos y = omega (arith, signed_arith) in
      let same : pos (y + 1) ≡ pos y +ℤ pos 1 = omega (arith, signed_arith) in
      let year = days_from_civil-next_year (pos y) (pos (y + 1)) low same in
      omega (arith, signed_arith, next, year)
  | inl same ↦ rw same end
  | inr (inr gt) ↦ absurd (omega (arith, last.high))
]

month_end : (day : ℤ) (y m : ℕ) → IsLast (λ (month : ℕ). days_from_civil (pos y) month 1) day 12 m → day ≤ℤ days_from_civil (pos y) 12 31 → day ≤ℤ days_from_civil (pos y) m (days_in_month (pos y) m)
month_end day y m last end = elim (cases_order m 12) [
  | inr (inl lt) ↦
      let next = last.next lt in
      let month = days_from_civil-next_month (pos y) m (days_in_month (pos y) m) last.low refl in
      omega (arith, signed_arith, next, month)
  | inl same ↦ rw same end
  | inr (inr gt) ↦ absurd (omega (arith, last.high))
]

number_is : (day : ℤ) → days_from_civil (pos (year_of day)) (month_of day) 1 ≤ℤ day → IsLast (λ (number : ℕ). days_from_civil (pos (year_of day)) (month_of day) number) day 31 (day_of day)
unfolding day_of
number_is day first = last_is (λ (number : ℕ). days_from_civil (pos (year_of day)) (month_of day) number) day 31 (omega arith) first

day_end : (day : ℤ) (y m d : ℕ) → IsLast (λ (number : ℕ). days_from_civil (pos y) m number) day 31 d → day ≤ℤ days_from_civil (pos y) m (days_in_month (pos y) m) → 1 ≤ days_in_month (pos y) m → days_in_month (pos y) m ≤ 31
    → (d ≤ days_in_month (pos y) m) × (days_from_civil (pos y) m d ≡ day)
day_end day y m d last end some most =
    let low = last.low in
    let begun = last.begun in
    let whole = days_from_civil-day (pos y) m d (days_in_month (pos y) m) last.low some in
    let high : d ≤ days_in_month (pos y) m = omega (arith, signed_arith, begun, end, whole) in
    elim (cases_order d 31) [
      | inr (inl lt) ↦
          let next = last.next lt in
          let more = days_from_civil-day (pos y) m (d + 1) d (omega arith) last.low in
          (high, omega (arith, signed_arith, begun, next, more))
      | inl same ↦ (high, omega (arith, signed_arith, begun, end, whole))
      | inr (inr gt) ↦ absurd (omega (arith, last.high))
    ]

within : (day : ℤ) (y m d : ℕ) → 1 ≤ y → y ≤ 9999 → 1 ≤ m → m ≤ 12 → IsLast (λ (number : ℕ). days_from_civil (pos y) m number) day 31 d → day ≤ℤ days_from_civil (pos y) m (days_in_month (pos y) m) → IsDay day y m d
within day y m d year_low year_high month_low month_high last end =
    let long = days_in_month_bounds (pos y) m in
    let parts = day_end day y m d last end (omega (arith, long.1)) long.0 in
    record {
      year_low = year_low;
      year_high = year_high;
      month_low = month_low;
      month_high = month_high;
      day_low = last.low;
      day_high = parts.0;
      value = parts.1;
    }

-- the year, the month and the day of a day number are those of that day
pub day_is : (day : ℤ) → days_from_civil (pos 1) 1 1 ≤ℤ day → day ≤ℤ days_from_civil (pos 9999) 12 31 → IsDay day (year_of day) (month_of day) (day_of day)
day_is day first end =
    let year = year_is day first in
    let month = month_is day year.begun in
    within day (year_of day) (month_of day) (day_of day) year.low year.high month.low month.high (number_is day month.begun)
    (month_end day (year_of day) (month_of day) month (year_end day (year_of day) year end))

made : (day : ℤ) (y m d : ℕ) → IsDay day y m d → Date
made day y m d is = record { year = pos y; month = m; day = d; year_in = (omega (arith, signed_arith), omega (arith, signed_arith, is.year_high)); month_in = (is.month_low, is.month_high); day_in = (is.day_low, is.day_high) }

-- no other date has that day number
pub parts_are : (day : ℤ) (y m d : ℕ) → IsDay day y m d → (date : Date) → epoch_day date ≡ day → (date.year ≡ pos y) × (date.month ≡ m) × (date.day ≡ d)
unfolding made
parts_are day y m d is date same = epoch_day_injective date (made day y m d is) (same ∙ sym is.value)

pub date_found : (y m d : ℕ) → IsDate (pos y) (pos m) (pos d) → is_date y m d ≡ true
date_found y m d is = by (days_in_month (pos y) m) (omega (arith, signed_arith, is.1.0)) (omega (arith, signed_arith, is.1.1)) (omega (arith, signed_arith, is.2.0)) (omega (arith, signed_arith, is.2.1))
  where
    by : (long : ℕ) → 1 ≤ m → m ≤ 12 → 1 ≤ d → d ≤ long → (leb 1 m && (leb m 12 && (leb 1 d && leb d long))) ≡ true
    by long month_low month_high day_low day_high = grind (arith, nat_tests)

pub date_missing : (y m d : ℕ) → y < 10000 → (IsDate (pos y) (pos m) (pos d) → ⊥) → is_date y m d ≡ false
date_missing y m d small missing = by (is_date y m d) refl
  where
    parts : (long : ℕ) → (leb 1 m && (leb m 12 && (leb 1 d && leb d long))) ≡ true → (1 ≤ m) × (m ≤ 12) × (1 ≤ d) × (d ≤ long)
    parts long is = (one is, two is, three is, four is)
      where
        one : (leb 1 m && (leb m 12 && (leb 1 d && leb d long))) ≡ true → 1 ≤ m
        one is = grind (arith, nat_tests)

        two : (leb 1 m && (leb m 12 && (leb 1 d && leb d long))) ≡ true → m ≤ 12
        two is = grind (arith, nat_tests)

        three : (leb 1 m && (leb m 12 && (leb 1 d && leb d long))) ≡ true → 1 ≤ d
        three is = grind (arith, nat_tests)

        four : (leb 1 m && (leb m 12 && (leb 1 d && leb d long))) ≡ true → d ≤ long
        four is = grind (arith, nat_tests)

    by : (b : Bool) → is_date y m d ≡ b → b ≡ false
    by false is = refl
    by true is =
        let all = parts (days_in_month (pos y) m) is in
        absurd (missing ((omega (arith, signed_arith), omega (arith, signed_arith, small)), (omega (arith, signed_arith, all.0), omega (arith, signed_arith, all.1)), (omega (arith, signed_arith, all.2), omega (arith, signed_arith, all.3))))

-- the days of the years 1 to 9999 are days that the calendar has
pub stamp_epoch : (day : ℤ) (nano : ℕ) → is_stamp day nano ≡ true → IsEpochDay day
stamp_epoch day nano is =
    let first = le_from (days_from_civil (pos 1) 1 1) day (left_true (int_le (days_from_civil (pos 1) 1 1) day) (int_le day (days_from_civil (pos 9999) 12 31) && ltb nano 86400000000000) is) in
    let last = le_from day (days_from_civil (pos 9999) 12 31) (left_true (int_le day (days_from_civil (pos 9999) 12 31)) (ltb nano 86400000000000) (right_true (int_le (days_from_civil (pos 1) 1 1) day) (int_le day (days_from_civil (pos 9999) 12 31) && ltb nano 86400000000000) is)) in
    let low = day_count_bounds (pos 1) 1 1 ((omega (arith, signed_arith), omega (arith, signed_arith)), (omega arith, omega arith), (omega arith, omega arith)) in
    (omega (arith, signed_arith, first, low.0, days_from_civil-day_count (pos 1) 1 1), omega (arith, signed_arith, last, days_from_civil-max))

-- the date of a day of the years 1 to 9999
pub date_parts : (day : ℤ) (nano : ℕ) → is_stamp day nano ≡ true → (date : Date) → epoch_day date ≡ day → (date.year ≡ pos (year_of day)) × (date.month ≡ month_of day) × (date.day ≡ day_of day) × (year_of day ≤ 9999)
date_parts day nano is date same =
    let first = le_from (days_from_civil (pos 1) 1 1) day (left_true (int_le (days_from_civil (pos 1) 1 1) day) (int_le day (days_from_civil (pos 9999) 12 31) && ltb nano 86400000000000) is) in
    let last = le_from day (days_from_civil (pos 9999) 12 31) (left_true (int_le day (days_from_civil (pos 9999) 12 31)) (ltb nano 86400000000000) (right_true (int_le (days_from_civil (pos 1) 1 1) day) (int_le day (days_from_civil (pos 9999) 12 31) && ltb nano 86400000000000) is)) in
    let here = day_is day first last in
    let parts = parts_are day (year_of day) (month_of day) (day_of day) here date same in
    (parts.0, parts.1, parts.2, here.year_high)

near : (day : ℤ) → IsEpochDay day → unsigned_abs day < 2 ^ 31
near (pos n) is = let high = is.1 in omega (arith, signed_arith, high)
near (negsuc n) is = let low = is.0 in omega (arith, signed_arith, low)

pub year_cast : (z : ℤ) (y : ℕ) → z ≡ pos y → y ≤ 9999 → unsigned_abs (to_z w16 (of_z w16 z)) ≡ y
year_cast z y is small = rw is (ap unsigned_abs (back_small w16 (pos y) (omega (arith, small))))

pub epoch_cast : (day : ℤ) → IsEpochDay day → to_z w64 (of_z w64 (to_z w32 (of_z w32 day))) ≡ day
epoch_cast day is = rw (back_small w32 day (near day is)) (back_small w64 day (omega (arith, near day is)))

pub ok_is : {A E : Type 0} (P : A → Type 0) (r : Result A E) (x : A) → IfOk r P → r ≡ Ok x → P x
ok_is P (Ok y) x given is = let same : y ≡ x = cc in subst P same given
ok_is P (Err e) x given is = absurd (cc)

pub day_cast : (day : ℤ) (nano : ℕ) → is_stamp day nano ≡ true → to_z w32 (of_z w32 day) ≡ day
day_cast day nano is = back_small w32 day (near day (stamp_epoch day nano is))

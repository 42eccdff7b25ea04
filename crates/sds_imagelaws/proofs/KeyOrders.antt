-- How keys stand to one another: after the same bytes as what follows them, and numbers of 20 digits as the numbers.
use Rattle.std.proofs.Common.{◌≡◌, ℕ, ◌+◌, ◌-◌, ◌*◌, ◌^◌, ◌<◌, ◌≤◌, Bool, true, false, List, [], ◌∷◌, ◌++◌, length, Less, refl, sym, ap, subst, ◌∙◌, arith, true≢false, is_lt, nat_cmp}
use Rattle.std.specs.Char.{is_ascii_digit}
use Rattle.std.specs.Cmp.Lexicographic.{slice_cmp}
use Rattle.std.specs.List.{list_all}
use Rattle.std.specs.Ordering.{ordering_then, ordering_reverse}
use Rattle.std.proofs.lemmas.Bool.Decides.{nat_tests}
use Rattle.std.proofs.lemmas.Nat.{mul-le}
use Rattle.std.specs.Cmp.{nat_cmp_is}
use Rattle.std.specs.Prelude.{nat_lt}
use Rattle.std.proofs.lemmas.Cmp.{nat_cmp_total, nat_list_cmp_total, tied_itself}
use Rattle.sds_value.specs.Digits.{digits_value}
use Rattle.sds_value.proofs.Characters.{left_true, right_true}
use Rattle.sds_value.proofs.Padding.{padded_digits, padded_length, padded_value}
use Rattle.sds_value.proofs.Weights.{digits_bound}
use Rattle.sds_history.specs.history.Orders.{is_before}
use Rattle.sds_history.specs.history.Records.{id_text}
use Rattle.sds_nodelaws.proofs.KeyedLists.{never_before_itself}
use Rattle.sds_nodelaws.proofs.Lists.{from_lt, from_not_lt}

-- AFTER THE SAME BYTES
pub after_front : (front a b : List ℕ) → slice_cmp nat_cmp (front ++ a) (front ++ b) ≡ slice_cmp nat_cmp a b
after_front [] a b = refl
after_front (c ∷ cs) a b =
    ap (λ o. ordering_then o (slice_cmp nat_cmp (cs ++ a) (cs ++ b))) (tied_itself nat_cmp_total c) ∙ after_front cs a b

pub before_after : (front a b : List ℕ) → is_before (front ++ a) (front ++ b) ≡ is_before a b
before_after front a b = ap is_lt (after_front front a b)

-- DIGITS, as many on either side
pub less_cmp : (x y : ℕ) → x < y → nat_cmp x y ≡ Less
less_cmp x y less = sym (nat_cmp_is x y Less less)

from_48 : (c : ℕ) → is_ascii_digit c ≡ true → 48 ≤ c
from_48 c is = grind (arith, nat_tests)

over : (c d p v w : ℕ) → d + 1 ≤ c → w < p → d * p + w < c * p + v
over c d p v w more less =
    let step : (d + 1) * p ≤ c * p = mul-le (d + 1) p c p more (omega arith) in
    omega (arith, step, less)

rest_less : (d p v w : ℕ) → d * p + v < d * p + w → v < w
rest_less d p v w less = omega (arith, less)

not_over : (c d p v w : ℕ) → c * p + v < d * p + w → d * p + w < c * p + v → ⊥
not_over c d p v w less more = absurd (omega (arith, less, more))

less_head : (x y : ℕ) → 48 ≤ y → y < x → (y - 48) + 1 ≤ x - 48
less_head x y low less = omega (arith, low, less)

level : (x y : ℕ) → nat_lt x y ≡ false → nat_lt y x ≡ false → x ≡ y
level x y isnt nor = let low = from_not_lt x y isnt in let high = from_not_lt y x nor in omega (arith, low, high)

digits_less : (xs ys : List ℕ) → length xs ≡ length ys → list_all is_ascii_digit xs ≡ true → list_all is_ascii_digit ys ≡ true
    → digits_value xs < digits_value ys → slice_cmp nat_cmp xs ys ≡ Less
digits_less [] [] long are also less = absurd (omega (arith, less))
digits_less [] (y ∷ ys) long are also less = absurd (omega (arith, long))
digits_less (x ∷ xs) [] long are also less = absurd (omega (arith, long))
digits_less (x ∷ xs) (y ∷ ys) long are also less =
    by (nat_lt x y) (nat_lt y x) refl refl
    (digits_less xs ys tails (right_true (is_ascii_digit x) (list_all is_ascii_digit xs) are) (right_true (is_ascii_digit y) (list_all is_ascii_digit ys) also))
  where
    tails : length xs ≡ length ys
    tails = omega (arith, long)

    own : (x - 48) * 10 ^ length ys + digits_value xs < (y - 48) * 10 ^ length ys + digits_value ys
    own = subst (λ p. (x - 48) * p + digits_value xs < (y - 48) * 10 ^ length ys + digits_value ys) (ap (λ (n : ℕ). 10 ^ n) tails) less

    by : (a b : Bool) → nat_lt x y ≡ a → nat_lt y x ≡ b → (digits_value xs < digits_value ys → slice_cmp nat_cmp xs ys ≡ Less)
        → ordering_then (nat_cmp x y) (slice_cmp nat_cmp xs ys) ≡ Less
    by true b is too rest = ap (λ o. ordering_then o (slice_cmp nat_cmp xs ys)) (less_cmp x y (from_lt x y is))
    by false true is too rest =
        absurd (not_over (x - 48) (y - 48) (10 ^ length ys) (digits_value xs) (digits_value ys) own
        (over (x - 48) (y - 48) (10 ^ length ys) (digits_value xs) (digits_value ys)
        (less_head x y (from_48 y (left_true (is_ascii_digit y) (list_all is_ascii_digit ys) also)) (from_lt y x too))
        (digits_bound ys (right_true (is_ascii_digit y) (list_all is_ascii_digit ys) also))))
    by false false is too rest =
        let same : x ≡ y = level x y is too in
        ap (λ o. ordering_then o (slice_cmp nat_cmp xs ys)) (ap (λ z. nat_cmp z y) same ∙ tied_itself nat_cmp_total y)
        ∙ rest (rest_less (y - 48) (10 ^ length ys) (digits_value xs) (digits_value ys)
        (subst (λ z. (z - 48) * 10 ^ length ys + digits_value xs < (y - 48) * 10 ^ length ys + digits_value ys) same own))

-- NUMBERS in keys
id_length : (n : ℕ) → n < 2 ^ 64 → length (id_text n) ≡ 20
id_length n small = padded_length 20 n (omega arith) (omega (arith, small)) small

id_less : (m n : ℕ) → m < 2 ^ 64 → n < 2 ^ 64 → m < n → slice_cmp nat_cmp (id_text m) (id_text n) ≡ Less
id_less m n small also less =
    digits_less (id_text m) (id_text n) (id_length m small ∙ sym (id_length n also)) (padded_digits 20 m small) (padded_digits 20 n also)
    (subst (λ v. v < digits_value (id_text n)) (sym (padded_value 20 m small)) (subst (λ v. m < v) (sym (padded_value 20 n also)) less))

pub id_before : (m n : ℕ) → m < 2 ^ 64 → n < 2 ^ 64 → m < n → is_before (id_text m) (id_text n) ≡ true
id_before m n small also less = ap is_lt (id_less m n small also less)

pub id_order : (m n : ℕ) → m < 2 ^ 64 → n < 2 ^ 64 → is_before (id_text m) (id_text n) ≡ true → m < n
id_order m n small also before = by (nat_lt m n) (nat_lt n m) refl refl
  where
    by : (a b : Bool) → nat_lt m n ≡ a → nat_lt n m ≡ b → m < n
    by true b is too = from_lt m n is
    by false true is too =
        absurd (true≢false (sym before ∙ (ap is_lt (nat_list_cmp_total.antisymm (id_text m) (id_text n))
        ∙ ap (λ o. is_lt (ordering_reverse o)) (id_less n m also small (from_lt n m too)))))
    by false false is too = never_before_itself (id_text n) (subst (λ k. is_before (id_text k) (id_text n) ≡ true) (level m n is too) before)

-- Sums of digits times powers of ten, digit by digit from the left.
use Rattle.std.proofs.Common.{◌≡◌, ℕ, ◌+◌, ◌-◌, ◌*◌, ◌^◌, ◌<◌, ◌≤◌, zero, suc, List, [], ◌∷◌, ◌++◌, length, drop, take, replicate, get_or, refl, sym, ap, ◌∙◌, true, arith, add-one, length-append}
use Rattle.std.proofs.lemmas.List.{length-replicate, length-take-le}
use Rattle.std.proofs.Math.Nat.{pow-suc, one-le-pow, pow-le-pow_right}
use Rattle.std.proofs.lemmas.Nat.{pow-add, mul-le}
use Rattle.std.proofs.lemmas.Bool.Decides.{nat_tests}
use Rattle.std.specs.List.{list_all}
use Rattle.std.specs.Char.{is_ascii_digit}
use Rattle.sds_value.proofs.Characters.{left_true, right_true}
use Rattle.std.proofs.lemmas.List.{drop_more, at_drop_all, take-append-le, take-replicate}
use Rattle.std.proofs.Math.Seq.{take-append-add}
use Rattle.std.specs.Prelude.{Option, Some, None, IsSome}
use Rattle.std.specs.Option.{SomeIff}
use Rattle.sds_value.specs.Digits.{digits_value, filled}

distributes : (v d p r : ℕ) → (v * 10 + d) * p + r ≡ v * (p * 10) + (d * p + r)
distributes v d p r = omega arith

step_at : (v b : ℕ) (rest : List ℕ) → (v * 10 + (b - 48)) * 10 ^ length rest + digits_value rest ≡ v * 10 ^ length (b ∷ rest) + digits_value (b ∷ rest)
step_at v b rest = distributes v (b - 48) (10 ^ length rest) (digits_value rest) ∙ ap (λ (p : ℕ). v * p + ((b - 48) * 10 ^ length rest + digits_value rest)) (sym (pow-suc 10 (length rest)))

-- the next digit
pub next_digit : (digits : List ℕ) (sum next total i : ℕ) → i < length digits → next ≡ sum * 10 + (get_or digits i 0 - 48)
    → sum * 10 ^ length (drop i digits) + digits_value (drop i digits) ≡ total
    → next * 10 ^ length (drop (i + 1) digits) + digits_value (drop (i + 1) digits) ≡ total
next_digit digits sum next total i inside is so_far =
    rw is (step_at sum (get_or digits i 0) (drop (i + 1) digits) ∙ (rw (drop_more digits i 0 inside) at so_far))

grows : (n p r : ℕ) → 1 ≤ p → n ≤ n * p + r
grows n zero r some = absurd (omega (arith, some))
grows n (suc p) r some = omega arith

-- what has come so far is at most the whole
pub at_most : (n k r : ℕ) → n ≤ n * 10 ^ k + r
at_most n k r = grows n (10 ^ k) r (one-le-pow k 10 (omega arith))

-- where the next digit makes it too large, so is the whole
pub next_over : (digits : List ℕ) (sum total i : ℕ) → i < length digits
    → sum * 10 ^ length (drop i digits) + digits_value (drop i digits) ≡ total
    → (sum * 10 + (get_or digits i 0 - 48) < 2 ^ 64 → ⊥) → total < 2 ^ 64 → ⊥
next_over digits sum total i inside so_far over small =
    let whole = next_digit digits sum (sum * 10 + (get_or digits i 0 - 48)) total i inside refl so_far in
    let low = at_most (sum * 10 + (get_or digits i 0 - 48)) (length (drop (i + 1) digits)) (digits_value (drop (i + 1) digits)) in
    over (omega (arith, whole, low, small))

-- the last digit
pub last_digit : (digits : List ℕ) (sum total i : ℕ) → length digits ≤ i
    → sum * 10 ^ length (drop i digits) + digits_value (drop i digits) ≡ total → sum ≡ total
last_digit digits sum total i end so_far =
    let all = at_drop_all (λ (ds : List ℕ). sum * 10 ^ length ds + digits_value ds) digits i end in
    omega (arith, all, so_far)

pub next_zero : (number sum next i : ℕ) → next ≡ sum * 10 → sum ≡ number * 10 ^ i → next ≡ number * 10 ^ (i + 1)
next_zero number sum next i is so_far = rw (is, so_far, add-one, pow-suc 10 i) (times number (10 ^ i))
  where
    times : (a p : ℕ) → a * p * 10 ≡ a * (p * 10)
    times a p = omega arith

times_le : (n p q : ℕ) → p ≤ q → n * p ≤ n * q
times_le zero p q le = omega arith
times_le (suc n) p q le = let so_far = times_le n p q le in omega (arith, so_far, le)

pub zero_over : (number count sum i : ℕ) → i < count → sum ≡ number * 10 ^ i → (sum * 10 < 2 ^ 64 → ⊥) → number * 10 ^ count < 2 ^ 64 → ⊥
zero_over number count sum i inside so_far over small =
    let next : sum * 10 ≡ number * 10 ^ (i + 1) = next_zero number sum (sum * 10) i refl so_far in
    let power : 10 ^ (i + 1) ≤ 10 ^ count = pow-le-pow_right (omega arith) (omega arith) in
    let low = times_le number (10 ^ (i + 1)) (10 ^ count) power in
    over (omega (arith, next, low, small))

-- the digits of two texts, one behind the other
pub digits_value-append : (xs ys : List ℕ) → digits_value (xs ++ ys) ≡ digits_value xs * 10 ^ length ys + digits_value ys
digits_value-append [] ys = omega arith
digits_value-append (x ∷ xs) ys =
    let rest = digits_value-append xs ys in
    let power : 10 ^ length (xs ++ ys) ≡ 10 ^ length xs * 10 ^ length ys = ap (λ (n : ℕ). 10 ^ n) (length-append xs ys) ∙ pow-add 10 (length xs) (length ys) in
    rw (power, rest) (joined (x - 48) (10 ^ length xs) (digits_value xs) (10 ^ length ys) (digits_value ys))
  where
    joined : (d p v q w : ℕ) → d * (p * q) + (v * q + w) ≡ (d * p + v) * q + w
    joined d p v q w = omega arith

-- so many digits write a number below that power of ten
pub digits_bound : (ds : List ℕ) → list_all is_ascii_digit ds ≡ true → digits_value ds < 10 ^ length ds
digits_bound [] are = omega arith
digits_bound (d ∷ ds) are =
    let rest = digits_bound ds (right_true (is_ascii_digit d) (list_all is_ascii_digit ds) are) in
    let low = digit_low d (left_true (is_ascii_digit d) (list_all is_ascii_digit ds) are) in
    rw (pow-suc 10 (length ds)) (below (d - 48) (digits_value ds) (10 ^ length ds) low rest)
  where
    digit_low : (d : ℕ) → is_ascii_digit d ≡ true → d - 48 ≤ 9
    digit_low d is = grind (arith, nat_tests)

    below : (d v p : ℕ) → d ≤ 9 → v < p → d * p + v < p * 10
    below d v p low rest = let most = mul_le_nine d p low in omega (arith, most, rest)
      where
        mul_le_nine : (d p : ℕ) → d ≤ 9 → d * p ≤ 9 * p
        mul_le_nine d p low = mul-le d p 9 p low (omega arith)

pub digits_value-zeros : (n : ℕ) → digits_value (replicate n 48) ≡ 0
digits_value-zeros zero = refl
digits_value-zeros (suc n) = let rest = digits_value-zeros n in omega (arith, rest)

pub last_zero : (number count sum i : ℕ) → count ≤ i → i ≤ count → sum < 2 ^ 64 → sum ≡ number * 10 ^ i → (number * 10 ^ count < 2 ^ 64) × (sum ≡ number * 10 ^ count)
last_zero number count sum i low high small so_far =
    let same : i ≡ count = omega arith in
    let whole = rw same at so_far in
    (omega (arith, whole, small), whole)

-- a fraction with fewer digits has zeros behind it
pub filled_short : (count : ℕ) (f : List ℕ) → length f ≤ count → filled count f ≡ f ++ replicate (count - length f) 48
filled_short count f short =
    let more = count - length f in
    let whole : count ≡ length f + more = omega arith in
    ap (λ (n : ℕ). take n (f ++ replicate {A = ℕ} count 48)) whole ∙ (take-append-add f (replicate count 48) more ∙ ap (λ (zs : List ℕ). f ++ zs) (take-replicate more count 48 (omega arith)))

-- and one with more is cut
pub filled_long : (count : ℕ) (f : List ℕ) → count ≤ length f → filled count f ≡ take count f
filled_long count f long = take-append-le count f (replicate count 48) long

pub fraction_zeros : (number count : ℕ) (f : List ℕ) → length f ≤ count → number * 10 ^ count + digits_value (filled count f) ≡ (number * 10 ^ length f + digits_value f) * 10 ^ (count - length f)
fraction_zeros number count f short =
    let zeros = count - length f in
    let power : 10 ^ count ≡ 10 ^ length f * 10 ^ zeros = ap (λ (n : ℕ). 10 ^ n) (omega arith) ∙ pow-add 10 (length f) zeros in
    let value : digits_value (filled count f) ≡ digits_value f * 10 ^ zeros + 0 = ap digits_value (filled_short count f short) ∙ (digits_value-append f (replicate zeros 48) ∙ rw (length-replicate {A = ℕ} zeros 48, digits_value-zeros zeros) refl) in
    rw (power, value) (joined number (10 ^ length f) (digits_value f) (10 ^ zeros))
  where
    joined : (n p v q : ℕ) → n * (p * q) + (v * q + 0) ≡ (n * p + v) * q
    joined n p v q = omega arith

pub fraction_some : (r : Option ℕ) (number count sum : ℕ) (f : List ℕ) → length f ≤ count → sum ≡ number * 10 ^ length f + digits_value f
    → SomeIff r (sum * 10 ^ (count - length f) < 2 ^ 64) (sum * 10 ^ (count - length f))
    → SomeIff r (number * 10 ^ count + digits_value (filled count f) < 2 ^ 64) (number * 10 ^ count + digits_value (filled count f))
fraction_some r number count sum f short is answer =
    let same : number * 10 ^ count + digits_value (filled count f) ≡ sum * 10 ^ (count - length f) = fraction_zeros number count f short ∙ ap (λ (n : ℕ). n * 10 ^ (count - length f)) (sym is) in
    rw same answer

pub fraction_over : (number count : ℕ) (f : List ℕ) → length f ≤ count → (number * 10 ^ length f + digits_value f < 2 ^ 64 → ⊥) → number * 10 ^ count + digits_value (filled count f) < 2 ^ 64 → ⊥
fraction_over number count f short over small =
    let low = at_most (number * 10 ^ length f + digits_value f) (count - length f) 0 in
    over (omega (arith, low, small, fraction_zeros number count f short))

pub length-filled : (count : ℕ) (f : List ℕ) → length (filled count f) ≡ count
length-filled count f =
    let whole = length-append f (replicate {A = ℕ} count 48) in
    let zeros = length-replicate {A = ℕ} count 48 in
    length-take-le count (f ++ replicate count 48) (omega (arith, whole, zeros))

-- digits with a fraction behind them
pub digits_value-filled : (whole : List ℕ) (count : ℕ) (f : List ℕ) → digits_value (whole ++ filled count f) ≡ digits_value whole * 10 ^ count + digits_value (filled count f)
digits_value-filled whole count f = digits_value-append whole (filled count f) ∙ ap (λ (n : ℕ). digits_value whole * 10 ^ n + digits_value (filled count f)) (length-filled count f)

pub units_some : (r : Option ℕ) (whole : List ℕ) (count sum : ℕ) (f : List ℕ) → sum ≡ 0 * 10 ^ length whole + digits_value whole
    → SomeIff r (sum * 10 ^ count + digits_value (filled count f) < 2 ^ 64) (sum * 10 ^ count + digits_value (filled count f))
    → SomeIff r (digits_value (whole ++ filled count f) < 2 ^ 64) (digits_value (whole ++ filled count f))
units_some r whole count sum f is answer =
    let size : digits_value whole ≡ sum = omega (arith, is) in
    let same : digits_value (whole ++ filled count f) ≡ sum * 10 ^ count + digits_value (filled count f) = digits_value-filled whole count f ∙ ap (λ (n : ℕ). n * 10 ^ count + digits_value (filled count f)) size in
    rw same answer

pub units_over : (whole : List ℕ) (count : ℕ) (f : List ℕ) → (0 * 10 ^ length whole + digits_value whole < 2 ^ 64 → ⊥) → digits_value (whole ++ filled count f) < 2 ^ 64 → ⊥
units_over whole count f over small =
    let low = at_most (digits_value whole) count (digits_value (filled count f)) in
    over (omega (arith, low, small, digits_value-filled whole count f))

pub some_of : {A : Type 0} (r : Option A) (P : Type 0) (v : A) → SomeIff r P v → P → IsSome r
some_of None P v answer holds = absurd (answer holds)
some_of (Some x) P v answer holds = refl

pub take_digits : (n : ℕ) (ds : List ℕ) → list_all is_ascii_digit ds ≡ true → list_all is_ascii_digit (take n ds) ≡ true
take_digits zero ds are = refl
take_digits (suc n) [] are = refl
take_digits (suc n) (d ∷ ds) are = rw (left_true (is_ascii_digit d) (list_all is_ascii_digit ds) are) (take_digits n ds (right_true (is_ascii_digit d) (list_all is_ascii_digit ds) are))

zeros_are : (n : ℕ) → list_all is_ascii_digit (replicate n 48) ≡ true
zeros_are zero = refl
zeros_are (suc n) = zeros_are n

append_are : (xs ys : List ℕ) → list_all is_ascii_digit xs ≡ true → list_all is_ascii_digit ys ≡ true → list_all is_ascii_digit (xs ++ ys) ≡ true
append_are [] ys first second = second
append_are (x ∷ xs) ys first second = rw (left_true (is_ascii_digit x) (list_all is_ascii_digit xs) first) (append_are xs ys (right_true (is_ascii_digit x) (list_all is_ascii_digit xs) first) second)

-- a fraction of digits is filled up with digits
pub filled_bound : (count : ℕ) (f : List ℕ) → list_all is_ascii_digit f ≡ true → digits_value (filled count f) < 10 ^ count
filled_bound count f are =
    let low = digits_bound (filled count f) (take_digits count (f ++ replicate count 48) (append_are f (replicate count 48) are (zeros_are count))) in
    rw (length-filled count f) at low

pub some_value : {A : Type 0} (r : Option A) (P : Type 0) (v x : A) → SomeIff r P v → r ≡ Some x → x ≡ v
some_value None P v x answer is = absurd (cc)
some_value (Some y) P v x answer is = let same : y ≡ x = cc in sym same ∙ answer.1

pub few_digits : (ds : List ℕ) → length ds ≤ 9 → list_all is_ascii_digit ds ≡ true → 0 * 10 ^ length ds + digits_value ds < 2 ^ 64
few_digits ds few are =
    let power : 10 ^ length ds ≤ 10 ^ 9 = pow-le-pow_right (omega arith) few in
    omega (arith, power, digits_bound ds are)

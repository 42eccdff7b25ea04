-- Texts of days and times of day: their digits, and that their form is ASCII.
use Rattle.std.proofs.Common.{◌≡◌, ℕ, zero, suc, ◌+◌, ◌/◌, ◌%◌, ◌≢◌, eq-eqb, ◌<◌, ◌≤◌, Bool, true, false, ◌&&◌, ◌||◌, ◌==◌, List, [], ◌∷◌, length, take, drop, replicate, refl, subst, arith, ltb, leb, length-drop, codes, Ok, Err, Result}
use Rattle.std.specs.Prelude.{if◌then◌else◌}
use Rattle.std.proofs.lemmas.Bool.Decides.{nat_tests}
use Rattle.std.proofs.lemmas.List.{drop-drop, drop_all, drop_more, take-append-drop}
use Rattle.std.proofs.lemmas.Str.{IsAscii-append}
use Rattle.std.specs.List.{list_all}
use Rattle.std.specs.Char.{is_ascii_digit}
use Rattle.std.specs.Str.{IsAscii, IsUtf8, chars}
use Rattle.sds_value.specs.declared.kind.Value.{Value}
use Rattle.sds_value.specs.declared.kind.Value.TheVariants.{Stamp}
use Rattle.sds_value.specs.declared.refusal.ValueRefusal.{ValueRefusal}
use Rattle.sds_value.specs.declared.refusal.ValueRefusal.TheVariants.{OutOfRange}
use Rattle.sds_value.specs.Digits.{is_digit_text, padded}
use Rattle.sds_value.specs.Stamps.{is_like, begins_like, is_subsecond, has_stamp_form, is_stamp_text, is_date, is_time, year_in, month_in, day_in, hour_in, minute_in, second_in, day_value, nano_value, subsecond_text}
use Rattle.sds_value.specs.Values.{stamp_of}
use Rattle.sds_value.proofs.Characters.{left_true, right_true, all_small, digit_small, same_of, back_of}
use Rattle.sds_value.proofs.Decimals.{cons_ascii}

abbrev pub spaced : List ℕ
spaced = codes "0000-00-00 00:00:00"

abbrev pub with_t : List ℕ
with_t = codes "0000-00-00T00:00:00"

begins_drop : (i : ℕ) (ps cs : List ℕ) → begins_like ps cs ≡ true → begins_like (drop i ps) (drop i cs) ≡ true
begins_drop zero ps cs is = is
begins_drop (suc i) [] cs is = refl
begins_drop (suc i) (p ∷ ps) [] is = absurd (cc)
begins_drop (suc i) (p ∷ ps) (c ∷ cs) is = begins_drop i ps cs (right_true (is_like p c) (begins_like ps cs) is)

like_digit : (p c : ℕ) → p ≡ 48 → is_like p c ≡ true → is_ascii_digit c ≡ true
like_digit p c same is = rw same at is

begins_digits : (n : ℕ) (ps cs : List ℕ) → take n ps ≡ replicate n 48 → begins_like ps cs ≡ true → (list_all is_ascii_digit (take n cs) ≡ true) × (n ≤ length cs)
begins_digits zero ps cs same is = (refl, omega arith)
begins_digits (suc n) [] cs same is = absurd (cc)
begins_digits (suc n) (p ∷ ps) [] same is = absurd (cc)
begins_digits (suc n) (p ∷ ps) (c ∷ cs) same is =
    let first : p ≡ 48 = cc in
    let others : take n ps ≡ replicate n 48 = cc in
    let rest = begins_digits n ps cs others (right_true (is_like p c) (begins_like ps cs) is) in
    (rw (like_digit p c first (left_true (is_like p c) (begins_like ps cs) is)) rest.0, omega (arith, rest.1))

digits_from : (pattern text : List ℕ) (i n : ℕ) → 1 ≤ n → begins_like pattern text ≡ true → take n (drop i pattern) ≡ replicate n 48 → (list_all is_ascii_digit (take n (drop i text)) ≡ true) × (i + n ≤ length text)
digits_from pattern text i n some is zeros =
    let here = begins_digits n (drop i pattern) (drop i text) zeros (begins_drop i pattern text is) in
    (here.0, omega (arith, here.1, length-drop i text))

pub either : {P : Type 0} (a b : Bool) → (a || b) ≡ true → (a ≡ true → P) → (b ≡ true → P) → P
either true b is first second = first refl
either false b is first second = second is

-- the digits at a place of the form
pub form_digits : (text : List ℕ) (i n : ℕ) → has_stamp_form text ≡ true → 1 ≤ n → take n (drop i spaced) ≡ replicate n 48 → take n (drop i with_t) ≡ replicate n 48
    → (list_all is_ascii_digit (take n (drop i text)) ≡ true) × (i + n ≤ length text)
form_digits text i n is some first second =
    either (begins_like spaced text) (begins_like with_t text) (left_true (begins_like spaced text || begins_like with_t text) (is_subsecond (drop 19 text)) is)
    (λ here. digits_from spaced text i n some here first) (λ here. digits_from with_t text i n some here second)

subsecond_digits : (rest : List ℕ) → is_subsecond rest ≡ true → list_all is_ascii_digit (drop 1 rest) ≡ true
subsecond_digits [] is = refl
subsecond_digits (c ∷ cs) is =
    let behind = right_true (c == 46) (leb (length cs) 9 && is_digit_text cs) is in
    right_true (ltb 0 (length cs)) (list_all is_ascii_digit cs) (right_true (leb (length cs) 9) (is_digit_text cs) behind)

-- the digits of the fraction
pub fraction_digits : (text : List ℕ) → has_stamp_form text ≡ true → list_all is_ascii_digit (drop 20 text) ≡ true
fraction_digits text is =
    let same : drop 1 (drop 19 text) ≡ drop 20 text = drop-drop 1 19 text in
    rw same at (subsecond_digits (drop 19 text) (right_true (begins_like spaced text || begins_like with_t text) (is_subsecond (drop 19 text)) is))

like_small_by : (p c : ℕ) (b : Bool) → (p == 48) ≡ b → p < 128 → (if b then is_ascii_digit c else c == p) ≡ true → c < 128
like_small_by p c true at small is = digit_small c is
like_small_by p c false at small is = same_small c p small is
  where
    same_small : (c p : ℕ) → p < 128 → (c == p) ≡ true → c < 128
    same_small c p small is = grind (arith, nat_tests)

begins_ascii : (ps cs : List ℕ) → IsAscii ps → begins_like ps cs ≡ true → IsAscii (take (length ps) cs)
begins_ascii [] cs small is = λ i. omega arith
begins_ascii (p ∷ ps) [] small is = absurd (cc)
begins_ascii (p ∷ ps) (c ∷ cs) small is =
    cons_ascii c (take (length ps) cs) (like_small_by p c (p == 48) refl (small 0) (left_true (is_like p c) (begins_like ps cs) is)) (begins_ascii ps cs (λ i. small (suc i)) (right_true (is_like p c) (begins_like ps cs) is))

subsecond_ascii : (rest : List ℕ) → is_subsecond rest ≡ true → IsAscii rest
subsecond_ascii [] is = λ i. omega arith
subsecond_ascii (c ∷ cs) is = cons_ascii c cs (point c (left_true (c == 46) (leb (length cs) 9 && is_digit_text cs) is)) (all_small is_ascii_digit digit_small cs (subsecond_digits (c ∷ cs) is))
  where
    point : (c : ℕ) → (c == 46) ≡ true → c < 128
    point c is = grind (arith, nat_tests)

small_test : (c : ℕ) → ltb c 128 ≡ true → c < 128
small_test c is = grind (arith, nat_tests)

form_ascii : (text : List ℕ) → has_stamp_form text ≡ true → IsAscii text
form_ascii text is =
    let front : IsAscii (take 19 text) = either (begins_like spaced text) (begins_like with_t text) (left_true (begins_like spaced text || begins_like with_t text) (is_subsecond (drop 19 text)) is)
    (λ here. begins_ascii spaced text (all_small (λ (c : ℕ). ltb c 128) small_test spaced refl) here) (λ here. begins_ascii with_t text (all_small (λ (c : ℕ). ltb c 128) small_test with_t refl) here) in
    let rest = subsecond_ascii (drop 19 text) (right_true (begins_like spaced text || begins_like with_t text) (is_subsecond (drop 19 text)) is) in
    subst IsAscii (take-append-drop 19 text) (IsAscii-append (take 19 text) (drop 19 text) front rest)

stamp_ascii : (text : List ℕ) → is_stamp_text text ≡ true → IsAscii text
stamp_ascii text is = form_ascii text (left_true (has_stamp_form text) (is_date (year_in text) (month_in text) (day_in text) && is_time (hour_in text) (minute_in text) (second_in text)) is)

abbrev stamp_inside : List ℕ → Result Value ValueRefusal
stamp_inside text = if leb 1 (year_in text) then Ok (Stamp (day_value text) (nano_value text)) else Err OutOfRange

pub stamp_same : (bs : List ℕ) → IsUtf8 bs → stamp_of bs ≡ stamp_of (chars bs)
stamp_same bs utf8 = same_of is_stamp_text stamp_inside stamp_ascii bs utf8

pub stamp_chars : (text : List ℕ) (value : Value) → stamp_of text ≡ Ok value → stamp_of (chars text) ≡ Ok value
stamp_chars = back_of is_stamp_text stamp_inside stamp_ascii

neq_test : (n : ℕ) → n ≢ 0 → (n == 0) ≡ false
neq_test n some = grind (arith, nat_tests)

-- bytes that end before the pattern
pub too_short : (ps cs : List ℕ) (i : ℕ) (b : Bool) → i < length ps → length cs ≤ i → begins_like (drop i ps) (drop i cs) ≡ b → false ≡ b
too_short ps cs i b more end is =
    let none : drop i cs ≡ [] = drop_all i cs end in
    rw (none, drop_more ps i 0 more) at is

pub milli_text : (nano : ℕ) → nano % 1000000 ≡ 0 → padded 3 (nano % 1000000000 / 1000000) ≡ subsecond_text nano
milli_text nano none = let test : (nano % 1000000 == 0) ≡ true = eq-eqb _ _ none in rw test refl

pub micro_text : (nano : ℕ) → nano % 1000000 ≢ 0 → nano % 1000 ≡ 0 → padded 6 (nano % 1000000000 / 1000) ≡ subsecond_text nano
micro_text nano some none =
    let first : (nano % 1000000 == 0) ≡ false = neq_test (nano % 1000000) some in
    let second : (nano % 1000 == 0) ≡ true = eq-eqb _ _ none in
    rw (first, second) refl

pub nano_text : (nano : ℕ) → nano % 1000000 ≢ 0 → nano % 1000 ≢ 0 → padded 9 (nano % 1000000000) ≡ subsecond_text nano
nano_text nano some more =
    let first : (nano % 1000000 == 0) ≡ false = neq_test (nano % 1000000) some in
    let second : (nano % 1000 == 0) ≡ false = neq_test (nano % 1000) more in
    rw (first, second) refl

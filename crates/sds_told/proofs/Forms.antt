-- A pair says an ack exactly where its texts have the form of one.
use Rattle.std.proofs.Common.{◌≡◌, ◌≤◌, ℕ, Bool, true, false, ◌&&◌, ◌==◌, not, nat_le, if◌then◌else◌, List, [], ◌∷◌, ◌++◌, length, take, drop, Option, Some, None, refl, sym, ap, ◌∙◌, arith, eqb-true}
use Rattle.std.specs.Prelude.{codes}
use Rattle.std.specs.Char.{is_ascii_digit}
use Rattle.std.specs.Cmp.Lexicographic.{pointwise}
use Rattle.std.specs.List.{list_all, starts_with}
use Rattle.std.specs.Option.{option_and_then, option_map}
use Rattle.std.specs.Str.{bytes_eq}
use Rattle.std.proofs.lemmas.Bool.Decides.{nat_tests}
use Rattle.std.proofs.lemmas.Slice.Eq.{bytes_eq-Decides}
use Rattle.sds_value.proofs.Characters.{left_true, right_true}
use Rattle.sds_value.specs.Digits.{digits_value, is_digit_text}
use Rattle.sds_types.specs.Limits.{most_count}
use Rattle.sds_types.specs.declared.ack.Ack.{Ack}
use Rattle.sds_expressions.specs.Pieces.{behind, split_at}
use Rattle.sds_expressions.proofs.Dividing.{Parts, divides, parts}
use Rattle.sds_history.specs.history.SoundParts.{most_rule}
use Rattle.sds_told.specs.Replies.{ack_if, ack_of, named_batch, both, error_in, told_error, most_row, number_in}
use Rattle.sds_told.specs.Saying.{Says, SaysBatch, SaysError, SaysRule, IsNumberText}
use Rattle.sds_told.proofs.ReadBack.{at_most, pointless, weaker}

some_of : {A : Type 0} {a b : A} → Some a ≡ Some b → a ≡ b
some_of {A} {a} {b} same = cc

none_some : {A : Type 0} {a : A} → None ≡ Some a → ⊥
none_some {A} {a} same = absurd (cc)

-- ---- numbers

writes : (least most : ℕ) (text : List ℕ) (number : ℕ) → number_in least most text ≡ Some number → IsNumberText least most text number
writes least most text number is = by (is_digit_text text) refl
  where
    inside : (n : ℕ) (t : Bool) → (nat_le least n && nat_le n most) ≡ t → (if t then Some n else None) ≡ Some number → (n ≡ number) × (least ≤ n) × (n ≤ most)
    inside n true test got = (some_of got, at_most least n (left_true _ _ test), at_most n most (right_true _ _ test))
    inside n false test got = absurd (none_some got)

    by : (b : Bool) → is_digit_text text ≡ b → IsNumberText least most text number
    by false digits = absurd (let e = rw digits at is in none_some e)
    by true digits =
        let got = rw digits at is in
        let (same, low, high) = inside (digits_value text) (nat_le least (digits_value text) && nat_le (digits_value text) most) refl got in
        record { digits = digits; value = same; low = rw (← same) low; high = rw (← same) high }

read : (least most : ℕ) (text : List ℕ) (number : ℕ) → IsNumberText least most text number → number_in least most text ≡ Some number
read least most text number is =
    let low : nat_le least number ≡ true = let l = is.low in grind (arith, nat_tests) in
    let high : nat_le number most ≡ true = let h = is.high in grind (arith, nat_tests) in
    rw (is.digits, is.value, low, high) refl

-- ---- prefixes

front_is : (needle xs : List ℕ) → pointwise (λ a b. a == b) needle (take (length needle) xs) ≡ true → xs ≡ needle ++ drop (length needle) xs
front_is [] xs is = refl
front_is (n ∷ needle) [] is = absurd (cc)
front_is (n ∷ needle) (x ∷ xs) is =
    let first = eqb-true n x (left_true (n == x) (pointwise (λ a b. a == b) needle (take (length needle) xs)) is) in
    let rest = front_is needle xs (right_true (n == x) (pointwise (λ a b. a == b) needle (take (length needle) xs)) is) in
    λ i. sym first i ∷ rest i

behind_back : (prefix text rest : List ℕ) → behind prefix text ≡ Some rest → text ≡ prefix ++ rest
behind_back prefix text rest is = by (starts_with (λ a b. a == b) text prefix) refl
  where
    by : (b : Bool) → starts_with (λ a b. a == b) text prefix ≡ b → text ≡ prefix ++ rest
    by true begins = let got = rw begins at is in front_is prefix text begins ∙ ap (λ (l : List ℕ). prefix ++ l) (some_of got)
    by false begins = absurd (let got = rw begins at is in none_some got)

-- ---- batches

batch_says : (name : List ℕ) (batch : ℕ) → named_batch name ≡ Some batch → SaysBatch name batch
batch_says name batch is = by (behind (codes "batch-") name) refl is
  where
    by : (o : Option (List ℕ)) → behind (codes "batch-") name ≡ o → option_and_then (number_in 1 most_count) o ≡ Some batch → SaysBatch name batch
    by None found got = absurd (none_some got)
    by (Some text) found got = record { digits = text; form = behind_back (codes "batch-") name text found; number = writes 1 most_count text batch got }

batch_read : (name : List ℕ) (batch : ℕ) → SaysBatch name batch → named_batch name ≡ Some batch
batch_read name batch is = ap named_batch is.form ∙ read 1 most_count is.digits batch is.number

-- ---- errors

numbers_say : (row rule : List ℕ) (error : ℕ × ℕ) → error_in (row, rule) ≡ Some error → IsNumberText 0 most_row row error.0 × IsNumberText 1 most_rule rule error.1
numbers_say row rule error is = by (number_in 0 most_row row) refl (number_in 1 most_rule rule) refl is
  where
    by : (a : Option ℕ) → number_in 0 most_row row ≡ a → (b : Option ℕ) → number_in 1 most_rule rule ≡ b → both a b ≡ Some error → IsNumberText 0 most_row row error.0 × IsNumberText 1 most_rule rule error.1
    by None first b second got = absurd (none_some got)
    by (Some m) first None second got = absurd (none_some got)
    by (Some m) first (Some n) second got =
        let same = some_of got in
        (writes 0 most_row row error.0 (first ∙ ap (λ (e : ℕ × ℕ). Some e.0) same), writes 1 most_rule rule error.1 (second ∙ ap (λ (e : ℕ × ℕ). Some e.1) same))

rule_says : (value : List ℕ) (error : ℕ × ℕ) → option_and_then error_in (option_and_then (split_at 46) (behind (codes "er.") value)) ≡ Some error → SaysRule value error.0 error.1
rule_says value error is = by (behind (codes "er.") value) refl is
  where
    cut : (rest : List ℕ) → value ≡ codes "er." ++ rest → (o : Option (List ℕ × List ℕ)) → Parts 46 rest o → option_and_then error_in o ≡ Some error → SaysRule value error.0 error.1
    cut rest form None divided got = absurd (none_some got)
    cut rest form (Some (row, rule)) divided got =
        let numbers = numbers_say row rule error got in
        record { first = row; second = rule; form = form ∙ ap (λ (l : List ℕ). codes "er." ++ l) divided.is; row_is = numbers.0; rule_is = numbers.1 }

    by : (o : Option (List ℕ)) → behind (codes "er.") value ≡ o → option_and_then error_in (option_and_then (split_at 46) o) ≡ Some error → SaysRule value error.0 error.1
    by None found got = absurd (none_some got)
    by (Some rest) found got = cut rest (behind_back (codes "er.") value rest found) (split_at 46 rest) (parts 46 rest) got

error_says : (value : List ℕ) (error : Option (ℕ × ℕ)) → told_error value ≡ Some error → SaysError value error
error_says value error is = by (bytes_eq value (codes "ok")) refl
  where
    told : (o : Option (ℕ × ℕ)) (e : Option (ℕ × ℕ)) → option_and_then error_in (option_and_then (split_at 46) (behind (codes "er.") value)) ≡ o → option_map Some o ≡ Some e → SaysError value e
    told None e found got = absurd (none_some got)
    told (Some o) None found got = absurd (let f = some_of got in cc)
    told (Some o) (Some e) found got = rule_says value e (found ∙ some_of got)

    plain : (e : Option (ℕ × ℕ)) → bytes_eq value (codes "ok") ≡ true → Some None ≡ Some e → SaysError value e
    plain None same got = (bytes_eq-Decides value (codes "ok")).0 same
    plain (Some e) same got = absurd (let f = some_of got in cc)

    by : (b : Bool) → bytes_eq value (codes "ok") ≡ b → SaysError value error
    by true same = plain error same (rw same at is)
    by false same = told (option_and_then error_in (option_and_then (split_at 46) (behind (codes "er.") value))) error refl (rw same at is)

rule_read : (value : List ℕ) (row rule : ℕ) → SaysRule value row rule → told_error value ≡ Some (Some (row, rule))
rule_read value row rule is =
    let digits = right_true _ (list_all is_ascii_digit is.first) is.row_is.digits in
    let cut = divides 46 is.first is.second (weaker is_ascii_digit (λ c. not (c == 46)) pointless is.first digits) refl in
    let first = read 0 most_row is.first row is.row_is in
    let second = read 1 most_rule is.second rule is.rule_is in
    ap told_error is.form ∙ rw (cut, first, second) refl

error_read : (value : List ℕ) (error : Option (ℕ × ℕ)) → SaysError value error → told_error value ≡ Some error
error_read value None is = ap told_error is
error_read value (Some (row, rule)) is = rule_read value row rule is

-- ---- pairs

pub says : (name value : List ℕ) (ack : Ack) → ack_of name value ≡ Some ack → Says name value ack
says name value ack is = by (named_batch name) refl (told_error value) refl is
  where
    by : (b : Option ℕ) → named_batch name ≡ b → (e : Option (Option (ℕ × ℕ))) → told_error value ≡ e → ack_if b e ≡ Some ack → Says name value ack
    by None first e second got = absurd (none_some got)
    by (Some batch) first None second got = absurd (none_some got)
    by (Some batch) first (Some error) second got =
        let same = some_of got in
        (batch_says name ack.batch (first ∙ ap (λ (a : Ack). Some a.batch) same), error_says value ack.error (second ∙ ap (λ (a : Ack). Some a.error) same))

pub is_said : (name value : List ℕ) (ack : Ack) → Says name value ack → ack_of name value ≡ Some ack
is_said name value ack is = rw (batch_read name ack.batch is.0, error_read value ack.error is.1) refl

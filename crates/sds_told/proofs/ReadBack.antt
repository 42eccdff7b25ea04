-- What is written of acks reads back.
use Rattle.std.proofs.Common.{◌≡◌, ◌≢◌, ℕ, ◌+◌, ◌<◌, ◌≤◌, ◌^◌, Bool, true, ◌&&◌, nat_le, not, ◌==◌, List, [], ◌∷◌, ◌++◌, length, map, Option, Some, None, Ok, All, refl, sym, ap, ◌∙◌, arith, append_assoc}
use Rattle.std.specs.Prelude.{codes}
use Rattle.std.specs.Char.{is_ascii_digit}
use Rattle.std.specs.Fmt.{decimal}
use Rattle.std.specs.List.{list_all}
use Rattle.std.specs.Option.{option_map_or}
use Rattle.std.specs.Str.Lossy.{utf8_lossy}
use Rattle.std.proofs.lemmas.Bool.Decides.{nat_tests}
use Rattle.std.proofs.lemmas.Fmt.{decimal_nonempty, digits_decimal, digits_value-decimal}
use Rattle.std.proofs.lemmas.List.Elements.{All-nil, All-cons, All-append}
use Rattle.std.proofs.lemmas.Str.{IsUtf8-from_ascii, utf8_lossy-IsUtf8}
use Rattle.form_urlencoded.specs.Form.{decode, IsPlain, is_unchanged, raw_pairs, split_once, split_pair}
use Rattle.form_urlencoded.proofs.FormLemmas.{decode_plain, raw_pairs-nil, raw_pairs_first, split_once_before_at, split_once_after_at, split_once_before_none, split_once_after_none}
use Rattle.sds_value.proofs.Characters.{all_small, left_true, right_true}
use Rattle.sds_value.proofs.Padding.{all_append}
use Rattle.sds_types.specs.Limits.{most_count}
use Rattle.sds_types.specs.declared.ack.Ack.{Ack}
use Rattle.sds_expressions.proofs.Dividing.{divides}
use Rattle.sds_history.specs.history.SoundParts.{most_rule}
use Rattle.sds_screen.specs.Words.{ack_word, error_words, reply_text}
use Rattle.sds_told.specs.Replies.{ack_in, acks_of, named_batch, told_error, is_readable_ack, is_readable_error, most_row, number_in, pair_texts, pairs}
use Rattle.sds_told.proofs.Numbers.{form, own}
use Rattle.sds_told.proofs.Turns.{acks_from, from_first, from_more}

abbrev name_of : Ack → List ℕ
name_of ack = codes "batch-" ++ decimal ack.batch

abbrev value_of : Option (ℕ × ℕ) → List ℕ
value_of error = option_map_or error_words error (codes "ok")

abbrev pair_of : Ack → List ℕ × List ℕ
pair_of ack = (name_of ack, value_of ack.error)

-- ---- what a pair says

pub at_most : (m n : ℕ) → nat_le m n ≡ true → m ≤ n
at_most m n is = grind (arith, nat_tests)

number_back : (least most n : ℕ) → nat_le least n ≡ true → nat_le n most ≡ true → most < 2 ^ 64 → number_in least most (decimal n) ≡ Some n
number_back least most n low high small =
    let below = at_most n most high in
    let fits : n < 2 ^ 64 = omega (arith, below, small) in
    rw (form (decimal n) (digits_decimal own n fits) (decimal_nonempty n fits), digits_value-decimal own n fits, low, high) refl

batch_back : (batch : ℕ) → (nat_le 1 batch && nat_le batch most_count) ≡ true → named_batch (codes "batch-" ++ decimal batch) ≡ Some batch
batch_back batch is = number_back 1 most_count batch (left_true _ _ is) (right_true _ _ is) (omega arith)

-- a digit is no point
pub pointless : (c : ℕ) → is_ascii_digit c ≡ true → not (c == 46) ≡ true
pointless c is = grind (arith, nat_tests)

pub weaker : (p q : ℕ → Bool) → ((c : ℕ) → p c ≡ true → q c ≡ true) → (xs : List ℕ) → list_all p xs ≡ true → list_all q xs ≡ true
weaker p q by [] is = refl
weaker p q by (x ∷ xs) is =
    let here = by x (left_true (p x) (list_all p xs) is) in
    let later = weaker p q by xs (right_true (p x) (list_all p xs) is) in
    rw (here, later) refl

row_fits : (n : ℕ) → nat_le n most_row ≡ true → n < 2 ^ 64
row_fits n is = let below = at_most n most_row is in omega (arith, below)

rule_fits : (n : ℕ) → nat_le n most_rule ≡ true → n < 2 ^ 64
rule_fits n is = let below = at_most n most_rule is in omega (arith, below)

error_back : (row rule : ℕ) → is_readable_error (row, rule) ≡ true → told_error (error_words (row, rule)) ≡ Some (Some (row, rule))
error_back row rule is =
    let row_is = left_true (nat_le row most_row) (nat_le 1 rule && nat_le rule most_rule) is in
    let rule_is = right_true (nat_le row most_row) (nat_le 1 rule && nat_le rule most_rule) is in
    let digits = digits_decimal own row (row_fits row row_is) in
    let parts = divides 46 (decimal row) (decimal rule) (weaker is_ascii_digit (λ c. not (c == 46)) pointless (decimal row) digits) refl in
    let first = number_back 0 most_row row (search (arith)) row_is (omega arith) in
    let second = number_back 1 most_rule rule (left_true _ _ rule_is) (right_true _ _ rule_is) (omega arith) in
    rw (parts, first, second) refl

value_back : (error : Option (ℕ × ℕ)) → option_map_or is_readable_error error true ≡ true → told_error (value_of error) ≡ Some error
value_back None is = refl
value_back (Some (row, rule)) is = error_back row rule is

ack_back : (ack : Ack) → is_readable_ack ack ≡ true → ack_in (pair_of ack) ≡ Some ack
ack_back ack is =
    let batch_is = left_true (nat_le 1 ack.batch && nat_le ack.batch most_count) (option_map_or is_readable_error ack.error true) is in
    let error_is = right_true (nat_le 1 ack.batch && nat_le ack.batch most_count) (option_map_or is_readable_error ack.error true) is in
    rw (batch_back ack.batch batch_is, value_back ack.error error_is) refl

-- ---- which bytes are written

kept_digit : (c : ℕ) → is_ascii_digit c ≡ true → is_unchanged c ≡ true
kept_digit c is = grind (arith, nat_tests)

kept_number : (n : ℕ) → n < 2 ^ 64 → list_all is_unchanged (decimal n) ≡ true
kept_number n fits = weaker is_ascii_digit is_unchanged kept_digit (decimal n) (digits_decimal own n fits)

kept_name : (ack : Ack) → is_readable_ack ack ≡ true → list_all is_unchanged (name_of ack) ≡ true
kept_name ack is =
    let both = left_true (nat_le 1 ack.batch && nat_le ack.batch most_count) (option_map_or is_readable_error ack.error true) is in
    let most = at_most ack.batch most_count (right_true (nat_le 1 ack.batch) (nat_le ack.batch most_count) both) in
    kept_number ack.batch (omega (arith, most))

kept_value : (error : Option (ℕ × ℕ)) → option_map_or is_readable_error error true ≡ true → list_all is_unchanged (value_of error) ≡ true
kept_value None is = refl
kept_value (Some (row, rule)) is =
    let row_is = left_true (nat_le row most_row) (nat_le 1 rule && nat_le rule most_rule) is in
    let rule_is = right_true (nat_le 1 rule) (nat_le rule most_rule) (right_true (nat_le row most_row) (nat_le 1 rule && nat_le rule most_rule) is) in
    all_append is_unchanged (decimal row) (46 ∷ decimal rule) (kept_number row (row_fits row row_is)) (kept_number rule (rule_fits rule rule_is))

holds : (P : ℕ → Type 0) → ((c : ℕ) → is_unchanged c ≡ true → P c) → (xs : List ℕ) → list_all is_unchanged xs ≡ true → All P xs
holds P by [] is = All-nil P
holds P by (x ∷ xs) is = All-cons P x xs (by x (left_true _ _ is)) (holds P by xs (right_true _ _ is))

no_joint : (c : ℕ) → is_unchanged c ≡ true → c ≢ 38
no_joint c is e = grind (arith, nat_tests)

no_equals : (c : ℕ) → is_unchanged c ≡ true → c ≢ 61
no_equals c is e = grind (arith, nat_tests)

plain : (c : ℕ) → is_unchanged c ≡ true → IsPlain c
plain c is = (λ plus. grind (arith, nat_tests), λ percent. grind (arith, nat_tests))

ascii : (c : ℕ) → is_unchanged c ≡ true → c < 128
ascii c is = grind (arith, nat_tests)

-- such a text stands for itself
text_back : (xs : List ℕ) → list_all is_unchanged xs ≡ true → utf8_lossy (decode xs) ≡ xs
text_back xs kept = ap utf8_lossy (decode_plain xs (holds IsPlain plain xs kept)) ∙ utf8_lossy-IsUtf8 xs (IsUtf8-from_ascii xs (all_small is_unchanged ascii xs kept))

texts_back : (ack : Ack) → is_readable_ack ack ≡ true → pair_texts (pair_of ack) ≡ pair_of ack
texts_back ack is =
    let name = text_back (name_of ack) (kept_name ack is) in
    let value = text_back (value_of ack.error) (kept_value ack.error (right_true (nat_le 1 ack.batch && nat_le ack.batch most_count) (option_map_or is_readable_error ack.error true) is)) in
    λ i. (name i, value i)

-- ---- the pairs of a reply

split_back : (ack : Ack) → is_readable_ack ack ≡ true → split_pair (ack_word ack) ≡ pair_of ack
split_back ack is =
    let none = holds (λ c. c ≢ 61) no_equals (name_of ack) (kept_name ack is) in
    let first = split_once_before_at 61 (name_of ack) (value_of ack.error) none in
    let second = split_once_after_at 61 (name_of ack) (value_of ack.error) none in
    λ i. (first i, second i)

no_joints : (ack : Ack) → is_readable_ack ack ≡ true → All (λ c. c ≢ 38) (ack_word ack)
no_joints ack is =
    let P : ℕ → Type 0 = λ c. c ≢ 38 in
    let name = holds P no_joint (name_of ack) (kept_name ack is) in
    let value = holds P no_joint (value_of ack.error) (kept_value ack.error (right_true (nat_le 1 ack.batch && nat_le ack.batch most_count) (option_map_or is_readable_error ack.error true) is)) in
    All-append P (name_of ack) (61 ∷ value_of ack.error) name (All-cons P 61 (value_of ack.error) (λ e. omega arith) value)

first_back : (ack : Ack) (whole rest : List ℕ) → is_readable_ack ack ≡ true → (split_once 38 whole).0 ≡ ack_word ack → (split_once 38 whole).1 ≡ rest → raw_pairs whole ≡ pair_of ack ∷ raw_pairs rest
first_back ack whole rest is before after =
    let some : 0 < length ((split_once 38 whole).0) = rw before (omega arith) in
    raw_pairs_first whole some
    ∙ (ap (λ (x : List ℕ). split_pair x ∷ raw_pairs ((split_once 38 whole).1)) before
    ∙ (ap (λ (y : List ℕ × List ℕ). y ∷ raw_pairs ((split_once 38 whole).1)) (split_back ack is) ∙ ap (λ (z : List ℕ). pair_of ack ∷ raw_pairs z) after))

raw_back : (acks : List Ack) → list_all is_readable_ack acks ≡ true → raw_pairs (reply_text acks) ≡ map pair_of acks
raw_back [] all = raw_pairs-nil
raw_back (ack ∷ []) all =
    let is = left_true (is_readable_ack ack) _ all in
    let none = no_joints ack is in
    first_back ack (ack_word ack) [] is (split_once_before_none 38 (ack_word ack) none) (split_once_after_none 38 (ack_word ack) none)
    ∙ ap (λ (ps : List (List ℕ × List ℕ)). pair_of ack ∷ ps) raw_pairs-nil
raw_back (ack ∷ next ∷ acks) all =
    let is = left_true (is_readable_ack ack) _ all in
    let others = right_true (is_readable_ack ack) _ all in
    let none = no_joints ack is in
    let rest = reply_text (next ∷ acks) in
    first_back ack (ack_word ack ++ 38 ∷ rest) rest is (split_once_before_at 38 (ack_word ack) rest none) (split_once_after_at 38 (ack_word ack) rest none)
    ∙ ap (λ (ps : List (List ℕ × List ℕ)). pair_of ack ∷ ps) (raw_back (next ∷ acks) others)

all_texts : (acks : List Ack) → list_all is_readable_ack acks ≡ true → map pair_texts (map pair_of acks) ≡ map pair_of acks
all_texts [] all = refl
all_texts (ack ∷ acks) all =
    let one = texts_back ack (left_true (is_readable_ack ack) _ all) in
    let others = all_texts acks (right_true (is_readable_ack ack) _ all) in
    λ i. one i ∷ others i

all_back : (acks : List Ack) (before : List Ack) (place : ℕ) → list_all is_readable_ack acks ≡ true → acks_from before place (map pair_of acks) ≡ Ok (before ++ acks)
all_back [] before place all = refl
all_back (ack ∷ acks) before place all =
    sym (from_more before place ack (pair_of ack) (map pair_of acks) (ack_back ack (left_true (is_readable_ack ack) _ all)))
    ∙ (all_back acks (before ++ ack ∷ []) (place + 1) (right_true (is_readable_ack ack) _ all) ∙ ap Ok (append_assoc before (ack ∷ []) acks))

pub read_back : (acks : List Ack) → list_all is_readable_ack acks ≡ true → acks_of (pairs (reply_text acks)) ≡ Ok acks
read_back acks all =
    ap (λ (ps : List (List ℕ × List ℕ)). acks_of (map pair_texts ps)) (raw_back acks all)
    ∙ (ap acks_of (all_texts acks all) ∙ (sym (from_first (map pair_of acks)) ∙ all_back acks [] 0 all))

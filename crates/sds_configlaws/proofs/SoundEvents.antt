-- The events of a transform's column: they are letters, which are one byte each.
use Rattle.std.proofs.Common.{◌≡◌, ◌≢◌, ℕ, zero, suc, ◌<◌, ◌≤◌, Bool, true, false, cond, List, [], ◌∷◌, length, refl, subst, All, AllPairs, sym, ap, ◌∙◌, true≢false, ◌&&◌, ◌||◌, ◌==◌, inl, inr, ◌⊎◌, arith}
use Rattle.std.specs.Bool.{IsTrue}
use Rattle.std.specs.List.{list_any}
use Rattle.std.specs.Prelude.{codes, not}
use Rattle.std.specs.Str.{IsAscii, bytes_eq, encode_utf8_all}
use Rattle.std.proofs.lemmas.Bool.Decides.{nat_tests}
use Rattle.std.proofs.lemmas.List.Elements.{All-nil, All-cons}
use Rattle.std.proofs.lemmas.List.Kept.{AllPairs-cons}
use Rattle.std.proofs.lemmas.Slice.Eq.{bytes_eq-Decides}
use Rattle.std.proofs.lemmas.Str.{encodes_same, encodes-IsAscii}
use Rattle.std.proofs.lemmas.Str.Ascii.{IsAscii-nil}
use Rattle.sds_trade.proofs.ReferenceLaws.{both_left, both_right}
use Rattle.sds_trade.specs.rules.ColumnFunctions.{has_letter}
use Rattle.sds_trade.specs.sound.TransformColumns.{AreLetters}
use Rattle.sds_config.specs.Transforms.{are_events, are_letters, has_event, is_star}
use Rattle.sds_configlaws.proofs.Gave.{all_mapped, no_pairs, none_passes}

-- one of two tests passed
either : {G : Type 0} (a b : Bool) → (a || b) ≡ true → (a ≡ true → G) → (b ≡ true → G) → G
either true b is left right = left refl
either false b is left right = right is

-- ASCII
same_number : (a b : ℕ) → (a == b) ≡ true → a ≡ b
same_number a b is = grind (arith, nat_tests)

small : (a b : ℕ) → a < 128 → a ≡ b → b < 128
small a b less same = omega (arith, less, same)

letter_small : (letter : ℕ) → has_event (codes "IUD") letter ≡ true → letter < 128
letter_small letter is =
    either (73 == letter) (85 == letter || (68 == letter || false)) is (λ one. small 73 letter (omega arith) (same_number 73 letter one))
    (λ more. either (85 == letter) (68 == letter || false) more (λ one. small 85 letter (omega arith) (same_number 85 letter one))
    (λ last. either (68 == letter) false last (λ one. small 68 letter (omega arith) (same_number 68 letter one)) (λ none. absurd (true≢false (sym none)))))

ascii_cons : (b : ℕ) (bs : List ℕ) → b < 128 → IsAscii bs → IsAscii (b ∷ bs)
ascii_cons b bs less are zero = less
ascii_cons b bs less are (suc i) = are i

letters_ascii : (letters : List ℕ) → are_letters letters ≡ true → IsAscii letters
letters_ascii [] is = IsAscii-nil
letters_ascii (letter ∷ letters) is =
    let rest : (not (has_event letters letter) && are_letters letters) ≡ true =
    both_right (has_event (codes "IUD") letter) (not (has_event letters letter) && are_letters letters) is in
    ascii_cons letter letters
    (letter_small letter (both_left (has_event (codes "IUD") letter) (not (has_event letters letter) && are_letters letters) is))
    (letters_ascii letters (both_right (not (has_event letters letter)) (are_letters letters) rest))

star_ascii : (events : List ℕ) → is_star events ≡ true → IsAscii events
star_ascii events is = subst IsAscii (sym ((bytes_eq-Decides events (codes "*")).0 is)) (ascii_cons 42 [] (omega arith) IsAscii-nil)

events_ascii : (events : List ℕ) → are_events events ≡ true → IsAscii events
events_ascii [] is = IsAscii-nil
events_ascii (event ∷ events) is = either (is_star (event ∷ events)) (are_letters (event ∷ events)) is
    (λ star. star_ascii (event ∷ events) star) (λ letters. letters_ascii (event ∷ events) letters)

-- the characters of events are their bytes
pub events_same : (text : List ℕ) → are_events (encode_utf8_all text) ≡ true → encode_utf8_all text ≡ text
events_same text is =
    sym (encodes_same text (encode_utf8_all text) (sym (encodes-IsAscii (encode_utf8_all text) (events_ascii (encode_utf8_all text) is))))

-- LETTERS
abbrev Known : ℕ → Type 0
Known letter = IsTrue (has_letter (codes "IUD") letter)

abbrev Apart : ℕ → ℕ → Type 0
Apart a b = a ≢ b

letters_known : (letters : List ℕ) → are_letters letters ≡ true → All Known letters
letters_known [] is = All-nil Known
letters_known (letter ∷ letters) is =
    let rest : (not (has_event letters letter) && are_letters letters) ≡ true =
    both_right (has_event (codes "IUD") letter) (not (has_event letters letter) && are_letters letters) is in
    All-cons Known letter letters (both_left (has_event (codes "IUD") letter) (not (has_event letters letter) && are_letters letters) is)
    (letters_known letters (both_right (not (has_event letters letter)) (are_letters letters) rest))

was_not : (a : Bool) → not a ≡ true → a ≡ false
was_not true is = absurd (true≢false (sym is))
was_not false is = refl

other_letter : (a b : ℕ) → (b == a) ≡ false → a ≢ b
other_letter a b isnt same = grind (arith, nat_tests)

letters_apart : (letters : List ℕ) → are_letters letters ≡ true → AllPairs Apart letters
letters_apart [] is = no_pairs Apart
letters_apart (letter ∷ letters) is =
    let rest : (not (has_event letters letter) && are_letters letters) ≡ true =
    both_right (has_event (codes "IUD") letter) (not (has_event letters letter) && are_letters letters) is in
    AllPairs-cons Apart letter letters
    (all_mapped (λ other. (other == letter) ≡ false) (Apart letter) letters (λ other isnt. other_letter letter other isnt)
    (none_passes (λ other. other == letter) letters
    (was_not (has_event letters letter) (both_left (not (has_event letters letter)) (are_letters letters) rest))))
    (letters_apart letters (both_right (not (has_event letters letter)) (are_letters letters) rest))

one_or_more : (n : ℕ) → 1 ≤ suc n
one_or_more n = omega arith

events_on : (events : List ℕ) → are_events events ≡ true → (events ≡ codes "*") ⊎ AreLetters events
events_on [] is = absurd (true≢false (sym is))
events_on (event ∷ events) is = either (is_star (event ∷ events)) (are_letters (event ∷ events)) is
    (λ star. inl ((bytes_eq-Decides (event ∷ events) (codes "*")).0 star))
    (λ letters. inr (record {
      some = one_or_more (length events);
      known = letters_known (event ∷ events) letters;
      apart = letters_apart (event ∷ events) letters;
    }))

pub events_sound : (text : List ℕ) → are_events (encode_utf8_all text) ≡ true → (text ≡ codes "*") ⊎ AreLetters text
events_sound text is = events_on text (subst (λ t. are_events t ≡ true) (events_same text is) is)

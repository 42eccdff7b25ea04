-- The key of a pair of names tells the pair, since no name has a slash; and a token is made of noise.
use Rattle.std.proofs.Common.{◌≡◌, ◌≢◌, ℕ, ◌*◌, ◌/◌, ◌%◌, ◌<◌, ◌==◌, true, List, [], ◌∷◌, ◌++◌, length, slice_index, refl, sym, ap, subst, ◌∙◌, arith, true≢false, ◌&&◌, All}
use Rattle.std.specs.List.{list_all}
use Rattle.std.specs.Prelude.{nat_le, nat_lt}
use Rattle.std.specs.Str.{encode_utf8_all}
use Rattle.std.proofs.lemmas.List.Elements.{All-nil, All-cons}
use Rattle.std.proofs.lemmas.List.Sums.{AllPass-from_list_all}
use Rattle.std.proofs.lemmas.Str.{encodes_same}
use Rattle.hex.proofs.HexLemmas.{length-encode_with}
use Rattle.hex.specs.Hex.{encode_lower, encode_with, lower_digits}
use Rattle.sds_value.proofs.Bytes.{hex_text}
use Rattle.sds_value.specs.Binaries.{are_bytes}
use Rattle.sds_value.specs.Names.{is_name_character, is_name_text}
use Rattle.sds_batchtext.proofs.PlainLines.{encoded}
use Rattle.sds_history.specs.history.Orders.{pair_key}
use Rattle.sds_history.specs.history.Registrations.{token_of}
use Rattle.sds_history.specs.history.SoundParts.{is_token, is_token_digit}
use Rattle.sds_nodelaws.specs.Asked.{is_noise}
use Rattle.sds_nodelaws.proofs.Lists.{all_in, and_both, and_left, and_right, from_lt, in_last}
use Rattle.sds_nodelaws.proofs.Lists.Either.{left}
use Rattle.sds_nodelaws.proofs.Tests.{same_number}

-- SLASHES. The last one parts a key
abbrev NoSlash : List ℕ → Type 0
NoSlash text = All (λ (c : ℕ). 47 ≢ c) text

no_slash_after : (xs ys rest : List ℕ) → NoSlash rest → rest ≡ xs ++ 47 ∷ ys → ⊥
no_slash_after xs ys rest none same =
    all_in (λ (c : ℕ). 47 ≢ c) 47 (xs ++ 47 ∷ ys) (subst NoSlash same none) (in_last 47 xs (47 ∷ ys) (left refl)) refl

abbrev tail_of : List ℕ → List ℕ
tail_of [] = []
tail_of (x ∷ xs) = xs

abbrev head_of : List ℕ → ℕ
head_of [] = 0
head_of (x ∷ xs) = x

parted : (xs ys us vs : List ℕ) → NoSlash ys → NoSlash vs → xs ++ 47 ∷ ys ≡ us ++ 47 ∷ vs → (xs ≡ us) × (ys ≡ vs)
parted [] ys [] vs first second same = (refl, ap tail_of same)
parted [] ys (u ∷ us) vs first second same = absurd (no_slash_after us vs ys first (ap tail_of same))
parted (x ∷ xs) ys [] vs first second same = absurd (no_slash_after xs ys vs second (sym (ap tail_of same)))
parted (x ∷ xs) ys (u ∷ us) vs first second same =
    let rest = parted xs ys us vs first second (ap tail_of same) in
    (ap (λ l. x ∷ l) rest.0 ∙ ap (λ c. c ∷ us) (ap head_of same), rest.1)

not_slash : (c : ℕ) → is_name_character c ≡ true → 47 ≢ c
not_slash c is same = absurd (true≢false (sym is ∙ ap is_name_character (sym same)))

all_name : (text : List ℕ) → list_all is_name_character text ≡ true → NoSlash text
all_name [] is = All-nil (λ (c : ℕ). 47 ≢ c)
all_name (c ∷ text) is =
    All-cons (λ (d : ℕ). 47 ≢ d) c text (not_slash c (and_left (is_name_character c) (list_all is_name_character text) is))
    (all_name text (and_right (is_name_character c) (list_all is_name_character text) is))

name_text : (text : List ℕ) → is_name_text text ≡ true → NoSlash text
name_text text is =
    all_name text (and_right (nat_le (length text) 50) (list_all is_name_character text)
    (and_right (nat_le 1 (length text)) (nat_le (length text) 50 && list_all is_name_character text) is))

-- the first name of a pair, where the second ones are names
pub first_same : (a b c d : List ℕ) → is_name_text b ≡ true → is_name_text d ≡ true → pair_key a b ≡ pair_key c d → a ≡ c
first_same a b c d first second same =
    encodes_same a c (parted (encode_utf8_all a) (encode_utf8_all b) (encode_utf8_all c) (encode_utf8_all d)
    (subst NoSlash (sym (encoded b first)) (name_text b first)) (subst NoSlash (sym (encoded d second)) (name_text d second)) same).0

-- TOKENS. Noise in hexadecimal digits
digits_are : All (λ (c : ℕ). is_token_digit c ≡ true) lower_digits
digits_are = AllPass-from_list_all is_token_digit lower_digits refl

high_digit : (b : ℕ) → b < 256 → b / 16 < 16
high_digit b small = omega (arith, small)

low_digit : (b : ℕ) → b % 16 < 16
low_digit b = omega arith

all_digits : (noise : List ℕ) → are_bytes noise ≡ true → list_all is_token_digit (encode_with lower_digits noise) ≡ true
unfolding encode_with
all_digits [] are = refl
all_digits (b ∷ noise) are =
    and_both (is_token_digit (slice_index lower_digits (b / 16)))
    (is_token_digit (slice_index lower_digits (b % 16)) && list_all is_token_digit (encode_with lower_digits noise))
    (digits_are (b / 16) 0 (high_digit b (from_lt b 256 (and_left (nat_lt b 256) (are_bytes noise) are))))
    (and_both (is_token_digit (slice_index lower_digits (b % 16))) (list_all is_token_digit (encode_with lower_digits noise))
    (digits_are (b % 16) 0 (low_digit b)) (all_digits noise (and_right (nat_lt b 256) (are_bytes noise) are)))

pub token_is : (noise : List ℕ) → is_noise noise ≡ true → is_token (token_of noise) ≡ true
token_is noise is =
    ap is_token (hex_text noise)
    ∙ and_both (length (encode_lower noise) == 32) (list_all is_token_digit (encode_lower noise))
    (ap (λ n. n == 32) (length-encode_with lower_digits noise ∙ ap (λ n. 2 * n) (same_number (length noise) 16 (and_left (length noise == 16) (are_bytes noise) is))))
    (all_digits noise (and_right (length noise == 16) (are_bytes noise) is))

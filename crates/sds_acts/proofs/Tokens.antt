-- A token's digits are characters of one byte, so that its text is its digits.
use Rattle.std.proofs.Common.{◌≡◌, ℕ, Bool, true, List, [], ◌∷◌, refl, ◌∙◌, ap}
use Rattle.std.specs.List.{list_all}
use Rattle.std.specs.Prelude.{nat_lt}
use Rattle.std.specs.Str.{IsAscii, chars}
use Rattle.std.proofs.lemmas.Str.{chars-IsAscii}
use Rattle.std.proofs.lemmas.Str.Ascii.{IsAscii-nil, IsAscii-cons}
use Rattle.hex.specs.Hex.{encode_lower, lower_digits}
use Rattle.hex.proofs.HexLemmas.{IsAscii-encode_with}
use Rattle.sds_value.specs.Binaries.{coded_text}
use Rattle.sds_history.specs.history.Registrations.{token_of}
use Rattle.sds_nodelaws.proofs.Lists.{and_left, and_right, from_lt}

are_ascii : (bs : List ℕ) → list_all (λ (b : ℕ). nat_lt b 128) bs ≡ true → IsAscii bs
are_ascii [] is = IsAscii-nil
are_ascii (b ∷ bs) is =
    IsAscii-cons b bs (from_lt b 128 (and_left (nat_lt b 128) (list_all (λ (x : ℕ). nat_lt x 128) bs) is))
    (are_ascii bs (and_right (nat_lt b 128) (list_all (λ (x : ℕ). nat_lt x 128) bs) is))

pub token_text : (noise text digits : List ℕ) → text ≡ chars digits → digits ≡ encode_lower noise → text ≡ token_of noise
unfolding coded_text
token_text noise text digits is same =
    is ∙ (ap chars same ∙ chars-IsAscii (encode_lower noise) (IsAscii-encode_with lower_digits noise (are_ascii lower_digits refl)))

-- Texts in ASCII: their characters are their bytes.
use Rattle.std.proofs.Common.{◌≡◌, ℕ, zero, suc, ◌<◌, Bool, true, false, ◌&&◌, List, [], ◌∷◌, refl, nat_lt, arith}
use Rattle.std.proofs.lemmas.Bool.Decides.{nat_tests}
use Rattle.std.proofs.lemmas.Str.{chars-IsAscii}
use Rattle.std.specs.Str.{IsAscii, chars}
use Rattle.sds_batchtext.specs.Words.{is_plain}

pub left_true : (a b : Bool) → (a && b) ≡ true → a ≡ true
left_true true b both = refl
left_true false b both = both

pub right_true : (a b : Bool) → (a && b) ≡ true → b ≡ true
right_true true b both = both
right_true false b both = absurd (cc)

small : (b : ℕ) → (nat_lt b 128) ≡ true → b < 128
small b is = grind (arith, nat_tests)

plain_ascii : (word : List ℕ) → is_plain word ≡ true → IsAscii word
plain_ascii [] plain i = omega arith
plain_ascii (b ∷ bytes) plain zero = small b (left_true _ _ plain)
plain_ascii (b ∷ bytes) plain (suc i) = plain_ascii bytes (right_true _ _ plain) i

pub plain_chars : (word : List ℕ) → is_plain word ≡ true → chars word ≡ word
plain_chars word plain = chars-IsAscii word (plain_ascii word plain)

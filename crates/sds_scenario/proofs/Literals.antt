-- Texts against words of letters, by their bytes and by their characters.
use Rattle.std.proofs.Common.{◌≡◌, ℕ, List, Bool, true, false, refl, sym, ap, ◌∙◌}
use Rattle.std.proofs.lemmas.Slice.Eq.{bytes_eq-Decides}
use Rattle.std.proofs.lemmas.Str.{chars-IsAscii, encodes-IsAscii, encodes-chars}
use Rattle.std.specs.Str.{IsUtf8, bytes_eq, chars, encode_utf8_all}
use Rattle.sds_value.specs.Names.{is_name_text}
use Rattle.sds_value.proofs.Characters.{name_ascii}

-- a text whose bytes are a word's is that word
pub matches : (bytes word : List ℕ) → is_name_text word ≡ true → bytes ≡ word → chars bytes ≡ word
matches bytes word plain is = ap chars is ∙ chars-IsAscii word (name_ascii word plain)

-- and one whose bytes aren't is another
pub differs : (bytes word : List ℕ) → IsUtf8 bytes → is_name_text word ≡ true → (bytes ≡ word → ⊥) → bytes_eq (chars bytes) word ≡ false
differs bytes word utf8 plain other = by (bytes_eq (chars bytes) word) refl
  where
    by : (b : Bool) → bytes_eq (chars bytes) word ≡ b → bytes_eq (chars bytes) word ≡ false
    by true is = absurd (other (sym (encodes-chars bytes utf8) ∙ (ap encode_utf8_all ((bytes_eq-Decides (chars bytes) word).0 is) ∙ encodes-IsAscii word (name_ascii word plain))))
    by false is = is

-- Texts as bytes and as characters.
use Rattle.std.proofs.Common.{◌≡◌, ◌↔◌, IsTrue, ℕ, Bool, List, [], ◌∷◌, length, ◌==◌, sym, ap, ◌∙◌, arith}
use Rattle.std.specs.Str.{bytes_eq, chars, encode_utf8_all}
use Rattle.std.proofs.lemmas.Bool.{eqb-true}
use Rattle.std.proofs.lemmas.Bool.Decides.{same_from_decides}
use Rattle.std.proofs.lemmas.Slice.Eq.{bytes_eq-Decides}
use Rattle.std.proofs.lemmas.Str.{chars-nil}

-- a text has no characters exactly where it has no bytes
pub empty_text : (bs cs : List ℕ) (r : Bool) → chars bs ≡ cs → bs ≡ encode_utf8_all cs → r ≡ (length bs == 0) → IsTrue r ↔ (cs ≡ [])
empty_text [] cs r spelt bytes test = (λ _. sym spelt ∙ chars-nil, λ _. test)
empty_text (b ∷ bs) cs r spelt bytes test =
    (λ yes. let none : length (b ∷ bs) ≡ 0 = eqb-true _ _ (sym test ∙ yes) in absurd (omega arith), λ none. let e : b ∷ bs ≡ [] = rw none at bytes in cc)

-- two texts have the same bytes exactly where they have the same characters
pub same_text : (xs bs cs : List ℕ) → chars xs ≡ cs → xs ≡ encode_utf8_all cs → bs ≡ encode_utf8_all (chars bs) → bytes_eq xs bs ≡ bytes_eq cs (chars bs)
same_text xs bs cs spelt first second =
    same_from_decides (bytes_eq xs bs) (bytes_eq cs (chars bs))
    (λ yes. sym spelt ∙ ap chars ((bytes_eq-Decides xs bs).0 yes), λ same. (bytes_eq-Decides xs bs).1 (first ∙ (ap encode_utf8_all same ∙ sym second)))
    (bytes_eq-Decides cs (chars bs))

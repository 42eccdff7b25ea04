-- Texts: their characters, and pieces of them.
use Rattle.std.proofs.Common.{◌≡◌, ℕ, zero, suc, true, List, [], ◌∷◌, take, drop, refl, ap, ◌∙◌}
use Rattle.std.specs.Prelude.{codes}
use Rattle.std.specs.Str.{IsUtf8, all_scalars, chars, encode_utf8_all}
use Rattle.std.proofs.lemmas.Bool.{and_parts}
use Rattle.std.proofs.lemmas.Str.{chars-encodes, scalars-chars}

pub star_characters : chars (codes "*") ≡ codes "*"
unfolding chars
star_characters = refl

scalars-take : (n : ℕ) (cs : List ℕ) → all_scalars cs ≡ true → all_scalars (take n cs) ≡ true
scalars-take zero cs is = refl
scalars-take (suc n) [] is = refl
scalars-take (suc n) (c ∷ cs) is = let (here, rest) = and_parts _ (all_scalars cs) is in rw here (scalars-take n cs rest)

scalars-drop : (n : ℕ) (cs : List ℕ) → all_scalars cs ≡ true → all_scalars (drop n cs) ≡ true
scalars-drop zero cs is = is
scalars-drop (suc n) [] is = refl
scalars-drop (suc n) (c ∷ cs) is = let (here, rest) = and_parts _ (all_scalars cs) is in scalars-drop n cs rest

-- the text that is spelt by so many characters of another, from a place on
pub text_taken : (bytes text made : List ℕ) (n k : ℕ) → IsUtf8 bytes → chars bytes ≡ text → made ≡ encode_utf8_all (take n (drop k (chars bytes))) → chars made ≡ take n (drop k text)
text_taken bytes text made n k utf8 same is =
    ap chars is ∙ (chars-encodes (take n (drop k (chars bytes))) (scalars-take n (drop k (chars bytes)) (scalars-drop k (chars bytes) (scalars-chars bytes utf8)))
    ∙ ap (λ t. take n (drop k t)) same)

pub text_dropped : (bytes text made : List ℕ) (k : ℕ) → IsUtf8 bytes → chars bytes ≡ text → made ≡ encode_utf8_all (drop k (chars bytes)) → chars made ≡ drop k text
text_dropped bytes text made k utf8 same is =
    ap chars is ∙ (chars-encodes (drop k (chars bytes)) (scalars-drop k (chars bytes) (scalars-chars bytes utf8)) ∙ ap (drop k) same)

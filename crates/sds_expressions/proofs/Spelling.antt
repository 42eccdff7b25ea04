-- A text that grows by a character.
use Rattle.std.proofs.Common.{◌≡◌, ◌<◌, ◌≤◌, ◌+◌, ℕ, true, List, [], ◌∷◌, ◌++◌, length, get_or, take, sym, ap, ◌∙◌}
use Rattle.std.proofs.lemmas.List.{take_more, take_all}
use Rattle.std.proofs.lemmas.Str.{chars-encodes, encodes-append}
use Rattle.std.proofs.lemmas.Bool.{and_parts}
use Rattle.std.proofs.Math.Utf8.{scalar}
use Rattle.std.specs.Str.{chars, encode_utf8_all, all_scalars}

scalars-append : (cs ds : List ℕ) → all_scalars cs ≡ true → all_scalars ds ≡ true → all_scalars (cs ++ ds) ≡ true
scalars-append [] ds p q = q
scalars-append (c ∷ cs) ds p q =
    let (here, rest) = and_parts (scalar c) (all_scalars cs) p in
    rw here (scalars-append cs ds rest q)

pub record IsSpelt (text cs : List ℕ) : Type 0 where
  pub so_far : text ≡ encode_utf8_all cs
  pub scalars : all_scalars cs ≡ true

pub more : (text new cs : List ℕ) (i c : ℕ) → i < length cs → c ≡ get_or cs i c → text ≡ encode_utf8_all (take i cs) → all_scalars (take i cs) ≡ true
    → new ≡ text ++ encode_utf8_all (c ∷ []) → all_scalars (c ∷ []) ≡ true → IsSpelt new (take (i + 1) cs)
more text new cs i c inside is so_far scalars grown scalar =
    let e : take (i + 1) cs ≡ take i cs ++ c ∷ [] = take_more cs i c inside ∙ ap (λ x. take i cs ++ x ∷ []) (sym is) in
    record {
      so_far = grown ∙ (ap (λ t. t ++ encode_utf8_all (c ∷ [])) so_far ∙ (sym (encodes-append (take i cs) (c ∷ [])) ∙ ap encode_utf8_all (sym e)));
      scalars = ap all_scalars e ∙ scalars-append (take i cs) (c ∷ []) scalars scalar;
    }

pub whole : (text cs : List ℕ) (i : ℕ) → length cs ≤ i → text ≡ encode_utf8_all (take i cs) → all_scalars (take i cs) ≡ true → chars text ≡ cs
whole text cs i past so_far scalars = ap chars so_far ∙ (chars-encodes (take i cs) scalars ∙ take_all i cs past)

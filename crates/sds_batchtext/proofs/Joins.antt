-- Bytes that are written in parts.
use Rattle.std.proofs.Common.{◌≡◌, ℕ, List, [], ◌∷◌, ◌++◌, refl, sym, ap, ◌∙◌, ◌&&◌, append_assoc}
use Rattle.std.specs.Bool.{Decides}
use Rattle.std.proofs.lemmas.Bool.Decides.{Decides-and, Decides-like}
use Rattle.std.proofs.lemmas.Slice.Eq.{bytes_eq-Decides}
use Rattle.std.specs.Str.{bytes_eq}
use Rattle.sds_batchtext.specs.Writing.{text_of_lines, same_names}
use Rattle.sds_batchtext.proofs.Fronts.{text_append}

pub join : (old mid new a b : List ℕ) → mid ≡ old ++ a → new ≡ mid ++ b → new ≡ old ++ (a ++ b)
join old mid new a b first second = second ∙ (ap (λ (l : List ℕ). l ++ b) first ∙ append_assoc old a b)

pub join_lines : (old mid new : List ℕ) (a b : List (List ℕ)) → mid ≡ old ++ text_of_lines a → new ≡ mid ++ text_of_lines b → new ≡ old ++ text_of_lines (a ++ b)
join_lines old mid new a b first second = join old mid new (text_of_lines a) (text_of_lines b) first second ∙ ap (λ (l : List ℕ). old ++ l) (sym (text_append a b))

-- the test on names is true exactly where they are the same
pub same_names_Decides : (a b : List (List ℕ)) → Decides (same_names a b) (a ≡ b)
same_names_Decides [] [] = (λ yes_too. refl, λ same. refl)
same_names_Decides [] (o ∷ os) = (λ yes_too. absurd (cc), λ same. absurd (cc))
same_names_Decides (n ∷ ns) [] = (λ yes_too. absurd (cc), λ same. absurd (cc))
same_names_Decides (n ∷ ns) (o ∷ os) =
    Decides-like (bytes_eq n o && same_names ns os) (λ (p : (n ≡ o) × (ns ≡ os)). let f = p.0 in let g = p.1 in cc) (λ (e : n ∷ ns ≡ o ∷ os). (cc, cc))
    (Decides-and (bytes_eq n o) (same_names ns os) (bytes_eq-Decides n o) (same_names_Decides ns os))

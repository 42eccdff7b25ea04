-- A text with one more character at its end.
use Rattle.std.proofs.Common.{◌≡◌, ℕ, List, [], ◌∷◌, ◌++◌, refl, sym, ap, ◌∙◌, Bool, true, false}
use Rattle.std.proofs.lemmas.List.{append-nil}
use Rattle.std.proofs.lemmas.Str.{chars-append, chars-encodes}
use Rattle.std.specs.Str.{chars, IsUtf8}
use Rattle.std.specs.Char.{encode_utf8, IsScalar}
use Rattle.sds_line.specs.Places.{is_spacing}
use Rattle.sds_line.specs.Reading.{without_end_spacing, kept_before}

one_character : (c : ℕ) → IsScalar c → chars (encode_utf8 c) ≡ c ∷ []
one_character c scalar = ap chars (sym (append-nil (encode_utf8 c))) ∙ chars-encodes (c ∷ []) (rw scalar refl)

pub characters_pushed : (text bytes : List ℕ) (c : ℕ) → IsUtf8 text → IsScalar c → bytes ≡ text ++ encode_utf8 c → chars bytes ≡ chars text ++ c ∷ []
characters_pushed text bytes c utf8 scalar is = ap chars is ∙ (chars-append text (encode_utf8 c) utf8 ∙ ap (λ (cs : List ℕ). chars text ++ cs) (one_character c scalar))

-- spacing at the end is left out, and anything else is kept with what stands before it
spacing_last : (text : List ℕ) (c : ℕ) → is_spacing c ≡ true → without_end_spacing (text ++ c ∷ []) ≡ without_end_spacing text
spacing_last [] c spacing = rw spacing refl
spacing_last (d ∷ ds) c spacing = ap (kept_before d) (spacing_last ds c spacing)

other_last : (text : List ℕ) (c : ℕ) → is_spacing c ≡ false → without_end_spacing (text ++ c ∷ []) ≡ text ++ c ∷ []
other_last [] c other = rw other refl
other_last (d ∷ ds) c other = ap (kept_before d) (other_last ds c other) ∙ whole_before ds
  where
    whole_before : (es : List ℕ) → kept_before d (es ++ c ∷ []) ≡ d ∷ (es ++ c ∷ [])
    whole_before [] = refl
    whole_before (e ∷ es) = refl

pub spacing_popped : (before after all : List ℕ) (c : ℕ) (test : Bool) → IsUtf8 after → IsScalar c → before ≡ after ++ encode_utf8 c → test ≡ is_spacing c → test ≡ true → without_end_spacing (chars before) ≡ without_end_spacing all → without_end_spacing (chars after) ≡ without_end_spacing all
spacing_popped before after all c test utf8 scalar is answer true_ so_far = sym (spacing_last (chars after) c (sym answer ∙ true_)) ∙ (ap without_end_spacing (sym (characters_pushed after before c utf8 scalar is)) ∙ so_far)

pub other_popped : (before after all : List ℕ) (c : ℕ) (test : Bool) → IsUtf8 after → IsScalar c → before ≡ after ++ encode_utf8 c → test ≡ is_spacing c → test ≡ false → without_end_spacing (chars before) ≡ without_end_spacing all → chars after ++ c ∷ [] ≡ without_end_spacing all
other_popped before after all c test utf8 scalar is answer false_ so_far = sym (other_last (chars after) c (sym answer ∙ false_)) ∙ (ap without_end_spacing (sym (characters_pushed after before c utf8 scalar is)) ∙ so_far)

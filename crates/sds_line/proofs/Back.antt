-- What is written reads back.
use Rattle.std.proofs.Common.{◌≡◌, ℕ, List, [], ◌∷◌, ◌++◌, refl, sym, ap, ◌∙◌, Bool, true, false, IsTrue, ◌||◌, nat_eq, Ok, append_assoc, if◌then◌else◌}
use Rattle.std.proofs.lemmas.List.{append-nil}
use Rattle.std.specs.Str.{encode_utf8_all, all_scalars}
use lib.Utf8.{scalar, encode}
use Rattle.sds_value.specs.declared.row.Field.{Field}
use Rattle.sds_value.specs.declared.row.Field.TheVariants.{Null, Text}
use Rattle.sds_line.specs.declared.place.Place.{Place}
use Rattle.sds_line.specs.declared.place.Place.TheVariants.{Before, Behind}
use Rattle.sds_line.specs.Characters.{whole}
use Rattle.sds_line.specs.Reading.{HalfLine, empty_line, rest_of_line, line_of}
use Rattle.sds_line.specs.Written.{escaped, further_fields, written_line, has_form, are_fields}
use Rattle.sds_line.proofs.Characters.{quoted, quoted_character}
use Rattle.sds_line.proofs.Comparisons.{both}

pub escaped_append : (a b : List ℕ) → escaped (a ++ b) ≡ escaped a ++ escaped b
escaped_append [] b = refl
escaped_append (x ∷ a) b = at (nat_eq x 34 || nat_eq x 92) (escaped_append a b)
  where
    at : (t : Bool) → escaped (a ++ b) ≡ escaped a ++ escaped b → (if t then 92 ∷ x ∷ escaped (a ++ b) else x ∷ escaped (a ++ b)) ≡ (if t then 92 ∷ x ∷ escaped a else x ∷ escaped a) ++ escaped b
    at true same = ap (λ (bs : List ℕ). 92 ∷ x ∷ bs) same
    at false same = ap (λ (bs : List ℕ). x ∷ bs) same

-- the characters of a text in quotes
quoted_text : (cs text rest : List ℕ) (fields : List Field) → all_scalars cs ≡ true → rest_of_line (quoted whole text fields) (escaped (encode_utf8_all cs) ++ rest) ≡ rest_of_line (quoted whole (text ++ cs) fields) rest
quoted_text [] text rest fields scalars = ap (λ (t : List ℕ). rest_of_line (quoted whole t fields) rest) (sym (append-nil text))
quoted_text (c ∷ cs) text rest fields scalars =
    let two = both (scalar c) (all_scalars cs) scalars in
    ap (λ (bs : List ℕ). rest_of_line (quoted whole text fields) (bs ++ rest)) (escaped_append (encode c) (encode_utf8_all cs))
    ∙ (ap (λ (bs : List ℕ). rest_of_line (quoted whole text fields) bs) (append_assoc (escaped (encode c)) (escaped (encode_utf8_all cs)) rest)
    ∙ (quoted_character c two.0 text (escaped (encode_utf8_all cs) ++ rest) fields
    ∙ (quoted_text cs (text ++ c ∷ []) rest fields two.1
    ∙ ap (λ (t : List ℕ). rest_of_line (quoted whole t fields) rest) (append_assoc text (c ∷ []) cs))))

abbrev at_place : Place → List ℕ → List Field → HalfLine
at_place place text fields = record { place = place; partial = whole; text = text; fields = fields }

-- a text in quotes, and what follows it
pub text_back : (cs rest : List ℕ) (fields : List Field) → all_scalars cs ≡ true → rest_of_line (quoted whole [] fields) ((escaped (encode_utf8_all cs) ++ 34 ∷ []) ++ rest) ≡ rest_of_line (at_place Behind cs fields) rest
text_back cs rest fields scalars =
    ap (λ (bs : List ℕ). rest_of_line (quoted whole [] fields) bs) (append_assoc (escaped (encode_utf8_all cs)) (34 ∷ []) rest)
    ∙ quoted_text cs [] (34 ∷ rest) fields scalars

-- further fields, behind a null and behind a text
pub further_back : (more : List Field) → are_fields more ≡ true →
    ((text : List ℕ) (fields : List Field) → rest_of_line (at_place Before text fields) (further_fields more) ≡ Ok (fields ++ Null ∷ more))
    × ((text : List ℕ) (fields : List Field) → rest_of_line (at_place Behind text fields) (further_fields more) ≡ Ok (fields ++ Text text ∷ more))
further_back [] ok = (λ text fields. refl, λ text fields. refl)
further_back (Null ∷ more) ok =
    let others = further_back more ok in (
      λ text fields. others.0 [] (fields ++ Null ∷ []) ∙ ap Ok (append_assoc fields (Null ∷ []) (Null ∷ more)),
      λ text fields. others.0 [] (fields ++ Text text ∷ []) ∙ ap Ok (append_assoc fields (Text text ∷ []) (Null ∷ more)),
    )
further_back (Text cs ∷ more) ok =
    let two = both (all_scalars cs) (are_fields more) ok in
    let others = further_back more two.1 in (
      λ text fields. text_back cs (further_fields more) (fields ++ Null ∷ []) two.0 ∙ (others.1 cs (fields ++ Null ∷ []) ∙ ap Ok (append_assoc fields (Null ∷ []) (Text cs ∷ more))),
      λ text fields. text_back cs (further_fields more) (fields ++ Text text ∷ []) two.0 ∙ (others.1 cs (fields ++ Text text ∷ []) ∙ ap Ok (append_assoc fields (Text text ∷ []) (Text cs ∷ more))),
    )

-- the bytes behind a first null are those behind a comma
behind_first : (field : Field) (more : List Field) → are_fields (field ∷ more) ≡ true → rest_of_line empty_line (further_fields (field ∷ more)) ≡ Ok (Null ∷ field ∷ more)
behind_first field more ok = (further_back (field ∷ more) ok).0 [] []

pub written_back : (fields : List Field) → IsTrue (are_fields fields) → IsTrue (has_form fields) → line_of (written_line fields) ≡ Ok fields
written_back [] ok form = absurd (cc)
written_back (Null ∷ []) ok form = absurd (cc)
written_back (Null ∷ field ∷ more) ok form = behind_first field more ok
written_back (Text text ∷ more) ok form =
    let two = both (all_scalars text) (are_fields more) ok in
    text_back text (further_fields more) [] two.0 ∙ (further_back more two.1).1 text []

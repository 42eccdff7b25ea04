-- What the lines of a written document read as: a plain directive, and names, a number or values after it.
use Rattle.std.proofs.Common.{◌≡◌, ℕ, ◌<◌, ◌^◌, List, [], ◌∷◌, ◌++◌, length, map, refl, sym, ap, ◌∙◌, true, false, nat_eq, nat_lt, Result, Ok, arith, rules, append_assoc}
use Rattle.std.proofs.lemmas.Bool.Decides.{nat_tests}
use Rattle.std.proofs.lemmas.Fmt.{digits_decimal, digits_value-decimal}
use Rattle.std.proofs.lemmas.List.{append-nil}
use Rattle.std.proofs.lemmas.Str.{encodes-IsAscii}
use Rattle.std.proofs.lemmas.Str.Parse.{IsNumeralModel, numerals_by_weight}
use Rattle.std.specs.Char.{is_ascii_digit}
use Rattle.std.specs.Fmt.{decimal}
use Rattle.std.specs.List.{list_all}
use Rattle.std.specs.Str.{encode_utf8_all}
use Rattle.sds_line.proofs.Back.{text_back, further_back}
use Rattle.sds_line.proofs.Comparisons.{both}
use Rattle.sds_line.specs.Characters.{whole}
use Rattle.sds_line.specs.declared.place.Place.{Place}
use Rattle.sds_line.specs.declared.place.Place.TheVariants.{Before, Plain}
use Rattle.sds_line.specs.declared.refusal.LineRefusal.{LineRefusal}
use Rattle.sds_line.specs.Places.{is_spacing}
use Rattle.sds_line.specs.Reading.{HalfLine, kept_before, without_end_spacing, rest_of_line, then_read, with_byte}
use Rattle.sds_line.specs.Written.{written_line, written_field, further_fields, are_fields}
use Rattle.sds_value.proofs.Characters.{name_ascii}
use Rattle.sds_value.specs.declared.row.Field.{Field}
use Rattle.sds_value.specs.declared.row.Field.TheVariants.{Null, Text}
use Rattle.sds_value.specs.Digits.{digits_value}
use Rattle.sds_value.specs.Names.{is_name_text, is_name_character}
use Rattle.sds_batchtext.specs.Writing.{further_names}

-- a line that goes on at a place, between two characters
abbrev pub at_place : Place → List ℕ → List Field → HalfLine
at_place place text fields = record { place = place; partial = whole; text = text; fields = fields }

-- a character of a name is neither spacing nor a sign of a line
record IsPlainByte (c : ℕ) : Type 0 where
  spacing : is_spacing c ≡ false
  quote : nat_eq c 34 ≡ false
  comma : nat_eq c 44 ≡ false
  feed : nat_eq c 10 ≡ false
  small : nat_lt c 128 ≡ true

name_spacing : (c : ℕ) → is_name_character c ≡ true → is_spacing c ≡ false
name_spacing c is = grind (arith, nat_tests)

name_quote : (c : ℕ) → is_name_character c ≡ true → nat_eq c 34 ≡ false
name_quote c is = grind (arith, nat_tests)

name_comma : (c : ℕ) → is_name_character c ≡ true → nat_eq c 44 ≡ false
name_comma c is = grind (arith, nat_tests)

name_feed : (c : ℕ) → is_name_character c ≡ true → nat_eq c 10 ≡ false
name_feed c is = grind (arith, nat_tests)

name_small : (c : ℕ) → is_name_character c ≡ true → nat_lt c 128 ≡ true
name_small c is = grind (arith, nat_tests)

plain_byte : (c : ℕ) → is_name_character c ≡ true → IsPlainByte c
plain_byte c is = record { spacing = name_spacing c is; quote = name_quote c is; comma = name_comma c is; feed = name_feed c is; small = name_small c is }

begins : (c : ℕ) (text : List ℕ) (fields : List Field) → IsPlainByte c → with_byte (at_place Before text fields) c ≡ Ok (at_place Plain (text ++ c ∷ []) fields)
begins c text fields p = rw (p.spacing, p.quote, p.comma, p.feed, p.small) refl

goes_on : (c : ℕ) (text : List ℕ) (fields : List Field) → IsPlainByte c → with_byte (at_place Plain text fields) c ≡ Ok (at_place Plain (text ++ c ∷ []) fields)
goes_on c text fields p = rw (p.comma, p.quote, p.feed, p.small) refl

on_read : (r : Result HalfLine LineRefusal) (h : HalfLine) (rest : List ℕ) → r ≡ Ok h → then_read r (λ next. rest_of_line next rest) ≡ rest_of_line h rest
on_read r h rest is = ap (λ (r : Result HalfLine LineRefusal). then_read r (λ next. rest_of_line next rest)) is

-- further characters of a plain field
plain_rest : (cs text rest : List ℕ) (fields : List Field) → list_all is_name_character cs ≡ true → rest_of_line (at_place Plain text fields) (cs ++ rest) ≡ rest_of_line (at_place Plain (text ++ cs) fields) rest
plain_rest [] text rest fields all = ap (λ (t : List ℕ). rest_of_line (at_place Plain t fields) rest) (sym (append-nil text))
plain_rest (c ∷ cs) text rest fields all =
    let two = both (is_name_character c) (list_all is_name_character cs) all in
    on_read _ (at_place Plain (text ++ c ∷ []) fields) (cs ++ rest) (goes_on c text fields (plain_byte c two.0))
    ∙ (plain_rest cs (text ++ c ∷ []) rest fields two.1
    ∙ ap (λ (t : List ℕ). rest_of_line (at_place Plain t fields) rest) (append_assoc text (c ∷ []) cs))

plain_text : (c : ℕ) (cs rest : List ℕ) (fields : List Field) → list_all is_name_character (c ∷ cs) ≡ true → rest_of_line (at_place Before [] fields) ((c ∷ cs) ++ rest) ≡ rest_of_line (at_place Plain (c ∷ cs) fields) rest
plain_text c cs rest fields all =
    let two = both (is_name_character c) (list_all is_name_character cs) all in
    on_read _ (at_place Plain (c ∷ []) fields) (cs ++ rest) (begins c [] fields (plain_byte c two.0)) ∙ plain_rest cs (c ∷ []) rest fields two.1

kept : (c : ℕ) (cs : List ℕ) → is_spacing c ≡ false → kept_before c cs ≡ c ∷ cs
kept c [] is = rw is refl
kept c (d ∷ ds) is = refl

-- it has no spacing at its end
no_spacing : (cs : List ℕ) → list_all is_name_character cs ≡ true → without_end_spacing cs ≡ cs
no_spacing [] all = refl
no_spacing (c ∷ cs) all =
    let two = both (is_name_character c) (list_all is_name_character cs) all in
    ap (kept_before c) (no_spacing cs two.1) ∙ kept c cs (name_spacing c two.0)

last_text : (cs : List ℕ) (fields : List Field) → list_all is_name_character cs ≡ true → rest_of_line (at_place Plain cs fields) [] ≡ Ok (fields ++ Text cs ∷ [])
last_text cs fields all = ap (λ (t : List ℕ). Ok (fields ++ Text t ∷ [])) (no_spacing cs all)

next_text : (cs rest : List ℕ) (fields : List Field) → list_all is_name_character cs ≡ true → rest_of_line (at_place Plain cs fields) (44 ∷ rest) ≡ rest_of_line (at_place Before [] (fields ++ Text cs ∷ [])) rest
next_text cs rest fields all = ap (λ (t : List ℕ). rest_of_line (at_place Before [] (fields ++ Text t ∷ [])) rest) (no_spacing cs all)

-- ONE PLAIN FIELD that is the last
pub one_plain : (cs : List ℕ) (fields : List Field) → list_all is_name_character cs ≡ true → 0 < length cs → rest_of_line (at_place Before [] fields) cs ≡ Ok (fields ++ Text cs ∷ [])
one_plain [] fields all some = absurd (omega arith)
one_plain (c ∷ cs) fields all some =
    ap (rest_of_line (at_place Before [] fields)) (sym (append-nil (c ∷ cs))) ∙ (plain_text c cs [] fields all ∙ last_text (c ∷ cs) fields all)

name_all : (name : List ℕ) → is_name_text name ≡ true → list_all is_name_character name ≡ true
name_all name is = (both _ _ (both _ _ is).1).1

name_some : (name : List ℕ) → is_name_text name ≡ true → 0 < length name
name_some [] is = absurd (cc)
name_some (c ∷ cs) is = omega arith

pub encoded : (name : List ℕ) → is_name_text name ≡ true → encode_utf8_all name ≡ name
encoded name is = encodes-IsAscii name (name_ascii name is)

pub name_back : (name : List ℕ) (fields : List Field) → is_name_text name ≡ true → rest_of_line (at_place Before [] fields) (encode_utf8_all name) ≡ Ok (fields ++ Text name ∷ [])
name_back name fields is = ap (rest_of_line (at_place Before [] fields)) (encoded name is) ∙ one_plain name fields (name_all name is) (name_some name is)

-- NAMES, each after a comma but the first
first_name : (name rest : List ℕ) (fields : List Field) → is_name_text name ≡ true → rest_of_line (at_place Before [] fields) (name ++ rest) ≡ rest_of_line (at_place Plain name fields) rest
first_name [] rest fields is = absurd (cc)
first_name (c ∷ cs) rest fields is = plain_text c cs rest fields (name_all (c ∷ cs) is)

pub names_back : (name : List ℕ) (names : List (List ℕ)) (fields : List Field) → is_name_text name ≡ true → list_all is_name_text names ≡ true
    → rest_of_line (at_place Before [] fields) (encode_utf8_all name ++ further_names names) ≡ Ok (fields ++ Text name ∷ map (λ n. Text n) names)
names_back name [] fields is all = ap (rest_of_line (at_place Before [] fields)) (append-nil (encode_utf8_all name)) ∙ name_back name fields is
names_back name (other ∷ names) fields is all =
    let two = both (is_name_text other) (list_all is_name_text names) all in
    ap (λ (l : List ℕ). rest_of_line (at_place Before [] fields) (l ++ further_names (other ∷ names))) (encoded name is)
    ∙ (first_name name (further_names (other ∷ names)) fields is
    ∙ (next_text name (encode_utf8_all other ++ further_names names) fields (name_all name is)
    ∙ (names_back other names (fields ++ Text name ∷ []) two.0 two.1
    ∙ ap Ok (append_assoc fields (Text name ∷ []) (Text other ∷ map (λ n. Text n) names)))))

-- A NUMBER
own : IsNumeralModel (λ ds. list_all is_ascii_digit ds ≡ true) digits_value
own = numerals_by_weight _ (search rules) digits_value (search rules)

digit_name : (c : ℕ) → is_ascii_digit c ≡ true → is_name_character c ≡ true
digit_name c is = grind (arith, nat_tests)

digits_names : (cs : List ℕ) → list_all is_ascii_digit cs ≡ true → list_all is_name_character cs ≡ true
digits_names [] all = refl
digits_names (c ∷ cs) all =
    let two = both (is_ascii_digit c) (list_all is_ascii_digit cs) all in rw (digit_name c two.0) (digits_names cs two.1)

some_digit : (ds : List ℕ) (n : ℕ) → digits_value ds ≡ n → 0 < n → 0 < length ds
some_digit [] n is more = absurd (omega (arith, is))
some_digit (d ∷ ds) n is more = omega arith

pub decimal_digits : (n : ℕ) → n < 2 ^ 64 → list_all is_ascii_digit (decimal n) ≡ true
decimal_digits n few = digits_decimal own n few

pub decimal_value : (n : ℕ) → n < 2 ^ 64 → digits_value (decimal n) ≡ n
decimal_value n few = digits_value-decimal own n few

pub decimal_some : (n : ℕ) → n < 2 ^ 64 → 0 < n → 0 < length (decimal n)
decimal_some n few more = some_digit (decimal n) n (decimal_value n few) more

pub number_back : (n : ℕ) (fields : List Field) → n < 2 ^ 64 → 0 < n → rest_of_line (at_place Before [] fields) (decimal n) ≡ Ok (fields ++ Text (decimal n) ∷ [])
number_back n fields few more = one_plain (decimal n) fields (digits_names (decimal n) (decimal_digits n few)) (decimal_some n few more)

-- VALUES
pub values_back : (values fields : List Field) → are_fields values ≡ true → 0 < length values → rest_of_line (at_place Before [] fields) (written_line values) ≡ Ok (fields ++ values)
values_back [] fields ok some = absurd (omega arith)
values_back (Null ∷ values) fields ok some = (further_back values ok).0 [] fields
values_back (Text cs ∷ values) fields ok some =
    let two = both _ (are_fields values) ok in
    text_back cs (further_fields values) fields two.0 ∙ (further_back values two.1).1 cs fields

further_append : (a b : List Field) → further_fields (a ++ b) ≡ further_fields a ++ further_fields b
further_append [] b = refl
further_append (field ∷ a) b =
    ap (λ (l : List ℕ). 44 ∷ l) (ap (λ (l : List ℕ). written_field field ++ l) (further_append a b) ∙ sym (append_assoc (written_field field) (further_fields a) (further_fields b)))

-- two rows of values, divided by a comma, are the values of both
pub written_append : (a b : List Field) → 0 < length a → 0 < length b → written_line (a ++ b) ≡ written_line a ++ 44 ∷ written_line b
written_append [] b some more = absurd (omega arith)
written_append (field ∷ a) [] some more = absurd (omega arith)
written_append (field ∷ a) (other ∷ b) some more =
    ap (λ (l : List ℕ). written_field field ++ l) (further_append a (other ∷ b)) ∙ sym (append_assoc (written_field field) (further_fields a) (further_fields (other ∷ b)))

pub fields_append : (a b : List Field) → are_fields a ≡ true → are_fields b ≡ true → are_fields (a ++ b) ≡ true
fields_append [] b one two = two
fields_append (field ∷ a) b one two = let f = both _ (are_fields a) one in rw (f.0) (fields_append a b f.1 two)

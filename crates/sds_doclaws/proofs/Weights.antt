-- How many bytes the written form of a text takes at most, and of a line of fields.
use Rattle.std.proofs.Common.{◌≡◌, ℕ, suc, ◌+◌, ◌*◌, ◌<◌, ◌≤◌, Bool, true, false, ◌||◌, ◌==◌, not, List, [], ◌∷◌, ◌++◌, length, get_or, inl, inr, refl, sym, ap, subst, ◌∙◌, arith, append-nil}
use Rattle.std.proofs.lemmas.Bool.{cases_lt}
use Rattle.std.proofs.lemmas.Bool.Decides.{nat_tests}
use Rattle.std.proofs.lemmas.List.{length-append}
use Rattle.std.proofs.lemmas.Str.{encode_ascii, inside_one, length-encode, len_utf8_bounds}
use Rattle.std.specs.Char.{encode_utf8}
use Rattle.std.specs.List.{list_all}
use Rattle.std.specs.Prelude.{if◌then◌else◌}
use Rattle.std.specs.Str.{encode_utf8_all}
use Rattle.sds_value.specs.declared.row.Field.{Field}
use Rattle.sds_value.specs.declared.row.Field.TheVariants.{Text}
use Rattle.sds_line.specs.Written.{escaped, further_fields, written_field, written_line}
use Rattle.sds_nodelaws.proofs.Lists.{and_left, and_right}

-- ESCAPES
escaped_step : (b : ℕ) (bs : List ℕ) → (b == 34 || b == 92) ≡ false → escaped (b ∷ bs) ≡ b ∷ escaped bs
escaped_step b bs is = rw is refl

pub escaped_append : (xs ys : List ℕ) → escaped (xs ++ ys) ≡ escaped xs ++ escaped ys
escaped_append [] ys = refl
escaped_append (b ∷ bs) ys = by (b == 34 || b == 92) (escaped_append bs ys)
  where
    by : (t : Bool) → escaped (bs ++ ys) ≡ escaped bs ++ escaped ys
        → (if t then 92 ∷ b ∷ escaped (bs ++ ys) else b ∷ escaped (bs ++ ys)) ≡ (if t then 92 ∷ b ∷ escaped bs else b ∷ escaped bs) ++ escaped ys
    by true same = ap (λ l. 92 ∷ b ∷ l) same
    by false same = ap (λ l. b ∷ l) same

-- at most twice as many bytes
pub escaped_most : (xs : List ℕ) → length (escaped xs) ≤ 2 * length xs
escaped_most [] = omega arith
escaped_most (b ∷ bs) = by (b == 34 || b == 92) (escaped_most bs)
  where
    by : (t : Bool) → length (escaped bs) ≤ 2 * length bs → length (if t then 92 ∷ b ∷ escaped bs else b ∷ escaped bs) ≤ 2 * length (b ∷ bs)
    by true less = omega (arith, less)
    by false less = omega (arith, less)

-- and as many where no byte is a quote or a backslash
abbrev pub is_unescaped : ℕ → Bool
is_unescaped b = not (b == 34 || b == 92)

not_true : (t : Bool) → not t ≡ true → t ≡ false
not_true true e = absurd (cc)
not_true false e = refl

pub escaped_same : (xs : List ℕ) → list_all is_unescaped xs ≡ true → escaped xs ≡ xs
escaped_same [] is = refl
escaped_same (b ∷ bs) is =
    escaped_step b bs (not_true (b == 34 || b == 92) (and_left (is_unescaped b) (list_all is_unescaped bs) is))
    ∙ ap (λ l. b ∷ l) (escaped_same bs (and_right (is_unescaped b) (list_all is_unescaped bs) is))

high_plain : (b : ℕ) → 128 ≤ b → (b == 34 || b == 92) ≡ false
high_plain b high = grind (arith, nat_tests, high)

escaped_high : (xs : List ℕ) → ((k : ℕ) → k < length xs → 128 ≤ get_or xs k 0) → escaped xs ≡ xs
escaped_high [] h = refl
escaped_high (x ∷ xs) h =
    let high : 128 ≤ x = h 0 (omega arith) in
    escaped_step x xs (high_plain x high) ∙ ap (λ l. x ∷ l) (escaped_high xs (λ k below. h (suc k) (omega arith)))

-- CHARACTERS. Each takes at most four bytes
one_character : (c : ℕ) → length (escaped (encode_utf8 c)) ≤ 4
one_character c = elim (cases_lt c 128) [
  | inl small ↦ subst (λ (bs : List ℕ). length (escaped bs) ≤ 4) (sym (encode_ascii c small)) (few (length (escaped (c ∷ []))) (escaped_most (c ∷ [])))
  | inr big ↦
      let high : (k : ℕ) → k < length (encode_utf8 c) → 128 ≤ get_or (encode_utf8 c) k 0 = λ k below. elim (cases_lt (get_or (encode_utf8 c) k 0) 128) [
        | inl low ↦ absurd (omega (arith, big, low, inside_one c [] (encode_utf8 c) k (sym (append-nil _)) below low))
        | inr h ↦ h
      ] in
      subst (λ (bs : List ℕ). length bs ≤ 4) (sym (escaped_high (encode_utf8 c) high)) (subst (λ (n : ℕ). n ≤ 4) (sym (length-encode c)) (len_utf8_bounds c).1)
]
  where
    few : (n : ℕ) → n ≤ 2 * 1 → n ≤ 4
    few n less = omega (arith, less)

pub characters_most : (cs : List ℕ) → length (escaped (encode_utf8_all cs)) ≤ 4 * length cs
characters_most [] = omega arith
characters_most (c ∷ cs) =
    let same = ap length (escaped_append (encode_utf8 c) (encode_utf8_all cs)) ∙ length-append (escaped (encode_utf8 c)) (escaped (encode_utf8_all cs)) in
    more (length (escaped (encode_utf8_all (c ∷ cs)))) (length (escaped (encode_utf8 c))) (length (escaped (encode_utf8_all cs))) (length cs) same (one_character c) (characters_most cs)
  where
    more : (n a b k : ℕ) → n ≡ a + b → a ≤ 4 → b ≤ 4 * k → n ≤ 4 * suc k
    more n a b k same first rest = omega (arith, same, first, rest)

-- FIELDS. The bytes of a field with the comma before it, and of fields
abbrev pub weight : List ℕ → ℕ
weight text = length (escaped (encode_utf8_all text))

abbrev pub cost : Field → ℕ
cost field = length (written_field field) + 1

abbrev pub sum_of : {X : Type 0} → (X → ℕ) → List X → ℕ
sum_of f [] = 0
sum_of f (x ∷ xs) = f x + sum_of f xs

abbrev pub total : List Field → ℕ
total fields = sum_of cost fields

pub cost_is : (text : List ℕ) → cost (Text text) ≡ weight text + 3
cost_is text = on (length (escaped (encode_utf8_all text) ++ 34 ∷ [])) (weight text) (length-append (escaped (encode_utf8_all text)) (34 ∷ []))
  where
    on : (n w : ℕ) → n ≡ w + 1 → suc n + 1 ≡ w + 3
    on n w same = omega (arith, same)

further_length : (fields : List Field) → length (further_fields fields) ≡ total fields
further_length [] = refl
further_length (field ∷ fields) =
    on (length (written_field field ++ further_fields fields)) (length (written_field field)) (total fields)
    (length-append (written_field field) (further_fields fields) ∙ ap (λ n. length (written_field field) + n) (further_length fields))
  where
    on : (n w t : ℕ) → n ≡ w + t → suc n ≡ (w + 1) + t
    on n w t same = omega (arith, same)

pub line_length : (fields : List Field) → length (written_line fields) ≤ total fields
line_length [] = omega arith
line_length (field ∷ fields) =
    on (length (written_line (field ∷ fields))) (length (written_field field)) (total fields)
    (length-append (written_field field) (further_fields fields) ∙ ap (λ n. length (written_field field) + n) (further_length fields))
  where
    on : (n w t : ℕ) → n ≡ w + t → n ≤ (w + 1) + t
    on n w t same = omega (arith, same)

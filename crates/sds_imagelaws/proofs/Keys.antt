-- Names, numbers and lines in keys: different ones have different bytes.
use Rattle.std.proofs.Common.{◌≡◌, ◌≢◌, ℕ, zero, suc, ◌<◌, ◌^◌, true, false, List, [], ◌∷◌, ◌++◌, length, Result, Ok, Err, refl, sym, ap, ◌∙◌, arith, true≢false, All, AllPairs}
use Rattle.std.specs.Prelude.{slice_get}
use Rattle.std.specs.List.{AllByRecursion, list_all}
use Rattle.std.specs.Option.{option_map_or}
use Rattle.std.specs.Str.{encode_utf8_all}
use Rattle.std.proofs.lemmas.Str.{encodes-IsAscii}
use Rattle.sds_value.specs.Names.{is_name_character, is_name_text}
use Rattle.sds_value.specs.declared.row.Field.{Field}
use Rattle.sds_value.specs.declared.row.Field.TheVariants as field
use Rattle.sds_value.specs.Digits.{digits_value}
use Rattle.sds_value.proofs.Characters.{left_true, name_ascii, right_true}
use Rattle.sds_value.proofs.Padding.{padded_value}
use Rattle.sds_line.specs.Reading.{line_of}
use Rattle.sds_line.specs.Written.{are_fields, has_form, written_line}
use Rattle.sds_line.proofs.Back.{written_back}
use Rattle.sds_trade.proofs.Lists.{all_head, all_tail, pairs_head, pairs_tail}
use Rattle.sds_history.specs.history.Records.{id_text}

-- NUMBERS in keys
pub same_id : (m n : ℕ) → m < 2 ^ 64 → n < 2 ^ 64 → id_text m ≡ id_text n → m ≡ n
same_id m n small also same =
    sym (padded_value 20 m small) ∙ (ap digits_value same ∙ padded_value 20 n also)

-- NAMES have no slash
abbrev NoSlash : List ℕ → Type 0
NoSlash text = AllByRecursion (λ c. 47 ≢ c) text

not_slash : (c : ℕ) → is_name_character c ≡ true → 47 ≢ c
not_slash c is same = absurd (true≢false (sym is ∙ ap is_name_character (sym same)))

no_slash : (text : List ℕ) → list_all is_name_character text ≡ true → NoSlash text
no_slash [] is = tt
no_slash (c ∷ cs) is = (not_slash c (left_true _ _ is), no_slash cs (right_true _ _ is))

name_slashless : (text : List ℕ) → is_name_text text ≡ true → NoSlash text
name_slashless text is = no_slash text (right_true _ _ (right_true _ _ is))

first_byte : (a b : ℕ) (x y : List ℕ) → a ∷ x ≡ b ∷ y → a ≡ b
first_byte a b x y is = ap (λ l. elim l [ [] ↦ a | c ∷ cs ↦ c ]) is

other_bytes : (a b : ℕ) (x y : List ℕ) → a ∷ x ≡ b ∷ y → x ≡ y
other_bytes a b x y is = ap (λ l. elim l [ [] ↦ x | c ∷ cs ↦ cs ]) is

-- what stands before the first slash and what stands after it
pub record Halves (a b x y : List ℕ) : Type 0 where
  pub before : a ≡ b
  pub after : x ≡ y

at_slash : (a b x y : List ℕ) → NoSlash a → NoSlash b → a ++ 47 ∷ x ≡ b ++ 47 ∷ y → Halves a b x y
at_slash [] [] x y none also is = record { before = refl; after = other_bytes 47 47 x y is }
at_slash [] (c ∷ b) x y none also is = absurd (also.0 (first_byte 47 c x (b ++ 47 ∷ y) is))
at_slash (c ∷ a) [] x y none also is = absurd (none.0 (sym (first_byte c 47 (a ++ 47 ∷ x) y is)))
at_slash (c ∷ a) (d ∷ b) x y none also is =
    let rest = at_slash a b x y none.1 also.1 (other_bytes c d (a ++ 47 ∷ x) (b ++ 47 ∷ y) is) in
    let first : c ≡ d = first_byte c d (a ++ 47 ∷ x) (b ++ 47 ∷ y) is in
    record { before = ap (λ e. e ∷ a) first ∙ ap (λ l. d ∷ l) rest.before; after = rest.after }

name_bytes : (text : List ℕ) → is_name_text text ≡ true → encode_utf8_all text ≡ text
name_bytes text is = encodes-IsAscii text (name_ascii text is)

-- names with a slash after them
pub after_names : (a b x y : List ℕ) → is_name_text a ≡ true → is_name_text b ≡ true
    → encode_utf8_all a ++ 47 ∷ x ≡ encode_utf8_all b ++ 47 ∷ y → Halves a b x y
after_names a b x y is also same =
    at_slash a b x y (name_slashless a is) (name_slashless b also)
    (ap (λ l. l ++ 47 ∷ x) (sym (name_bytes a is)) ∙ (same ∙ ap (λ l. l ++ 47 ∷ y) (name_bytes b also)))

-- WHAT HAS A NAME stands at one place
module _ {A : Type 0} (name : A → List ℕ) where
  abbrev pub name_at : List A → ℕ → List ℕ
  name_at xs place = option_map_or name (slice_get xs place) []

  abbrev Apart : A → A → Type 0
  Apart a b = name a ≢ name b

  pub named_at : (xs : List A) (place : ℕ) → All (λ x. is_name_text (name x) ≡ true) xs → place < length xs → is_name_text (name_at xs place) ≡ true
  named_at [] place are within = absurd (omega (arith, within))
  named_at (x ∷ xs) zero are within = all_head (λ y. is_name_text (name y) ≡ true) x xs are
  named_at (x ∷ xs) (suc place) are within =
      named_at xs place (all_tail (λ y. is_name_text (name y) ≡ true) x xs are) (omega (arith, within))

  absent : (x : A) (xs : List A) (place : ℕ) → All (Apart x) xs → place < length xs → name x ≢ name_at xs place
  absent x [] place are within = absurd (omega (arith, within))
  absent x (y ∷ ys) zero are within = all_head (Apart x) y ys are
  absent x (y ∷ ys) (suc place) are within = absent x ys place (all_tail (Apart x) y ys are) (omega (arith, within))

  pub one_place : (xs : List A) (i j : ℕ) → AllPairs Apart xs → i < length xs → j < length xs → name_at xs i ≡ name_at xs j → i ≡ j
  one_place [] i j are within also same = absurd (omega (arith, within))
  one_place (x ∷ xs) zero zero are within also same = refl
  one_place (x ∷ xs) zero (suc j) are within also same = absurd (absent x xs j (pairs_head Apart x xs are) (omega (arith, also)) same)
  one_place (x ∷ xs) (suc i) zero are within also same = absurd (absent x xs i (pairs_head Apart x xs are) (omega (arith, within)) (sym same))
  one_place (x ∷ xs) (suc i) (suc j) are within also same =
      ap suc (one_place xs i j (pairs_tail Apart x xs are) (omega (arith, within)) (omega (arith, also)) same)

-- LINES of as many fields: a lone null is the one line without a byte
pub ok_value : {A E : Type 0} (x y : A) (r : Result A E) → r ≡ Ok x → r ≡ Ok y → x ≡ y
ok_value x y r is also = ap (λ q. elim q [ Ok z ↦ z | Err e ↦ x ]) (sym is ∙ also)

pub formed : (xs ys : List Field) → are_fields xs ≡ true → are_fields ys ≡ true → has_form xs ≡ true → has_form ys ≡ true
    → written_line xs ≡ written_line ys → xs ≡ ys
formed xs ys are also form form_too same =
    ok_value xs ys (line_of (written_line ys)) (ap line_of (sym same) ∙ written_back xs are form) (written_back ys also form_too)

no_line : {G : Type 0} (x : Field) (y : List ℕ) → written_line (field.Null ∷ []) ≡ written_line (field.Text y ∷ []) → G
no_line x y is = absurd (true≢false (ap (λ l. elim l [ [] ↦ true | c ∷ cs ↦ false ]) is))

pub same_fields : (xs ys : List Field) → are_fields xs ≡ true → are_fields ys ≡ true → length xs ≡ length ys
    → written_line xs ≡ written_line ys → xs ≡ ys
same_fields [] [] are also long same = refl
same_fields [] (y ∷ ys) are also long same = absurd (omega (arith, long))
same_fields (x ∷ xs) [] are also long same = absurd (omega (arith, long))
same_fields (field.Null ∷ []) (field.Null ∷ []) are also long same = refl
same_fields (field.Null ∷ []) (field.Text y ∷ []) are also long same = no_line field.Null y same
same_fields (field.Text x ∷ []) (field.Null ∷ []) are also long same = no_line field.Null x (sym same)
same_fields (field.Text x ∷ []) (field.Text y ∷ []) are also long same = formed (field.Text x ∷ []) (field.Text y ∷ []) are also refl refl same
same_fields (x ∷ []) (y ∷ (z ∷ ys)) are also long same = absurd (omega (arith, long))
same_fields (x ∷ (w ∷ xs)) (y ∷ []) are also long same = absurd (omega (arith, long))
same_fields (x ∷ (w ∷ xs)) (y ∷ (z ∷ ys)) are also long same =
    formed (x ∷ (w ∷ xs)) (y ∷ (z ∷ ys)) are also (long_form x w xs) (long_form y z ys) same
  where
    long_form : (x w : Field) (xs : List Field) → has_form (x ∷ (w ∷ xs)) ≡ true
    long_form field.Null w xs = refl
    long_form (field.Text text) w xs = refl

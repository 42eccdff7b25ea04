-- The UTF-8 of a character inside quotes is that character of the field.
use Rattle.std.proofs.Common.{subst, ◌≡◌, ℕ, ◌+◌, ◌-◌, ◌*◌, ◌/◌, ◌%◌, ◌<◌, ◌≤◌, List, [], ◌∷◌, ◌++◌, refl, sym, ap, ◌∙◌, Bool, true, false, ◌||◌, ◌⊎◌, inl, inr, nat_eq, Result, Ok, arith}
use Rattle.std.proofs.lemmas.Bool.Decides.{nat_tests}
use Rattle.std.proofs.lemmas.Str.{encode_ascii}
use lib.Utf8.{scalar, scalar_cases, next, encode}
use Rattle.sds_value.specs.declared.row.Field.{Field}
use Rattle.sds_line.specs.declared.partial.Partial.{Partial}
use Rattle.sds_line.specs.declared.refusal.LineRefusal.{LineRefusal}
use Rattle.sds_line.specs.declared.place.Place.TheVariants.{Quoted, Escaped}
use Rattle.sds_line.specs.Characters.{whole, lead_of, lowest, highest}
use Rattle.sds_line.specs.Reading.{HalfLine, with_byte, then_read, rest_of_line}
use Rattle.sds_line.specs.Written.{escaped}
use Rattle.sds_line.proofs.Comparisons.{lt_no, lt_yes, le_yes, eq_no, order}

-- inside quotes
abbrev pub quoted : Partial → List ℕ → List Field → HalfLine
quoted partial text fields = record { place = Quoted; partial = partial; text = text; fields = fields }

-- a byte of more than ASCII begins a character
lead_here : (a : ℕ) (text : List ℕ) (fields : List Field) → 194 ≤ a → a ≤ 244 → with_byte (quoted whole text fields) a ≡ Ok (quoted (lead_of a) text fields)
lead_here a text fields low high =
    rw (eq_no a 34 (λ e. absurd (omega arith)), eq_no a 92 (λ e. absurd (omega arith)), lt_no a 128 (omega arith), le_yes 194 a low, le_yes a 244 high) refl

lead_byte : (a : ℕ) (p : Partial) (text : List ℕ) (fields : List Field) → 194 ≤ a → a ≤ 244 → lead_of a ≡ p → with_byte (quoted whole text fields) a ≡ Ok (quoted p text fields)
lead_byte a p text fields low high is = lead_here a text fields low high ∙ ap (λ (q : Partial). Ok (quoted q text fields)) is

abbrev part : ℕ → ℕ → ℕ → ℕ → Partial
part wanted bits low high = record { wanted = wanted; bits = bits; low = low; high = high }

-- further bytes
middle_byte : (n bits low high b : ℕ) (text : List ℕ) (fields : List Field) → low ≤ b → b ≤ high → 1 < n → with_byte (quoted (part n bits low high) text fields) b ≡ Ok (quoted (part (n - 1) (bits * 64 + (b - 128)) 0x80 0xBF) text fields)
middle_byte n bits low high b text fields from to more =
    rw (lt_yes 0 n (omega arith), le_yes low b from, le_yes b high to, lt_yes 0 (n - 1) (omega arith)) refl

last_byte : (c bits low high b : ℕ) (text : List ℕ) (fields : List Field) → low ≤ b → b ≤ high → scalar c ≡ true → bits * 64 + (b - 128) ≡ c → with_byte (quoted (part 1 bits low high) text fields) b ≡ Ok (quoted whole (text ++ c ∷ []) fields)
last_byte c bits low high b text fields from to is_scalar is =
    rw (le_yes low b from, le_yes b high to, is, is_scalar) refl

-- the range of a second byte
lowest_le : (a b : ℕ) → 128 ≤ b → (a ≡ 0xE0 → 0xA0 ≤ b) → (a ≡ 0xF0 → 0x90 ≤ b) → lowest a ≤ b
lowest_le a b from e0 f0 = grind (arith, nat_tests)

le_highest : (a b : ℕ) → b ≤ 0xBF → (a ≡ 0xED → b ≤ 0x9F) → (a ≡ 0xF4 → b ≤ 0x8F) → b ≤ highest a
le_highest a b to ed f4 = grind (arith, nat_tests)

-- characters of two, three and four bytes
bytes_two : (c a b : ℕ) (text rest : List ℕ) (fields : List Field) → scalar c ≡ true → 194 ≤ a → a < 224 → 128 ≤ b → b ≤ 191 → (a - 192) * 64 + (b - 128) ≡ c →
    rest_of_line (quoted whole text fields) (a ∷ b ∷ rest) ≡ rest_of_line (quoted whole (text ++ c ∷ []) fields) rest
bytes_two c a b text rest fields is_scalar from to b_from b_to is =
    ap (λ (r : Result HalfLine LineRefusal). then_read r (λ h. rest_of_line h (b ∷ rest))) (lead_byte a (part 1 (a - 192) (lowest a) (highest a)) text fields from (omega arith) (rw (lt_no a 128 (omega arith), lt_yes a 224 to) refl))
    ∙ ap (λ (r : Result HalfLine LineRefusal). then_read r (λ h. rest_of_line h rest)) (last_byte c (a - 192) (lowest a) (highest a) b text fields (lowest_le a b b_from (λ e. absurd (omega arith)) (λ e. absurd (omega arith))) (le_highest a b b_to (λ e. absurd (omega arith)) (λ e. absurd (omega arith))) is_scalar is)

bytes_three : (c a b d : ℕ) (text rest : List ℕ) (fields : List Field) → scalar c ≡ true → 224 ≤ a → a < 240 → 128 ≤ b → b ≤ 191 → (a ≡ 0xE0 → 0xA0 ≤ b) → (a ≡ 0xED → b ≤ 0x9F) → 128 ≤ d → d ≤ 191 → ((a - 224) * 64 + (b - 128)) * 64 + (d - 128) ≡ c →
    rest_of_line (quoted whole text fields) (a ∷ b ∷ d ∷ rest) ≡ rest_of_line (quoted whole (text ++ c ∷ []) fields) rest
bytes_three c a b d text rest fields is_scalar from to b_from b_to e0 ed d_from d_to is =
    ap (λ (r : Result HalfLine LineRefusal). then_read r (λ h. rest_of_line h (b ∷ d ∷ rest))) (lead_byte a (part 2 (a - 224) (lowest a) (highest a)) text fields (omega arith) (omega arith) (rw (lt_no a 128 (omega arith), lt_no a 224 from, lt_yes a 240 to) refl))
    ∙ (ap (λ (r : Result HalfLine LineRefusal). then_read r (λ h. rest_of_line h (d ∷ rest))) (middle_byte 2 (a - 224) (lowest a) (highest a) b text fields (lowest_le a b b_from e0 (λ e. absurd (omega arith))) (le_highest a b b_to ed (λ e. absurd (omega arith))) (omega arith))
    ∙ ap (λ (r : Result HalfLine LineRefusal). then_read r (λ h. rest_of_line h rest)) (last_byte c ((a - 224) * 64 + (b - 128)) 128 191 d text fields d_from d_to is_scalar is))

bytes_four : (c a b d e : ℕ) (text rest : List ℕ) (fields : List Field) → scalar c ≡ true → 240 ≤ a → a ≤ 244 → 128 ≤ b → b ≤ 191 → (a ≡ 0xF0 → 0x90 ≤ b) → (a ≡ 0xF4 → b ≤ 0x8F) → 128 ≤ d → d ≤ 191 → 128 ≤ e → e ≤ 191 → (((a - 240) * 64 + (b - 128)) * 64 + (d - 128)) * 64 + (e - 128) ≡ c →
    rest_of_line (quoted whole text fields) (a ∷ b ∷ d ∷ e ∷ rest) ≡ rest_of_line (quoted whole (text ++ c ∷ []) fields) rest
bytes_four c a b d e text rest fields is_scalar from to b_from b_to f0 f4 d_from d_to e_from e_to is =
    ap (λ (r : Result HalfLine LineRefusal). then_read r (λ h. rest_of_line h (b ∷ d ∷ e ∷ rest))) (lead_byte a (part 3 (a - 240) (lowest a) (highest a)) text fields (omega arith) to (rw (lt_no a 128 (omega arith), lt_no a 224 (omega arith), lt_no a 240 from) refl))
    ∙ (ap (λ (r : Result HalfLine LineRefusal). then_read r (λ h. rest_of_line h (d ∷ e ∷ rest))) (middle_byte 3 (a - 240) (lowest a) (highest a) b text fields (lowest_le a b b_from (λ z. absurd (omega arith)) f0) (le_highest a b b_to (λ z. absurd (omega arith)) f4) (omega arith))
    ∙ (ap (λ (r : Result HalfLine LineRefusal). then_read r (λ h. rest_of_line h (e ∷ rest))) (middle_byte 2 ((a - 240) * 64 + (b - 128)) 128 191 d text fields d_from d_to (omega arith))
    ∙ ap (λ (r : Result HalfLine LineRefusal). then_read r (λ h. rest_of_line h rest)) (last_byte c (((a - 240) * 64 + (b - 128)) * 64 + (d - 128)) 128 191 e text fields e_from e_to is_scalar is)))

-- a character of ASCII, with a backslash before it or not
or_no : (a b : Bool) → (a || b) ≡ false → (a ≡ false) × (b ≡ false)
or_no true b e = absurd (cc)
or_no false b e = (refl, e)

plain_byte : (c : ℕ) (text : List ℕ) (fields : List Field) → c < 128 → nat_eq c 34 ≡ false → nat_eq c 92 ≡ false → with_byte (quoted whole text fields) c ≡ Ok (quoted whole (text ++ c ∷ []) fields)
plain_byte c text fields small no_quote no_backslash = rw (no_quote, no_backslash, lt_yes c 128 small) refl

special_byte : (c : ℕ) (text : List ℕ) (fields : List Field) → c < 128 → (nat_eq c 34 || nat_eq c 92) ≡ true →
    with_byte (record { place = Escaped; partial = whole; text = text; fields = fields }) c ≡ Ok (quoted whole (text ++ c ∷ []) fields)
special_byte c text fields small special = rw (special, lt_yes c 128 small) refl

one_byte : (c : ℕ) (text rest : List ℕ) (fields : List Field) → c < 128 → (t : Bool) → (nat_eq c 34 || nat_eq c 92) ≡ t →
    rest_of_line (quoted whole text fields) (escaped (c ∷ []) ++ rest) ≡ rest_of_line (quoted whole (text ++ c ∷ []) fields) rest
one_byte c text rest fields small true e =
    let after_backslash : escaped (c ∷ []) ≡ 92 ∷ c ∷ [] = rw e refl in
    ap (λ (bs : List ℕ). rest_of_line (quoted whole text fields) (bs ++ rest)) after_backslash
    ∙ ap (λ (r : Result HalfLine LineRefusal). then_read r (λ h. rest_of_line h rest)) (special_byte c text fields small e)
one_byte c text rest fields small false e =
    let tests = or_no (nat_eq c 34) (nat_eq c 92) e in
    let alone : escaped (c ∷ []) ≡ c ∷ [] = rw e refl in
    ap (λ (bs : List ℕ). rest_of_line (quoted whole text fields) (bs ++ rest)) alone
    ∙ ap (λ (r : Result HalfLine LineRefusal). then_read r (λ h. rest_of_line h rest)) (plain_byte c text fields small tests.0 tests.1)

-- no byte of a longer character has a backslash before it
unescaped : (a : ℕ) (bs : List ℕ) → 128 ≤ a → escaped (a ∷ bs) ≡ a ∷ escaped bs
unescaped a bs high = rw (eq_no a 34 (λ e. absurd (omega arith)), eq_no a 92 (λ e. absurd (omega arith))) refl

unescaped_two : (a b : ℕ) → 128 ≤ a → 128 ≤ b → escaped (a ∷ b ∷ []) ≡ a ∷ b ∷ []
unescaped_two a b h i = unescaped a (b ∷ []) h ∙ ap (λ (bs : List ℕ). a ∷ bs) (unescaped b [] i)

unescaped_three : (a b d : ℕ) → 128 ≤ a → 128 ≤ b → 128 ≤ d → escaped (a ∷ b ∷ d ∷ []) ≡ a ∷ b ∷ d ∷ []
unescaped_three a b d h i j = unescaped a (b ∷ d ∷ []) h ∙ ap (λ (bs : List ℕ). a ∷ bs) (unescaped_two b d i j)

unescaped_four : (a b d e : ℕ) → 128 ≤ a → 128 ≤ b → 128 ≤ d → 128 ≤ e → escaped (a ∷ b ∷ d ∷ e ∷ []) ≡ a ∷ b ∷ d ∷ e ∷ []
unescaped_four a b d e h i j k = unescaped a (b ∷ d ∷ e ∷ []) h ∙ ap (λ (bs : List ℕ). a ∷ bs) (unescaped_three b d e i j k)

two : (c : ℕ) → 128 ≤ c → c < 2048 → encode c ≡ (192 + c / 64) ∷ next c ∷ []
unfolding encode
two c l h = rw (lt_no c 128 l, lt_yes c 2048 h) refl

three : (c : ℕ) → 2048 ≤ c → c < 65536 → encode c ≡ (224 + c / 4096) ∷ next (c / 64) ∷ next c ∷ []
unfolding encode
three c l h = rw (lt_no c 128 (omega arith), lt_no c 2048 l, lt_yes c 65536 h) refl

four : (c : ℕ) → 65536 ≤ c → encode c ≡ (240 + c / 262144) ∷ next (c / 4096) ∷ next (c / 64) ∷ next c ∷ []
unfolding encode
four c l = rw (lt_no c 128 (omega arith), lt_no c 2048 (omega arith), lt_no c 65536 l) refl

abbrev Reads : ℕ → List ℕ → Type 0
Reads c bytes = (text rest : List ℕ) (fields : List Field) → rest_of_line (quoted whole text fields) (bytes ++ rest) ≡ rest_of_line (quoted whole (text ++ c ∷ []) fields) rest

by_two : (c : ℕ) → scalar c ≡ true → 128 ≤ c → c < 2048 → Reads c (escaped (encode c))
by_two c is_scalar l h = subst (Reads c) (sym (ap escaped (two c l h) ∙ unescaped_two (192 + c / 64) (128 + c % 64) (omega arith) (omega arith)))
    (λ text rest fields. bytes_two c (192 + c / 64) (128 + c % 64) text rest fields is_scalar (omega arith) (omega arith) (omega arith) (omega arith) (omega arith))

by_three : (c : ℕ) → scalar c ≡ true → (c < 55296) ⊎ ((57344 ≤ c) × (c < 1114112)) → 2048 ≤ c → c < 65536 → Reads c (escaped (encode c))
by_three c is_scalar range l h = subst (Reads c) (sym (ap escaped (three c l h) ∙ unescaped_three (224 + c / 4096) (128 + (c / 64) % 64) (128 + c % 64) (omega arith) (omega arith) (omega arith)))
    (λ text rest fields. bytes_three c (224 + c / 4096) (128 + (c / 64) % 64) (128 + c % 64) text rest fields is_scalar (omega arith) (omega arith) (omega arith) (omega arith) (λ e. omega arith) (surrogate range) (omega arith) (omega arith) (omega arith))
  where
    surrogate : (c < 55296) ⊎ ((57344 ≤ c) × (c < 1114112)) → 224 + c / 4096 ≡ 0xED → 128 + (c / 64) % 64 ≤ 0x9F
    surrogate (inl low) e = omega arith
    surrogate (inr high) e = absurd (omega arith)

by_four : (c : ℕ) → scalar c ≡ true → (c < 55296) ⊎ ((57344 ≤ c) × (c < 1114112)) → 65536 ≤ c → Reads c (escaped (encode c))
by_four c is_scalar (inl low) l = absurd (omega arith)
by_four c is_scalar (inr high) l = let top : c < 1114112 = high.1 in subst (Reads c) (sym (ap escaped (four c l) ∙ unescaped_four (240 + c / 262144) (128 + (c / 4096) % 64) (128 + (c / 64) % 64) (128 + c % 64) (omega arith) (omega arith) (omega arith) (omega arith)))
    (λ text rest fields. bytes_four c (240 + c / 262144) (128 + (c / 4096) % 64) (128 + (c / 64) % 64) (128 + c % 64) text rest fields is_scalar (omega arith) (omega arith) (omega arith) (omega arith) (λ e. omega arith) (λ e. omega arith) (omega arith) (omega arith) (omega arith) (omega arith) (omega arith))

by_range : (c : ℕ) → scalar c ≡ true → (c < 128) ⊎ (128 ≤ c) → (c < 2048) ⊎ (2048 ≤ c) → (c < 65536) ⊎ (65536 ≤ c) → Reads c (escaped (encode c))
by_range c is_scalar (inl small) _ _ = subst (Reads c) (sym (ap escaped (encode_ascii c small))) (λ text rest fields. one_byte c text rest fields small (nat_eq c 34 || nat_eq c 92) refl)
by_range c is_scalar (inr l) (inl h) _ = by_two c is_scalar l h
by_range c is_scalar (inr _) (inr l) (inl h) = by_three c is_scalar (scalar_cases c is_scalar) l h
by_range c is_scalar (inr _) (inr _) (inr l) = by_four c is_scalar (scalar_cases c is_scalar) l

pub quoted_character : (c : ℕ) → scalar c ≡ true → (text rest : List ℕ) (fields : List Field) → rest_of_line (quoted whole text fields) (escaped (encode c) ++ rest) ≡ rest_of_line (quoted whole (text ++ c ∷ []) fields) rest
quoted_character c is_scalar = by_range c is_scalar (order c 128) (order c 2048) (order c 65536)

-- From each front of a line that is not refused some way to go on is a line.
use Rattle.std.proofs.Common.{◌≡◌, ℕ, zero, suc, ◌+◌, ◌-◌, ◌*◌, ◌<◌, ◌≤◌, List, [], ◌∷◌, ◌++◌, refl, sym, ap, ◌∙◌, Bool, true, false, nat_lt, nat_le, Result, Ok, Err, arith, subst, if◌then◌else◌}
use Rattle.std.proofs.lemmas.Bool.Decides.{nat_tests}
use lib.Utf8.{scalar}
use Rattle.sds_value.specs.declared.row.Field.{Field}
use Rattle.sds_line.specs.declared.partial.Partial.{Partial}
use Rattle.sds_line.specs.declared.place.Place.{Place}
use Rattle.sds_line.specs.declared.place.Place.TheVariants.{Start, Before, Plain, Quoted, Escaped, Behind, Comment}
use Rattle.sds_line.specs.declared.place.Act.{Act}
use Rattle.sds_line.specs.declared.place.Act.TheVariants.{Pass, Add, Divide, Refuse}
use Rattle.sds_line.specs.declared.refusal.LineRefusal.{LineRefusal}
use Rattle.sds_line.specs.declared.refusal.LineRefusal.TheVariants.{NotUtf8}
use Rattle.sds_line.specs.Places.{act_of}
use Rattle.sds_line.specs.Characters.{whole, is_lead, lead_of, lowest, highest, continues, next_of}
use Rattle.sds_line.specs.Reading.{HalfLine, empty_line, with_byte, with_bytes, with_character, begun, gone_on, acted, then_read, then_go, rest_of_line, field_at, line_of}
use Rattle.sds_line.proofs.Comparisons.{lt_no, lt_yes, le_yes, lt_from, ge_from, le_from, both}

-- Every way to go on within the ranges is a character, and there is one.
abbrev pub Goes : ℕ → Partial → Type 0
Goes zero p = Unit {0}
Goes (suc zero) p = (p.low ≤ p.high) × ((b : ℕ) → p.low ≤ b → b ≤ p.high → scalar (p.bits * 64 + (b - 128)) ≡ true)
Goes (suc (suc n)) p = (p.low ≤ p.high) × ((b : ℕ) → p.low ≤ b → b ≤ p.high → Goes (suc n) (next_of p b))

pub record Sound (p : Partial) : Type 0 where
  pub count : ℕ
  pub wanted : p.wanted ≡ count
  pub goes : Goes count p

low_scalar : (c : ℕ) → c < 55296 → scalar c ≡ true
low_scalar c h = rw (lt_yes c 55296 h) refl

high_scalar : (c : ℕ) → 57344 ≤ c → c < 1114112 → scalar c ≡ true
high_scalar c h i = rw (lt_no c 55296 (omega arith), le_yes 57344 c h, lt_yes c 1114112 i) refl

-- the ranges of second bytes
lowest_at : (a b : ℕ) → lowest a ≤ b → (128 ≤ b) × (a ≡ 0xE0 → 0xA0 ≤ b) × (a ≡ 0xF0 → 0x90 ≤ b)
lowest_at a b h = (grind (arith, nat_tests), grind (arith, nat_tests), grind (arith, nat_tests))

highest_at : (a b : ℕ) → b ≤ highest a → (b ≤ 0xBF) × (a ≡ 0xED → b ≤ 0x9F) × (a ≡ 0xF4 → b ≤ 0x8F)
highest_at a b h = (grind (arith, nat_tests), grind (arith, nat_tests), grind (arith, nat_tests))

ranges_meet : (a : ℕ) → lowest a ≤ highest a
ranges_meet a = grind (arith, nat_tests)

three_scalar : (a b d : ℕ) → 224 ≤ a → a < 240 → lowest a ≤ b → b ≤ highest a → 128 ≤ d → d ≤ 191 → scalar (((a - 224) * 64 + (b - 128)) * 64 + (d - 128)) ≡ true
three_scalar a b d from to low high d_from d_to = at (lowest_at a b low).0 (highest_at a b high).0 (highest_at a b high).1 (nat_lt a 237) refl (nat_lt a 238) refl
  where
    at : 128 ≤ b → b ≤ 0xBF → (a ≡ 0xED → b ≤ 0x9F) → (s : Bool) → nat_lt a 237 ≡ s → (t : Bool) → nat_lt a 238 ≡ t → scalar (((a - 224) * 64 + (b - 128)) * 64 + (d - 128)) ≡ true
    at b_from b_to ed true e t f = let below : a < 237 = lt_from a 237 e in low_scalar (((a - 224) * 64 + (b - 128)) * 64 + (d - 128)) (omega arith)
    at b_from b_to ed false e true f =
        let above : 237 ≤ a = ge_from a 237 e in
        let below : a < 238 = lt_from a 238 f in
        let b_low : b ≤ 0x9F = ed (omega arith) in
        low_scalar (((a - 224) * 64 + (b - 128)) * 64 + (d - 128)) (omega arith)
    at b_from b_to ed false e false f = let above : 238 ≤ a = ge_from a 238 f in high_scalar (((a - 224) * 64 + (b - 128)) * 64 + (d - 128)) (omega arith) (omega arith)

four_low : (a b d e : ℕ) → 240 ≤ a → 128 ≤ b → (a ≡ 0xF0 → 0x90 ≤ b) → (t : Bool) → nat_lt a 241 ≡ t → 57344 ≤ (((a - 240) * 64 + (b - 128)) * 64 + (d - 128)) * 64 + (e - 128)
four_low a b d e from b_from f0 true is = let below : a < 241 = lt_from a 241 is in let b_high : 0x90 ≤ b = f0 (omega arith) in omega arith
four_low a b d e from b_from f0 false is = let above : 241 ≤ a = ge_from a 241 is in omega arith

four_high : (a b d e : ℕ) → 240 ≤ a → a ≤ 244 → b ≤ 0xBF → d ≤ 191 → e ≤ 191 → (a ≡ 0xF4 → b ≤ 0x8F) → (t : Bool) → nat_lt a 244 ≡ t → (((a - 240) * 64 + (b - 128)) * 64 + (d - 128)) * 64 + (e - 128) < 1114112
four_high a b d e from to b_to d_to e_to f4 true is = let below : a < 244 = lt_from a 244 is in omega arith
four_high a b d e from to b_to d_to e_to f4 false is = let above : 244 ≤ a = ge_from a 244 is in let b_low : b ≤ 0x8F = f4 (omega arith) in omega arith

four_scalar : (a b d e : ℕ) → 240 ≤ a → a ≤ 244 → lowest a ≤ b → b ≤ highest a → 128 ≤ d → d ≤ 191 → 128 ≤ e → e ≤ 191 → scalar ((((a - 240) * 64 + (b - 128)) * 64 + (d - 128)) * 64 + (e - 128)) ≡ true
four_scalar a b d e from to low high d_from d_to e_from e_to =
    high_scalar ((((a - 240) * 64 + (b - 128)) * 64 + (d - 128)) * 64 + (e - 128))
    (four_low a b d e from (lowest_at a b low).0 (lowest_at a b low).2 (nat_lt a 241) refl)
    (four_high a b d e from to (highest_at a b high).0 d_to e_to (highest_at a b high).2 (nat_lt a 244) refl)

abbrev part : ℕ → ℕ → ℕ → ℕ → Partial
part wanted bits low high = record { wanted = wanted; bits = bits; low = low; high = high }

two_scalar : (a b : ℕ) → 192 ≤ a → a < 224 → b ≤ highest a → scalar ((a - 192) * 64 + (b - 128)) ≡ true
two_scalar a b from to high = let h = highest_at a b high in let b_to : b ≤ 0xBF = h.0 in low_scalar ((a - 192) * 64 + (b - 128)) (omega arith)

-- what follows a first byte
sound_lead : (a : ℕ) → is_lead a ≡ true → Sound (lead_of a)
sound_lead a is = at (le_from 0xC2 a (both (nat_le 0xC2 a) (nat_le a 0xF4) is).0) (le_from a 0xF4 (both (nat_le 0xC2 a) (nat_le a 0xF4) is).1) (nat_lt a 224) refl (nat_lt a 240) refl
  where
    at : 0xC2 ≤ a → a ≤ 0xF4 → (s : Bool) → nat_lt a 224 ≡ s → (t : Bool) → nat_lt a 240 ≡ t → Sound (lead_of a)
    at from to true e t f =
        let is_two : part 1 (a - 192) (lowest a) (highest a) ≡ lead_of a = rw (lt_no a 128 (omega arith), e) refl in
        let below : a < 224 = lt_from a 224 e in
        subst Sound is_two (record { count = 1; wanted = refl; goes = (ranges_meet a, λ b low high. two_scalar a b (omega arith) below high) })
    at from to false e true f =
        let is_three : part 2 (a - 224) (lowest a) (highest a) ≡ lead_of a = rw (lt_no a 128 (omega arith), e, f) refl in
        let above : 224 ≤ a = ge_from a 224 e in
        let below : a < 240 = lt_from a 240 f in
        subst Sound is_three (record { count = 2; wanted = refl; goes = (ranges_meet a, λ b low high. (omega arith, λ d d_from d_to. three_scalar a b d above below low high d_from d_to)) })
    at from to false e false f =
        let is_four : part 3 (a - 240) (lowest a) (highest a) ≡ lead_of a = rw (lt_no a 128 (omega arith), e, f) refl in
        let above : 240 ≤ a = ge_from a 240 f in
        subst Sound is_four (record { count = 3; wanted = refl; goes = (ranges_meet a, λ b low high. (omega arith, λ d d_from d_to. (omega arith, λ e' e_from e_to. four_scalar a b d e' above to low high d_from d_to e_from e_to))) })

sound_whole : (p : Partial) → p.wanted ≡ 0 → Sound p
sound_whole p is = record { count = 0; wanted = is; goes = tt }

-- what follows a further byte
sound_next : (p : Partial) (b : ℕ) → 0 < p.wanted → p.low ≤ b → b ≤ p.high → Sound p → Sound (next_of p b)
sound_next p b more low high s = at s.count s.wanted s.goes
  where
    at : (n : ℕ) → p.wanted ≡ n → Goes n p → Sound (next_of p b)
    at zero is goes = absurd (omega arith)
    at (suc zero) is goes = record { count = 0; wanted = omega arith; goes = tt }
    at (suc (suc n)) is goes = record { count = suc n; wanted = omega arith; goes = goes.1 b low high }

partial_kept : (place : Place) (c : ℕ) (h : HalfLine) → (with_character place c h).partial ≡ h.partial
partial_kept Start c h = refl
partial_kept Before c h = refl
partial_kept Plain c h = refl
partial_kept Quoted c h = refl
partial_kept Escaped c h = refl
partial_kept Behind c h = refl
partial_kept Comment c h = refl

sound_on : (h k : HalfLine) (next : Partial) (wants is : Bool) → nat_lt 0 next.wanted ≡ wants → scalar next.bits ≡ is → Sound next → gone_on h next ≡ Ok k → Sound k.partial
sound_on h k next true is e f s g = let g' : Ok (record h { partial = next }) ≡ Ok k = rw e at g in let same : record h { partial = next } ≡ k = cc in subst (λ (x : HalfLine). Sound x.partial) same s
sound_on h k next false true e f s g =
    let g' : Ok (with_character h.place next.bits (record h { partial = whole })) ≡ Ok k = rw (e, f) at g in
    let same : with_character h.place next.bits (record h { partial = whole }) ≡ k = cc in
    subst (λ (x : HalfLine). Sound x.partial) same (subst Sound (sym (partial_kept h.place next.bits (record h { partial = whole }))) (sound_whole whole refl))
sound_on h k next false false e f s g = let g' = rw (e, f) at g in absurd (cc)

chosen : (t u : Bool) (x y z : Result HalfLine LineRefusal) → t ≡ false → u ≡ true → (if t then x else if u then y else z) ≡ y
chosen t u x y z e f = rw (e, f) refl

sound_begun : (h k : HalfLine) (place : Place) (b : ℕ) (ascii is : Bool) → nat_lt b 128 ≡ ascii → is_lead b ≡ is → Sound h.partial → begun h place b ≡ Ok k → Sound k.partial
sound_begun h k place b true is e f s g =
    let g' : Ok (with_character place b h) ≡ Ok k = rw e at g in
    let same : with_character place b h ≡ k = cc in
    subst (λ (x : HalfLine). Sound x.partial) same (subst Sound (sym (partial_kept place b h)) s)
sound_begun h k place b false true e f s g =
    let g' = sym (chosen (nat_lt b 128) (is_lead b) (Ok (with_character place b h)) (Ok (record h { place = place; partial = lead_of b })) (Err NotUtf8) e f) ∙ g in
    let same : record h { place = place; partial = lead_of b } ≡ k = cc in
    subst (λ (x : HalfLine). Sound x.partial) same (sound_lead b f)
sound_begun h k place b false false e f s g = let g' = rw (e, f) at g in absurd (cc)

sound_act : (h k : HalfLine) (b : ℕ) (act : Act) → Sound h.partial → acted h b act ≡ Ok k → Sound k.partial
sound_act h k b (Pass place) s g = let same : record h { place = place } ≡ k = cc in subst (λ (x : HalfLine). Sound x.partial) same s
sound_act h k b (Add place) s g = sound_begun h k place b (nat_lt b 128) (is_lead b) refl refl s g
sound_act h k b Divide s g =
    let same : record h { place = Before; text = []; fields = h.fields ++ field_at h.place h.text ∷ [] } ≡ k = cc in
    subst (λ (x : HalfLine). Sound x.partial) same s
sound_act h k b (Refuse refusal) s g = absurd (cc)

sound_byte : (h k : HalfLine) (b : ℕ) (wants goes : Bool) → nat_lt 0 h.partial.wanted ≡ wants → continues h.partial b ≡ goes → Sound h.partial → with_byte h b ≡ Ok k → Sound k.partial
sound_byte h k b true true e f s g =
    let ranges = both (nat_le h.partial.low b) (nat_le b h.partial.high) f in
    sound_on h k (next_of h.partial b) (nat_lt 0 (h.partial.wanted - 1)) (scalar (next_of h.partial b).bits) refl refl
    (sound_next h.partial b (lt_from 0 h.partial.wanted e) (le_from h.partial.low b ranges.0) (le_from b h.partial.high ranges.1) s) (rw (e, f) at g)
sound_byte h k b true false e f s g = let g' = rw (e, f) at g in absurd (cc)
sound_byte h k b false goes e f s g = sound_act h k b (act_of h.place b) s (rw e at g)

sound_bytes : (bytes : List ℕ) (h k : HalfLine) → Sound h.partial → with_bytes h bytes ≡ Ok k → Sound k.partial
sound_bytes [] h k s is = let same : h ≡ k = cc in subst (λ (x : HalfLine). Sound x.partial) same s
sound_bytes (b ∷ bytes) h k s is = at (with_byte h b) refl is (λ next t e. sound_bytes bytes next k t e)
  where
    at : (r : Result HalfLine LineRefusal) → with_byte h b ≡ r → then_go r (λ next. with_bytes next bytes) ≡ Ok k → ((next : HalfLine) → Sound next.partial → with_bytes next bytes ≡ Ok k → Sound k.partial) → Sound k.partial
    at (Err refusal) e f more = absurd (cc)
    at (Ok next) e f more = more next (sound_byte h next b (nat_lt 0 h.partial.wanted) (continues h.partial b) refl refl s e) f

-- some way to go on is a line
abbrev pub CanEnd : HalfLine → Type 0
CanEnd h = (more : List ℕ) × (fields : List Field) × (rest_of_line h more ≡ Ok fields)

one_byte_more : (h next : HalfLine) (b : ℕ) → with_byte h b ≡ Ok next → CanEnd next → CanEnd h
one_byte_more h next b is can = (b ∷ can.0, can.1, ap (λ (r : Result HalfLine LineRefusal). then_read r (λ k. rest_of_line k can.0)) is ∙ can.2)

between : (place : Place) (partial : Partial) (text : List ℕ) (fields : List Field) → nat_lt 0 partial.wanted ≡ false → CanEnd (record { place = place; partial = partial; text = text; fields = fields })
between Start partial text fields e = ([], [], rw e refl)
between Before partial text fields e = ([], fields ++ field_at Before text ∷ [], rw e refl)
between Plain partial text fields e = ([], fields ++ field_at Plain text ∷ [], rw e refl)
between Behind partial text fields e = ([], fields ++ field_at Behind text ∷ [], rw e refl)
between Comment partial text fields e = ([], [], rw e refl)
between Quoted partial text fields e =
    one_byte_more (record { place = Quoted; partial = partial; text = text; fields = fields }) (record { place = Behind; partial = partial; text = text; fields = fields }) 34 (rw e refl)
    ([], fields ++ field_at Behind text ∷ [], rw e refl)
between Escaped partial text fields e =
    one_byte_more (record { place = Escaped; partial = partial; text = text; fields = fields }) (record { place = Quoted; partial = partial; text = text ++ 34 ∷ []; fields = fields }) 34 (rw e refl)
    (one_byte_more (record { place = Quoted; partial = partial; text = text ++ 34 ∷ []; fields = fields }) (record { place = Behind; partial = partial; text = text ++ 34 ∷ []; fields = fields }) 34 (rw e refl)
    ([], fields ++ field_at Behind (text ++ 34 ∷ []) ∷ [], rw e refl))

last_more : (h : HalfLine) (p : Partial) (b : ℕ) → h.partial ≡ p → nat_lt 0 p.wanted ≡ true → nat_le p.low b ≡ true → nat_le b p.high ≡ true → nat_lt 0 (p.wanted - 1) ≡ false → scalar (p.bits * 64 + (b - 128)) ≡ true →
    with_byte h b ≡ Ok (with_character h.place (p.bits * 64 + (b - 128)) (record h { partial = whole }))
last_more h p b is more low high last is_scalar = rw (is, more, low, high, last, is_scalar) refl

middle_more : (h : HalfLine) (b : ℕ) → nat_lt 0 h.partial.wanted ≡ true → nat_le h.partial.low b ≡ true → nat_le b h.partial.high ≡ true → nat_lt 0 (h.partial.wanted - 1) ≡ true →
    with_byte h b ≡ Ok (record h { partial = next_of h.partial b })
middle_more h b more low high last = rw (more, low, high, last) refl

can_end : (n : ℕ) (h : HalfLine) → h.partial.wanted ≡ n → Goes n h.partial → CanEnd h
can_end zero h is goes = between h.place h.partial h.text h.fields (lt_no 0 h.partial.wanted (omega arith))
can_end (suc zero) h is goes =
    let c = h.partial.bits * 64 + (h.partial.low - 128) in
    let next = with_character h.place c (record h { partial = whole }) in
    one_byte_more h next h.partial.low
    (last_more h h.partial h.partial.low refl (lt_yes 0 h.partial.wanted (omega arith)) (le_yes h.partial.low h.partial.low (omega arith)) (le_yes h.partial.low h.partial.high goes.0) (lt_no 0 (h.partial.wanted - 1) (omega arith)) (goes.1 h.partial.low (omega arith) goes.0))
    (between next.place next.partial next.text next.fields (ap (λ (p : Partial). nat_lt 0 p.wanted) (partial_kept h.place c (record h { partial = whole }))))
can_end (suc (suc n)) h is goes =
    one_byte_more h (record h { partial = next_of h.partial h.partial.low }) h.partial.low
    (middle_more h h.partial.low (lt_yes 0 h.partial.wanted (omega arith)) (le_yes h.partial.low h.partial.low (omega arith)) (le_yes h.partial.low h.partial.high goes.0) (lt_yes 0 (h.partial.wanted - 1) (omega arith)))
    (can_end (suc n) (record h { partial = next_of h.partial h.partial.low }) (omega arith) (goes.1 h.partial.low (omega arith) goes.0))

-- a front and what follows it
through : (front : List ℕ) (h k : HalfLine) (more : List ℕ) → with_bytes h front ≡ Ok k → rest_of_line h (front ++ more) ≡ rest_of_line k more
through [] h k more is = let same : h ≡ k = cc in ap (λ (x : HalfLine). rest_of_line x more) same
through (b ∷ front) h k more is = at (with_byte h b) is (λ next e. through front next k more e)
  where
    at : (r : Result HalfLine LineRefusal) → then_go r (λ next. with_bytes next front) ≡ Ok k → ((next : HalfLine) → with_bytes next front ≡ Ok k → rest_of_line next (front ++ more) ≡ rest_of_line k more) →
        then_read r (λ next. rest_of_line next (front ++ more)) ≡ rest_of_line k more
    at (Err refusal) f same = absurd (cc)
    at (Ok next) f same = same next f

pub hopeless : (front more : List ℕ) (refusal : LineRefusal) → with_bytes empty_line front ≡ Err refusal → line_of (front ++ more) ≡ Err refusal
hopeless front more refusal is = refused front empty_line is
  where
    refused : (bytes : List ℕ) (h : HalfLine) → with_bytes h bytes ≡ Err refusal → rest_of_line h (bytes ++ more) ≡ Err refusal
    refused [] h e = absurd (cc)
    refused (b ∷ bytes) h e = at (with_byte h b) e (λ next f. refused bytes next f)
      where
        at : (r : Result HalfLine LineRefusal) → then_go r (λ next. with_bytes next bytes) ≡ Err refusal → ((next : HalfLine) → with_bytes next bytes ≡ Err refusal → rest_of_line next (bytes ++ more) ≡ Err refusal) →
            then_read r (λ next. rest_of_line next (bytes ++ more)) ≡ Err refusal
        at (Err other) f same = cc
        at (Ok next) f same = same next f

pub hopeful : (front : List ℕ) (half : HalfLine) → with_bytes empty_line front ≡ Ok half → (more : List ℕ) × (fields : List Field) × (line_of (front ++ more) ≡ Ok fields)
hopeful front half is =
    let s = sound_bytes front empty_line half (sound_whole whole refl) is in
    let can = can_end s.count half s.wanted s.goes in
    (can.0, can.1, through front empty_line half can.0 is ∙ can.2)

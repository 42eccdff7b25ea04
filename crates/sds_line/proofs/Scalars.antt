-- The fields of a text's lines are made of characters.
use Rattle.std.proofs.Common.{◌≡◌, ℕ, ◌<◌, List, [], ◌∷◌, ◌++◌, refl, Bool, true, false, ◌&&◌, nat_eq, nat_lt, nat_le, Option, Some, None, Result, Ok, Err, arith, if◌then◌else◌}
use Rattle.std.specs.Prelude.{All, IfOk}
use Rattle.std.specs.Str.{all_scalars}
use Rattle.std.proofs.Math.Utf8.{low_scalar}
use Rattle.std.proofs.lemmas.List.Elements.{All-nil, All-cons, All-append}
use lib.Utf8.{scalar}
use Rattle.sds_value.specs.declared.row.Field.{Field}
use Rattle.sds_line.specs.declared.line.Line.{Line}
use Rattle.sds_line.specs.declared.partial.Partial.{Partial}
use Rattle.sds_line.specs.declared.place.Place.{Place}
use Rattle.sds_line.specs.declared.place.Place.TheVariants.{Start, Before, Plain, Quoted, Escaped, Behind, Comment}
use Rattle.sds_line.specs.declared.place.Act.{Act}
use Rattle.sds_line.specs.declared.place.Act.TheVariants.{Pass, Add, Divide, Refuse}
use Rattle.sds_line.specs.declared.refusal.LineRefusal.{LineRefusal}
use Rattle.sds_line.specs.Places.{act_of, is_spacing}
use Rattle.sds_line.specs.Characters.{is_lead, continues, next_of}
use Rattle.sds_line.specs.Reading.{HalfLine, kept_before, without_end_spacing, field_at, with_character, begun, gone_on, acted, with_byte, fields_of, is_inside, ended_line}
use Rattle.sds_line.specs.Splitting.{LastLine, Split, line_at, and_then, one_byte, split, ended, is_end, lengthened, text_end, lines_in}
use Rattle.sds_line.specs.Written.{is_field, are_fields}
use Rattle.sds_line.proofs.Comparisons.{both, lt_from}

-- what has come of a line is made of characters, as far as it is kept
record IsOfCharacters (h : HalfLine) : Type 0 where
  text : all_scalars h.text ≡ true
  fields : are_fields h.fields ≡ true

together : (a b : Bool) → a ≡ true → b ≡ true → (a && b) ≡ true
together a b e f = rw (e, f) refl

scalars_pushed : (text : List ℕ) (c : ℕ) → all_scalars text ≡ true → scalar c ≡ true → all_scalars (text ++ c ∷ []) ≡ true
scalars_pushed [] c all last = together (scalar c) true last refl
scalars_pushed (d ∷ ds) c all last =
    let two = both (scalar d) (all_scalars ds) all in
    together (scalar d) (all_scalars (ds ++ c ∷ [])) two.0 (scalars_pushed ds c two.1 last)

fields_pushed : (fields : List Field) (field : Field) → are_fields fields ≡ true → is_field field ≡ true → are_fields (fields ++ field ∷ []) ≡ true
fields_pushed [] field all last = together (is_field field) true last refl
fields_pushed (f ∷ fs) field all last =
    let two = both (is_field f) (are_fields fs) all in
    together (is_field f) (are_fields (fs ++ field ∷ [])) two.0 (fields_pushed fs field two.1 last)

kept_scalars : (c : ℕ) (rest : List ℕ) → scalar c ≡ true → all_scalars rest ≡ true → all_scalars (kept_before c rest) ≡ true
kept_scalars c [] first all = at (is_spacing c)
  where
    at : (t : Bool) → all_scalars (if t then [] else c ∷ []) ≡ true
    at true = refl
    at false = together (scalar c) true first refl
kept_scalars c (d ∷ ds) first all = together (scalar c) (all_scalars (d ∷ ds)) first all

trimmed_scalars : (text : List ℕ) → all_scalars text ≡ true → all_scalars (without_end_spacing text) ≡ true
trimmed_scalars [] all = refl
trimmed_scalars (c ∷ cs) all =
    let two = both (scalar c) (all_scalars cs) all in
    kept_scalars c (without_end_spacing cs) two.0 (trimmed_scalars cs two.1)

field_scalars : (place : Place) (text : List ℕ) → all_scalars text ≡ true → is_field (field_at place text) ≡ true
field_scalars Start text all = refl
field_scalars Before text all = refl
field_scalars Plain text all = trimmed_scalars text all
field_scalars Quoted text all = refl
field_scalars Escaped text all = refl
field_scalars Behind text all = all
field_scalars Comment text all = refl

-- one more character
character_added : (place : Place) (c : ℕ) (h : HalfLine) → IsOfCharacters h → scalar c ≡ true → IsOfCharacters (with_character place c h)
character_added Start c h is last = record { text = scalars_pushed h.text c is.text last; fields = is.fields }
character_added Before c h is last = record { text = scalars_pushed h.text c is.text last; fields = is.fields }
character_added Plain c h is last = record { text = scalars_pushed h.text c is.text last; fields = is.fields }
character_added Quoted c h is last = record { text = scalars_pushed h.text c is.text last; fields = is.fields }
character_added Escaped c h is last = record { text = scalars_pushed h.text c is.text last; fields = is.fields }
character_added Behind c h is last = record { text = scalars_pushed h.text c is.text last; fields = is.fields }
character_added Comment c h is last = record { text = is.text; fields = is.fields }

-- one more byte
begun_kept : (h : HalfLine) (place : Place) (b : ℕ) → IsOfCharacters h → IfOk (begun h place b) IsOfCharacters
begun_kept h place b is = at (nat_lt b 128) (is_lead b) refl refl
  where
    at : (small lead : Bool) → nat_lt b 128 ≡ small → is_lead b ≡ lead → IfOk (begun h place b) IsOfCharacters
    at true lead e f =
        let below : b < 128 = lt_from b 128 e in
        rw e (character_added place b h is (low_scalar b (omega arith)))
    at false true e f = rw (e, f) (record { text = is.text; fields = is.fields })
    at false false e f = rw (e, f) tt

gone_on_kept : (h : HalfLine) (next : Partial) → IsOfCharacters h → IfOk (gone_on h next) IsOfCharacters
gone_on_kept h next is = at (nat_lt 0 next.wanted) (scalar next.bits) refl refl
  where
    at : (more whole : Bool) → nat_lt 0 next.wanted ≡ more → scalar next.bits ≡ whole → IfOk (gone_on h next) IsOfCharacters
    at true whole e f = rw e (record { text = is.text; fields = is.fields })
    at false true e f = rw (e, f) (character_added h.place next.bits _ (record { text = is.text; fields = is.fields }) f)
    at false false e f = rw (e, f) tt

acted_kept : (h : HalfLine) (b : ℕ) (act : Act) → IsOfCharacters h → IfOk (acted h b act) IsOfCharacters
acted_kept h b (Pass place) is = record { text = is.text; fields = is.fields }
acted_kept h b (Add place) is = begun_kept h place b is
acted_kept h b Divide is = record { text = refl; fields = fields_pushed h.fields (field_at h.place h.text) is.fields (field_scalars h.place h.text is.text) }
acted_kept h b (Refuse refusal) is = tt

with_byte_kept : (h : HalfLine) (b : ℕ) → IsOfCharacters h → IfOk (with_byte h b) IsOfCharacters
with_byte_kept h b is = at (nat_lt 0 h.partial.wanted) (continues h.partial b) refl refl
  where
    at : (wants may : Bool) → nat_lt 0 h.partial.wanted ≡ wants → continues h.partial b ≡ may → IfOk (with_byte h b) IsOfCharacters
    at true true e f = rw (e, f) (gone_on_kept h (next_of h.partial b) is)
    at true false e f = rw (e, f) tt
    at false may e f = rw e (acted_kept h b (act_of h.place b) is)

-- the end of a line
fields_kept : (place : Place) (h : HalfLine) → IsOfCharacters h → are_fields (fields_of place h) ≡ true
fields_kept Start h is = refl
fields_kept Before h is = fields_pushed h.fields (field_at Before h.text) is.fields (field_scalars Before h.text is.text)
fields_kept Plain h is = fields_pushed h.fields (field_at Plain h.text) is.fields (field_scalars Plain h.text is.text)
fields_kept Quoted h is = fields_pushed h.fields (field_at Quoted h.text) is.fields (field_scalars Quoted h.text is.text)
fields_kept Escaped h is = fields_pushed h.fields (field_at Escaped h.text) is.fields (field_scalars Escaped h.text is.text)
fields_kept Behind h is = fields_pushed h.fields (field_at Behind h.text) is.fields (field_scalars Behind h.text is.text)
fields_kept Comment h is = refl

ended_line_kept : (h : HalfLine) → IsOfCharacters h → IfOk (ended_line h) (λ fields. are_fields fields ≡ true)
ended_line_kept h is = at (nat_lt 0 h.partial.wanted) (is_inside h.place) refl refl
  where
    at : (wants inside : Bool) → nat_lt 0 h.partial.wanted ≡ wants → is_inside h.place ≡ inside → IfOk (ended_line h) (λ fields. are_fields fields ≡ true)
    at true inside e f = rw e tt
    at false true e f = rw (e, f) tt
    at false false e f = rw (e, f) (fields_kept h.place h is)

-- the line's fields are made of characters
abbrev HasCharacters : Line → Type 0
HasCharacters line = are_fields line.fields ≡ true

-- so are those of each line that is split, and what has come of the line that has not ended
record AllOfCharacters (s : Split) : Type 0 where
  lines : All HasCharacters s.lines
  last : IsOfCharacters s.last.half

ended_kept : (u : LastLine) (r : Result (List Field) LineRefusal) → IsOfCharacters u.half → IfOk r (λ fields. are_fields fields ≡ true) → AllOfCharacters (ended u r)
ended_kept u (Ok []) is all = record { lines = All-nil HasCharacters; last = record { text = refl; fields = refl } }
ended_kept u (Ok (field ∷ fields)) is all =
    record { lines = All-cons HasCharacters (record { number = u.number; fields = field ∷ fields }) [] all (All-nil HasCharacters); last = record { text = refl; fields = refl } }
ended_kept u (Err refusal) is all = record { lines = All-nil HasCharacters; last = is }

lengthened_kept : (u : LastLine) (b : ℕ) (r : Result HalfLine LineRefusal) → IsOfCharacters u.half → IfOk r IsOfCharacters → AllOfCharacters (lengthened u b r)
lengthened_kept u b (Ok h) is next = record { lines = All-nil HasCharacters; last = next }
lengthened_kept u b (Err refusal) is next = record { lines = All-nil HasCharacters; last = is }

one_byte_kept : (u : LastLine) (b : ℕ) → IsOfCharacters u.half → AllOfCharacters (one_byte u b)
one_byte_kept u b is = at (is_end u.half b) (nat_le 1048576 u.length) refl refl
  where
    at : (ends long : Bool) → is_end u.half b ≡ ends → nat_le 1048576 u.length ≡ long → AllOfCharacters (one_byte u b)
    at true long e f = rw e (ended_kept u (ended_line u.half) is (ended_line_kept u.half is))
    at false true e f = rw (e, f) (record { lines = All-nil HasCharacters; last = is })
    at false false e f = rw (e, f) (lengthened_kept u b (with_byte u.half b) is (with_byte_kept u.half b is))

and_then_kept : (s : Split) (f : LastLine → Split) → AllOfCharacters s → ((u : LastLine) → IsOfCharacters u.half → AllOfCharacters (f u)) → AllOfCharacters (and_then s f)
and_then_kept s f is keeps = at s.lines s.stop s.last is.lines is.last
  where
    at : (lines : List Line) (stop : Option LineRefusal) (last : LastLine) → All HasCharacters lines → IsOfCharacters last.half → AllOfCharacters (and_then (record { lines = lines; stop = stop; last = last }) f)
    at lines (Some refusal) last all half = record { lines = all; last = half }
    at lines None last all half = let more = keeps last half in record { lines = All-append HasCharacters lines (f last).lines all more.lines; last = more.last }

split_kept : (text : List ℕ) (u : LastLine) → IsOfCharacters u.half → AllOfCharacters (split u text)
split_kept [] u is = record { lines = All-nil HasCharacters; last = is }
split_kept (b ∷ bs) u is = and_then_kept (one_byte u b) (λ v. split v bs) (one_byte_kept u b is) (λ v half. split_kept bs v half)

text_end_kept : (u : LastLine) → IsOfCharacters u.half → AllOfCharacters (text_end u)
text_end_kept u is = at (nat_eq u.length 0) refl
  where
    at : (none : Bool) → nat_eq u.length 0 ≡ none → AllOfCharacters (text_end u)
    at true e = rw e (record { lines = All-nil HasCharacters; last = is })
    at false e = rw e (ended_kept u (ended_line u.half) is (ended_line_kept u.half is))

-- every field of every line of a text
pub lines_are_of_characters : (finished : Bool) (text : List ℕ) → All (λ (line : Line). are_fields line.fields ≡ true) (lines_in finished text).lines
lines_are_of_characters false text = (split_kept text (line_at 1) (record { text = refl; fields = refl })).lines
lines_are_of_characters true text = (and_then_kept (split (line_at 1) text) text_end (split_kept text (line_at 1) (record { text = refl; fields = refl })) text_end_kept).lines

-- What a text reads as: the fields of one line, and the lines of a text.
use Rattle.std.specs.Prelude.{ℕ, Bool, true, false, nat_lt, if◌then◌else◌, List, [], ◌∷◌, ◌++◌, Result, Ok, Err}
use lib.Utf8.{scalar}
use Rattle.sds_value.specs.declared.row.Field.{Field}
use Rattle.sds_value.specs.declared.row.Field.TheVariants.{Null, Text}
use Rattle.sds_line.specs.declared.partial.Partial.{Partial}
use Rattle.sds_line.specs.declared.place.Place.{Place}
use Rattle.sds_line.specs.declared.place.Place.TheVariants.{Start, Before, Plain, Quoted, Escaped, Behind, Comment}
use Rattle.sds_line.specs.declared.place.Act.{Act}
use Rattle.sds_line.specs.declared.place.Act.TheVariants.{Pass, Add, Divide, Refuse}
use Rattle.sds_line.specs.declared.refusal.LineRefusal.{LineRefusal}
use Rattle.sds_line.specs.declared.refusal.LineRefusal.TheVariants.{OpenQuote, NotUtf8}
use Rattle.sds_line.specs.Places.{act_of, is_spacing}
use Rattle.sds_line.specs.Characters.{whole, is_lead, lead_of, continues, next_of}

-- a line of which a front has come: where it goes on, what has come of a character, the characters of the field, and the fields before it
pub record HalfLine : Type 0 where
  pub place : Place
  pub partial : Partial
  pub text : List ℕ
  pub fields : List Field

-- before the first byte
abbrev pub empty_line : HalfLine
empty_line = record { place = Start; partial = whole; text = []; fields = [] }

-- a character and what is kept of the text behind it: spacing stays only before something that stays
abbrev pub kept_before : ℕ → List ℕ → List ℕ
kept_before c [] = if is_spacing c then [] else c ∷ []
kept_before c (d ∷ ds) = c ∷ d ∷ ds

-- the text without the spacing at its end
abbrev pub without_end_spacing : List ℕ → List ℕ
without_end_spacing [] = []
without_end_spacing (c ∷ cs) = kept_before c (without_end_spacing cs)

-- a field that ends at a place: nothing has come of it, or a plain text, or a quoted one
abbrev pub field_at : Place → List ℕ → Field
field_at Plain text = Text (without_end_spacing text)
field_at Behind text = Text text
field_at place text = Null

-- the line with one more character; those of a comment are not kept
abbrev pub with_character : Place → ℕ → HalfLine → HalfLine
with_character Comment c h = record h { place = Comment }
with_character place c h = record h { place = place; text = h.text ++ c ∷ [] }

-- the line with the first byte of a character
abbrev pub begun : HalfLine → Place → ℕ → Result HalfLine LineRefusal
begun h place b =
    if nat_lt b 128 then Ok (with_character place b h)
    else if is_lead b then Ok (record h { place = place; partial = lead_of b }) else Err NotUtf8

-- the line with a further byte of a character
abbrev pub gone_on : HalfLine → Partial → Result HalfLine LineRefusal
gone_on h next =
    if nat_lt 0 next.wanted then Ok (record h { partial = next })
    else if scalar next.bits then Ok (with_character h.place next.bits (record h { partial = whole })) else Err NotUtf8

abbrev pub acted : HalfLine → ℕ → Act → Result HalfLine LineRefusal
acted h b (Pass place) = Ok (record h { place = place })
acted h b (Add place) = begun h place b
acted h b Divide = Ok (record h { place = Before; text = []; fields = h.fields ++ field_at h.place h.text ∷ [] })
acted h b (Refuse refusal) = Err refusal

-- the line with one more byte, or why no line goes on so
abbrev pub with_byte : HalfLine → ℕ → Result HalfLine LineRefusal
with_byte h b =
    if nat_lt 0 h.partial.wanted then (if continues h.partial b then gone_on h (next_of h.partial b) else Err NotUtf8)
    else acted h b (act_of h.place b)

-- The fields of a line that ends so. A blank line and a comment have none.
abbrev pub fields_of : Place → HalfLine → List Field
fields_of Start h = []
fields_of Comment h = []
fields_of place h = h.fields ++ field_at place h.text ∷ []

-- inside quotes
abbrev pub is_inside : Place → Bool
is_inside Quoted = true
is_inside Escaped = true
is_inside place = false

-- what a line gives that ends so
abbrev pub ended_line : HalfLine → Result (List Field) LineRefusal
ended_line h = if nat_lt 0 h.partial.wanted then Err NotUtf8 else if is_inside h.place then Err OpenQuote else Ok (fields_of h.place h)

abbrev pub then_read : Result HalfLine LineRefusal → (HalfLine → Result (List Field) LineRefusal) → Result (List Field) LineRefusal
then_read (Ok h) read = read h
then_read (Err refusal) read = Err refusal

-- what the bytes give that follow a front of a line, up to its end
abbrev pub rest_of_line : HalfLine → List ℕ → Result (List Field) LineRefusal
rest_of_line h [] = ended_line h
rest_of_line h (b ∷ bs) = then_read (with_byte h b) (λ next. rest_of_line next bs)

-- the fields of one line
abbrev pub line_of : List ℕ → Result (List Field) LineRefusal
line_of bytes = rest_of_line empty_line bytes

abbrev pub then_go : Result HalfLine LineRefusal → (HalfLine → Result HalfLine LineRefusal) → Result HalfLine LineRefusal
then_go (Ok h) go = go h
then_go (Err refusal) go = Err refusal

-- a line with these further bytes, or why no line goes on so
abbrev pub with_bytes : HalfLine → List ℕ → Result HalfLine LineRefusal
with_bytes h [] = Ok h
with_bytes h (b ∷ bs) = then_go (with_byte h b) (λ next. with_bytes next bs)

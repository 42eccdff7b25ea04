-- What a scenario says is sound: its writers are names, and its rows are those of the one table.
use Rattle.std.proofs.Common.{◌≡◌, ℕ, Bool, true, false, ◌&&◌, List, [], ◌∷◌, ◌++◌, Option, None, Some, All, refl, sym, ap, ◌∙◌, codes, inl, inr, Result, Ok, Err}
use Rattle.std.specs.Prelude.{if◌then◌else◌, IfSome, is_ok, unwrap_or}
use Rattle.std.specs.Option.{option_map}
use Rattle.std.specs.Str.{all_scalars, chars, IsUtf8}
use Rattle.std.proofs.lemmas.Str.{scalars-chars}
use Rattle.std.proofs.lemmas.List.Elements.{All-cons, All-nil, All-append}
use Rattle.sds_first_laws.specs.Pairs.{is_of_characters, is_written_row}
use Rattle.sds_line.specs.Written.{is_field, are_fields}
use Rattle.sds_value.specs.declared.kind.Binary.TheVariants.{Base64}
use Rattle.sds_value.specs.declared.kind.Kind.TheVariants.{Integer}
use Rattle.sds_value.specs.declared.kind.Value.{Value}
use Rattle.sds_value.specs.declared.refusal.ValueRefusal.{ValueRefusal}
use Rattle.sds_value.specs.declared.row.Field.{Field}
use Rattle.sds_value.specs.declared.row.Field.TheVariants.{Null, Text}
use Rattle.sds_value.specs.Names.{is_name_text}
use Rattle.sds_value.specs.Values.{value_of, digits_value}
use Rattle.sds_types.specs.declared.tx_row.TxRow.{TxRow}
use Rattle.sds_first_spec.specs.Capture.{is_own_insert}
use Rattle.sds_first_spec.specs.One.{one}
use Rattle.sds_first_world.specs.declared.line.Line.{Line}
use Rattle.sds_first_world.specs.declared.line.Line.TheVariants.{Opening, Write, Row, End, Route, Push, Show, Other}
use Rattle.sds_first_world.specs.declared.line.Opening.TheVariants.{Corp, Store, Open, Register}
use Rattle.sds_first_world.specs.declared.place.Draft.{Draft}
use Rattle.sds_first_world.specs.declared.place.Place.{Place}
use Rattle.sds_first_world.specs.Looking.{behind, with_row}
use Rattle.sds_first_world.specs.Scenario.{is_number, is_printed_as, is_key, is_short, row_of, write_of, insert_of, given_of, opening_of, step_of, or_else, line_of}
use Rattle.sds_first_world.specs.Words.{is_word}
use Rattle.sds_first_world.specs.Sound.{IsSoundLine, IsSoundDraft, IsSoundPlace}

abbrev Says : Option Line → Type 0
Says None = Unit {0}
Says (Some line) = IsSoundLine line

-- a reading, if there is one, is sound
record MaySay (reading : Option Line) : Type 0 where
  says : Says reading

abbrev nothing : MaySay None
nothing = record { says = tt }

by_test : (b : Bool) (x y : Option Line) → MaySay x → MaySay y → MaySay (if b then x else y)
by_test true x y first second = first
by_test false x y first second = second

first_of : (x y : Option Line) → MaySay x → MaySay y → MaySay (or_else x y)
first_of None y first second = second
first_of (Some line) y first second = first

opening-sound : (fields : List Field) → MaySay (opening_of fields)
opening-sound fields =
    by_test _ (Some (Opening Corp)) _ (record { says = tt }) (by_test _ (Some (Opening Store)) _ (record { says = tt })
    (by_test _ (Some (Opening Open)) _ (record { says = tt }) (by_test _ (Some (Opening Register)) None (record { says = tt }) nothing)))

step-sound : (fields : List Field) → MaySay (step_of fields)
step-sound fields =
    by_test _ (Some End) _ (record { says = tt }) (by_test _ (Some Route) _ (record { says = tt }) (by_test _ (Some Push) _ (record { says = tt })
    (by_test _ (Some (Show (codes "corp"))) _ (record { says = inl refl }) (by_test _ (Some (Show (codes "s1"))) None (record { says = inr refl }) nothing))))

named : (b c : Bool) (writer : List ℕ) (number : ℕ) → is_name_text writer ≡ b → MaySay (if b && c then Some (Write writer number) else None)
named true true writer number is = record { says = is }
named true false writer number is = nothing
named false c writer number is = nothing

printed_is_ok : (r : Result Value ValueRefusal) (text : List ℕ) → is_printed_as r text ≡ true → is_ok r ≡ true
printed_is_ok (Ok value) text is = refl
printed_is_ok (Err refusal) text is = cc

row-own : (key : List ℕ) (field : Field) → is_key key ≡ true → is_short field ≡ true → is_own_insert one (row_of key field) ≡ true
row-own key Null is_first is_second = let first : is_ok (value_of Integer Base64 key) ≡ true = printed_is_ok _ key is_first in rw first refl
row-own key (Text text) is_first is_second = let first : is_ok (value_of Integer Base64 key) ≡ true = printed_is_ok _ key is_first in rw (first, is_second) refl

-- a row of characters, whose key and text may stand
pub row-sound : (key : List ℕ) (field : Field) → all_scalars key ≡ true → is_of_characters field ≡ true → is_key key ≡ true → is_short field ≡ true → is_written_row (row_of key field) ≡ true
row-sound key field first second is_first is_second = rw (row-own key field is_first is_second, first, second) refl

inserted : (b c : Bool) (key : List ℕ) (field : Field) → all_scalars key ≡ true → is_of_characters field ≡ true → is_key key ≡ b → is_short field ≡ c → MaySay (if b && c then Some (Row (row_of key field)) else None)
inserted true true key field is_key_text is_text first second = record { says = row-sound key field is_key_text is_text first second }
inserted true false key field is_key_text is_text first second = nothing
inserted false c key field is_key_text is_text first second = nothing

write-sound : (writer number : Field) → MaySay (write_of writer number)
write-sound Null number = nothing
write-sound (Text writer) Null = nothing
write-sound (Text writer) (Text number) = named (is_name_text writer) (is_number number) writer (digits_value number) refl

characters_of : (field : Field) → is_field field ≡ true → is_of_characters field ≡ true
characters_of Null is = refl
characters_of (Text text) is = is

insert-sound : (key field : Field) → is_field key ≡ true → is_field field ≡ true → MaySay (insert_of key field)
insert-sound Null field first second = nothing
insert-sound (Text key) field first second = inserted (is_key key) (is_short field) key field first (characters_of field second) refl refl

left_of : (a b : Bool) → (a && b) ≡ true → a ≡ true
left_of true b is = refl
left_of false b is = is

right_of : (a b : Bool) → (a && b) ≡ true → b ≡ true
right_of true b is = is
right_of false b is = absurd (cc)

given-sound : (fields : List Field) → are_fields fields ≡ true → MaySay (given_of fields)
given-sound [] are = nothing
given-sound (a ∷ []) are = nothing
given-sound (a ∷ (b ∷ [])) are = nothing
given-sound (a ∷ (b ∷ (c ∷ []))) are = nothing
given-sound (a ∷ (b ∷ (c ∷ (d ∷ [])))) are =
    let behind : are_fields (c ∷ (d ∷ [])) ≡ true = right_of (is_field b) _ (right_of (is_field a) _ are) in
    by_test (is_word a (codes "write") && is_word b (codes "corp")) (write_of c d) _ (write-sound c d)
    (by_test (is_word a (codes "insert") && is_word b (codes "pair")) (insert_of c d) None
    (insert-sound c d (left_of (is_field c) _ behind) (left_of (is_field d) true (right_of (is_field c) _ behind))) nothing)
given-sound (a ∷ (b ∷ (c ∷ (d ∷ (e ∷ fields))))) are = nothing

or_other : (x : Option Line) → MaySay x → IsSoundLine (unwrap_or x Other)
or_other None may = tt
or_other (Some line) may = may.says

-- what fields of characters say is sound
pub line-sound : (fields : List Field) → are_fields fields ≡ true → IsSoundLine (line_of fields)
line-sound fields are = or_other _ (first_of _ _ (opening-sound fields) (first_of _ _ (given-sound fields are) (step-sound fields)))

abbrev IsPair : TxRow → Type 0
IsPair row = is_own_insert one row ≡ true

all_more : (rows : List TxRow) (row : TxRow) → All IsPair rows → IsPair row → All IsPair (rows ++ row ∷ [])
all_more rows row are is = All-append IsPair rows (row ∷ []) are (All-cons IsPair row [] is (All-nil IsPair))

row_added : (draft : Option Draft) (row : TxRow) → IfSome draft IsSoundDraft → is_written_row row ≡ true → IfSome (option_map (with_row row) draft) IsSoundDraft
row_added None row sound is = tt
row_added (Some draft) row sound is = record { named = sound.named; rows = all_more draft.rows row sound.rows (left_of (is_own_insert one row) _ is) }

-- the place behind a sound line is sound
pub behind-sound : (place : Place) (line : Line) → IsSoundPlace place → IsSoundLine line → IsSoundPlace (behind place line)
behind-sound place (Opening which) sound may = sound
behind-sound place (Write writer number) sound may = record { named = may; rows = All-nil IsPair }
behind-sound place (Row row) sound may = row_added place.draft row sound may
behind-sound place End sound may = tt
behind-sound place Route sound may = sound
behind-sound place Push sound may = sound
behind-sound place (Show node) sound may = sound
behind-sound place Other sound may = sound

-- the characters of a text in UTF-8 are characters
pub characters_by : (bytes text : List ℕ) → IsUtf8 bytes → chars bytes ≡ text → all_scalars text ≡ true
characters_by bytes text utf8 is = ap all_scalars (sym is) ∙ scalars-chars bytes utf8

-- Worked cases: the policies of transforms, their keys, and what becomes of deletes.
use Rattle.std.specs.Prelude.{ℕ, List, [], ◌∷◌, Option, None, Some, codes}
use Rattle.sds_value.specs.declared.row.DocRow.{DocRow}
use Rattle.sds_value.specs.declared.row.Event.{Event}
use Rattle.sds_value.specs.declared.row.Event.TheVariants.{Insert, Update, Delete}
use Rattle.sds_value.specs.declared.row.Field.{Field}
use Rattle.sds_value.specs.declared.row.Field.TheVariants.{Null}
use Rattle.sds_types.specs.declared.transform.ColumnPolicy.TheVariants.{Specified, Implied}
use Rattle.sds_types.specs.declared.transform.DeleteAction.{DeleteAction}
use Rattle.sds_types.specs.declared.transform.DeleteAction.TheVariants.{DelRow, Nothing, UpdateCol}
use Rattle.sds_types.specs.declared.transform.TransformDef.{TransformDef}
use Rattle.sds_trade.specs.worked.Transforming.{Makes, constant, copy_of, ink_delete, ink_insert, ink_row, ink_update, key_from, one, only_on, red, removed, row_for, texts, transform_of}

-- SPECIFIED: a code from the id, a label from the name, and at inserts a note
abbrev pub specified : TransformDef
specified = transform_of Specified DelRow (key_from (codes "code") (codes "id")
    ∷ (copy_of (codes "label") (codes "name")
    ∷ (only_on (codes "I") (constant (codes "note") (codes "new")) ∷ [])))

abbrev pub dye_row : Event → List (List ℕ) → List (List ℕ) → List Field → List Field
    → Option (List Field) → DocRow
dye_row event keys columns new key old = row_for (codes "dye") event keys columns new key old

abbrev pub code_label : List (List ℕ)
code_label = codes "code" ∷ (codes "label" ∷ [])

abbrev pub red_in : List Field
red_in = texts (codes "1" ∷ (codes "red" ∷ []))

abbrev pub blue_in : List Field
blue_in = texts (codes "1" ∷ (codes "blue" ∷ []))

abbrev pub x_none_one : List Field
x_none_one = texts (codes "x" ∷ (codes "0" ∷ (codes "1" ∷ [])))

abbrev pub one_gone : List Field
one_gone = texts (codes "1" ∷ (codes "gone" ∷ []))

abbrev pub note_qty_id : List (List ℕ)
note_qty_id = codes "note" ∷ (codes "qty" ∷ (codes "id" ∷ []))

abbrev pub SpecifiedMakesItsColumns : Type 0
SpecifiedMakesItsColumns =
    Makes specified ink_insert (dye_row Insert (codes "code" ∷ [])
    (codes "code" ∷ (codes "label" ∷ (codes "note" ∷ [])))
    (texts (codes "1" ∷ (codes "red" ∷ (codes "new" ∷ [])))) [] None ∷ [])
    × Makes specified ink_update (dye_row Update (codes "code" ∷ []) code_label
    red_in one (Some blue_in) ∷ [])
    × Makes specified ink_delete (dye_row Delete (codes "code" ∷ []) code_label [] one
    (Some blue_in) ∷ [])

-- without the old values the old side is the key's, and only its keys are used
abbrev pub AbsentOldIsTheKey : Type 0
AbsentOldIsTheKey =
    Makes specified (ink_row Update red one None) (dye_row Update (codes "code" ∷ []) code_label
    red_in one None ∷ [])
    × Makes (transform_of Specified DelRow (key_from (codes "label") (codes "name") ∷ []))
    (ink_row Update red one None) (dye_row Update (codes "label" ∷ []) (codes "label" ∷ [])
    (texts (codes "red" ∷ [])) (Null ∷ []) None ∷ [])

-- IMPLIED: the name is taken away, the quantity gives way to a constant in its place, and a note
-- follows
abbrev pub implied : DeleteAction → TransformDef
implied action = transform_of Implied action (constant (codes "note") (codes "x")
    ∷ (removed (codes "name") ∷ (constant (codes "qty") (codes "0") ∷ [])))

abbrev pub id_qty_note : List (List ℕ)
id_qty_note = codes "id" ∷ (codes "qty" ∷ (codes "note" ∷ []))

abbrev pub one_none_x : List Field
one_none_x = texts (codes "1" ∷ (codes "0" ∷ (codes "x" ∷ [])))

abbrev pub ImpliedKeepsPlaces : Type 0
ImpliedKeepsPlaces =
    Makes (implied DelRow) ink_insert
    (dye_row Insert (codes "id" ∷ []) id_qty_note one_none_x [] None ∷ [])
    × Makes (implied DelRow) ink_update
    (dye_row Update (codes "id" ∷ []) id_qty_note one_none_x one (Some one_none_x) ∷ [])

-- a listed key stands before the source's that remains; one that is taken away is no key
abbrev pub KeysRemain : Type 0
KeysRemain =
    Makes (transform_of Implied DelRow (key_from (codes "name") (codes "name")
    ∷ (removed (codes "qty") ∷ [])))
    ink_update (dye_row Update (codes "name" ∷ (codes "id" ∷ [])) (codes "id" ∷ (codes "name" ∷ []))
    red_in (texts (codes "blue" ∷ (codes "1" ∷ [])))
    (Some blue_in) ∷ [])
    × Makes (transform_of Implied DelRow (key_from (codes "name") (codes "name")
    ∷ (removed (codes "qty") ∷ (removed (codes "id") ∷ []))))
    ink_update (dye_row Update (codes "name" ∷ []) (codes "name" ∷ []) (texts (codes "red" ∷ []))
    (texts (codes "blue" ∷ [])) (Some (texts (codes "blue" ∷ []))) ∷ [])

-- DELETES stay, become nothing, or become an update of the listed columns and the source's key
abbrev pub DeletesBecome : Type 0
DeletesBecome =
    Makes (implied DelRow) ink_delete
    (dye_row Delete (codes "id" ∷ []) id_qty_note [] one (Some one_none_x) ∷ [])
    × Makes (implied Nothing) ink_delete []
    × Makes (implied UpdateCol) ink_delete (dye_row Update (codes "id" ∷ [])
    note_qty_id x_none_one
    one (Some x_none_one) ∷ [])
    × Makes (implied UpdateCol) (ink_row Delete [] one None) (dye_row Update (codes "id" ∷ [])
    note_qty_id x_none_one
    one None ∷ [])
    × Makes (transform_of Specified UpdateCol (key_from (codes "code") (codes "id")
    ∷ (only_on (codes "D") (constant (codes "state") (codes "gone")) ∷ []))) ink_delete
    (dye_row Update (codes "code" ∷ []) (codes "code" ∷ (codes "state" ∷ []))
    one_gone one (Some one_gone) ∷ [])

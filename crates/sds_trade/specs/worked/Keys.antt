-- Worked cases: the keys of rows that transforms make, and events at which columns take part.
use Rattle.std.specs.Prelude.{[], ◌∷◌, None, Some, codes}
use Rattle.sds_value.specs.declared.row.DocRow.{DocRow}
use Rattle.sds_value.specs.declared.row.Event.TheVariants.{Insert, Update, Delete}
use Rattle.sds_types.specs.declared.transform.ColumnPolicy.TheVariants.{Specified, Implied}
use Rattle.sds_types.specs.declared.transform.DeleteAction.TheVariants.{DelRow}
use Rattle.sds_trade.specs.worked.Policies.{dye_row, red_in, blue_in}
use Rattle.sds_trade.specs.worked.Transforming.{Makes, constant, copy_of, ink_insert, ink_update, key_from, one, only_on, removed, row_for, texts, transform_of}

-- a listed key of the source's own name stands once
abbrev pub ListedKeyIsOnce : Type 0
ListedKeyIsOnce = Makes (transform_of Implied DelRow (key_from (codes "id") (codes "id")
    ∷ (removed (codes "qty") ∷ []))) ink_update
    (dye_row Update (codes "id" ∷ []) (codes "id" ∷ (codes "name" ∷ [])) red_in one (Some blue_in)
    ∷ [])

-- without the implied policy the source's key is no key, even where a column of its name is made
abbrev pub SpecifiedHasItsKeys : Type 0
SpecifiedHasItsKeys = Makes (transform_of Specified DelRow (key_from (codes "code") (codes "name")
    ∷ (copy_of (codes "id") (codes "id") ∷ []))) ink_update
    (dye_row Update (codes "code" ∷ []) (codes "code" ∷ (codes "id" ∷ []))
    (texts (codes "red" ∷ (codes "1" ∷ []))) (texts (codes "blue" ∷ []))
    (Some (texts (codes "blue" ∷ (codes "1" ∷ [])))) ∷ [])

-- without old values the key's are looked up by their names, listed or not
abbrev pub unlisted : DocRow
unlisted = row_for (codes "ink") Delete (codes "id" ∷ []) (codes "name" ∷ []) [] one None

abbrev pub KeysAreLookedUp : Type 0
KeysAreLookedUp =
    Makes (transform_of Specified DelRow (key_from (codes "code") (codes "id") ∷ [])) unlisted
    (dye_row Delete (codes "code" ∷ []) (codes "code" ∷ []) [] one None ∷ [])
    × Makes (transform_of Implied DelRow (key_from (codes "code") (codes "id") ∷ [])) unlisted
    (dye_row Delete (codes "code" ∷ []) (codes "name" ∷ (codes "code" ∷ [])) [] one None ∷ [])

-- an update keeps the key of its old values where it changes it
abbrev pub KeysAreOld : Type 0
KeysAreOld = Makes (transform_of Specified DelRow (key_from (codes "code") (codes "name") ∷ []))
    ink_update
    (dye_row Update (codes "code" ∷ []) (codes "code" ∷ []) (texts (codes "red" ∷ []))
    (texts (codes "blue" ∷ [])) (Some (texts (codes "blue" ∷ []))) ∷ [])

-- a column for inserts and deletes takes no part at an update
abbrev pub EventsTakePart : Type 0
EventsTakePart = Makes (transform_of Specified DelRow (key_from (codes "code") (codes "id")
    ∷ (only_on (codes "UD") (constant (codes "a") (codes "x"))
    ∷ (only_on (codes "DI") (constant (codes "b") (codes "y")) ∷ [])))) ink_update
    (dye_row Update (codes "code" ∷ []) (codes "code" ∷ (codes "a" ∷ []))
    (texts (codes "1" ∷ (codes "x" ∷ []))) one (Some (texts (codes "1" ∷ (codes "x" ∷ [])))) ∷ [])
    × Makes (transform_of Specified DelRow (key_from (codes "code") (codes "id")
    ∷ (only_on (codes "UD") (constant (codes "a") (codes "x"))
    ∷ (only_on (codes "DI") (constant (codes "b") (codes "y")) ∷ [])))) ink_insert
    (dye_row Insert (codes "code" ∷ []) (codes "code" ∷ (codes "b" ∷ []))
    (texts (codes "1" ∷ (codes "y" ∷ []))) [] None ∷ [])

-- Worked cases: changes as rows of batches, and which transforms are for them.
use Rattle.std.specs.Prelude.{◌≡◌, pos, List, [], ◌∷◌, Option, None, Some, codes}
use Rattle.sds_value.specs.declared.row.DocRow.{DocRow}
use Rattle.sds_value.specs.declared.row.Event.{Event}
use Rattle.sds_value.specs.declared.row.Event.TheVariants.{Insert, Update, Delete}
use Rattle.sds_value.specs.declared.row.Field.{Field}
use Rattle.sds_value.specs.declared.row.Field.TheVariants.{Null, Text}
use Rattle.sds_types.specs.declared.row.Change.{Change}
use Rattle.sds_types.specs.declared.row.Row.{Row}
use Rattle.sds_types.specs.declared.transform.Point.TheVariants.{Extract}
use Rattle.sds_types.specs.declared.transform.Shaped.{Shaped}
use Rattle.sds_types.specs.declared.transform.TransformDef.{TransformDef}
use Rattle.sds_types.specs.declared.way.Way.{Way}
use Rattle.sds_trade.specs.rules.Transforms.{extracted_rows, shaped_rows}
use Rattle.sds_trade.specs.worked.Loading.{stock_doc, stock_insert}
use Rattle.sds_trade.specs.worked.Shop.{pen, shop, sum_transform, way_up}
use Rattle.sds_trade.specs.worked.Transforming.{constant}
use Rattle.sds_trade.specs.worked.Writes.{cap}

-- a change of an item, and the row that it is written as
abbrev pub item_change : Event → Option Row → Option Row → Change
item_change event new old = record {
  id = 1;
  tx = 1;
  table = 0;
  event = event;
  new = new;
  old = old;
  channel = 0;
  source = None;
}

abbrev pub item_row : Event → List Field → List Field → Option (List Field) → DocRow
item_row event new key old = record {
  event = event;
  table = codes "item";
  keys = codes "id" ∷ [];
  columns = codes "id" ∷ (codes "name" ∷ (codes "price" ∷ []));
  new = new;
  key = key;
  old = old;
}

abbrev pub pen_fields : List Field
pen_fields = Text (codes "1") ∷ (Text (codes "Pen") ∷ (Text (codes "2.50") ∷ []))

abbrev pub cap_fields : List Field
cap_fields = Text (codes "2") ∷ (Text (codes "Cap") ∷ (Null ∷ []))

abbrev pub IsWritten : Change → DocRow → Type 0
IsWritten change row = extracted_rows shop way_up change ≡ row ∷ []

-- values are printed under their column's kind; an update and a delete have their old values
abbrev pub ChangesAreWritten : Type 0
ChangesAreWritten =
    IsWritten (item_change Insert (Some pen.row) None) (item_row Insert pen_fields [] None)
    × IsWritten (item_change Update (Some pen.row) (Some cap.row))
    (item_row Update pen_fields (Text (codes "2") ∷ []) (Some cap_fields))
    × IsWritten (item_change Delete None (Some cap.row))
    (item_row Delete [] (Text (codes "2") ∷ []) (Some cap_fields))

-- TRANSFORMS are for a point, a way and a table; a row has one result for each
abbrev pub way_down : Way
way_down = record {
  source = codes "corp";
  source_group = codes "corp";
  target = codes "s1";
  target_group = codes "store";
}

abbrev pub at_extract : TransformDef
at_extract = record (sum_transform [] (pos 1)) {
  point = Extract;
  columns = constant (codes "qty") (codes "0") ∷ [];
}

abbrev pub passes : DocRow → List Shaped
passes row = record { row = row; adds = [] } ∷ []

abbrev pub TransformsAreMeant : Type 0
TransformsAreMeant =
    (shaped_rows shop way_up (stock_insert (codes "5"))
    ≡ record {
      row = stock_insert (codes "5");
      adds = record { column = 1; multiplier = pos 1 } ∷ [];
    } ∷ [])
    × (shaped_rows shop way_down (stock_insert (codes "5")) ≡ passes (stock_insert (codes "5")))
    × (shaped_rows shop way_up (item_row Insert pen_fields [] None)
    ≡ passes (item_row Insert pen_fields [] None))
    × (shaped_rows (record shop { transforms = at_extract ∷ [] }) way_up (stock_insert (codes "5"))
    ≡ passes (stock_insert (codes "5")))

-- those of other groups, or of another table, aren't for it
abbrev pub other_transforms : List TransformDef
other_transforms = record (sum_transform [] (pos 1)) { source_group = 0 }
    ∷ (record (sum_transform [] (pos 1)) { target_group = 1 }
    ∷ (record (sum_transform [] (pos 1)) { source_table = codes "item" } ∷ []))

abbrev pub OthersAreNot : Type 0
OthersAreNot = shaped_rows (record shop { transforms = other_transforms }) way_up
    (stock_insert (codes "5")) ≡ passes (stock_insert (codes "5"))

-- an additive column takes no part at a delete
abbrev pub stock_delete : DocRow
stock_delete = record (stock_doc Delete [] (Text (codes "1") ∷ []) None) { new = [] }

abbrev pub DeletesAreNotAdded : Type 0
DeletesAreNotAdded = shaped_rows shop way_up stock_delete ≡ passes stock_delete

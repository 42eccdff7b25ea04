-- Worked cases: the rows that a transform makes.
use Rattle.std.specs.Prelude.{◌≡◌, ℕ, true, false, List, [], ◌∷◌, map, Option, None, Some, codes}
use Rattle.sds_value.specs.declared.row.DocRow.{DocRow}
use Rattle.sds_value.specs.declared.row.Event.{Event}
use Rattle.sds_value.specs.declared.row.Event.TheVariants.{Insert, Update, Delete}
use Rattle.sds_value.specs.declared.row.Field.{Field}
use Rattle.sds_value.specs.declared.row.Field.TheVariants.{Text}
use Rattle.sds_types.specs.declared.transform.ColumnPolicy.{ColumnPolicy}
use Rattle.sds_types.specs.declared.transform.DeleteAction.{DeleteAction}
use Rattle.sds_types.specs.declared.transform.Point.TheVariants.{Extract}
use Rattle.sds_types.specs.declared.transform.TransformDef.{TransformDef}
use Rattle.sds_types.specs.declared.transform_column.ColumnExpression.TheVariants as says
use Rattle.sds_types.specs.declared.transform_column.ColumnKind.TheVariants.{Copy, Remove, Const}
use Rattle.sds_types.specs.declared.transform_column.TransformColumn.{TransformColumn}
use Rattle.sds_trade.specs.rules.MadeRows.{made_rows}
use Rattle.sds_trade.specs.worked.Shop.{way_up}

-- columns of a transform
abbrev pub copy_of : List ℕ → List ℕ → TransformColumn
copy_of target source = record {
  target = target;
  source = source;
  pk = false;
  include_on = codes "*";
  kind = Copy;
  expression = [];
  parsed = says.Unused;
}

abbrev pub key_from : List ℕ → List ℕ → TransformColumn
key_from target source = record (copy_of target source) { pk = true }

abbrev pub constant : List ℕ → List ℕ → TransformColumn
constant target text =
    record (copy_of target []) { kind = Const; expression = text; parsed = says.Const text }

abbrev pub removed : List ℕ → TransformColumn
removed target = record (copy_of target []) { kind = Remove }

abbrev pub only_on : List ℕ → TransformColumn → TransformColumn
only_on letters column = record column { include_on = letters }

abbrev pub transform_of : ColumnPolicy → DeleteAction → List TransformColumn → TransformDef
transform_of policy action columns = record {
  id = codes "t";
  source_group = 1;
  target_group = 0;
  point = Extract;
  source_table = codes "ink";
  target_table = codes "dye";
  delete_action = action;
  column_policy = policy;
  columns = columns;
}

-- rows of the table ink, and of the table dye
abbrev pub texts : List (List ℕ) → List Field
texts list = map (λ (text : List ℕ). Text text) list

abbrev pub row_for : List ℕ → Event → List (List ℕ) → List (List ℕ) → List Field → List Field
    → Option (List Field) → DocRow
row_for table event keys columns new key old = record {
  event = event;
  table = table;
  keys = keys;
  columns = columns;
  new = new;
  key = key;
  old = old;
}

abbrev pub ink_columns : List (List ℕ)
ink_columns = codes "id" ∷ (codes "name" ∷ (codes "qty" ∷ []))

abbrev pub red : List Field
red = texts (codes "1" ∷ (codes "red" ∷ (codes "5" ∷ [])))

abbrev pub blue : List Field
blue = texts (codes "1" ∷ (codes "blue" ∷ (codes "4" ∷ [])))

abbrev pub one : List Field
one = texts (codes "1" ∷ [])

abbrev pub ink_row : Event → List Field → List Field → Option (List Field) → DocRow
ink_row event new key old = row_for (codes "ink") event (codes "id" ∷ []) ink_columns new key old

abbrev pub ink_insert : DocRow
ink_insert = ink_row Insert red [] None

abbrev pub ink_update : DocRow
ink_update = ink_row Update red one (Some blue)

abbrev pub ink_delete : DocRow
ink_delete = ink_row Delete [] one (Some blue)

-- a row becomes these
abbrev pub Makes : TransformDef → DocRow → List DocRow → Type 0
Makes transform doc rows = made_rows way_up transform doc doc.event ≡ rows

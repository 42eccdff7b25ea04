-- What a transform makes of a row: of an insert, an update, and a delete by its delete action.
use Rattle.std.specs.Prelude.{ℕ, List, [], ◌∷◌, ◌++◌, map, Option, None, option_map}
use Rattle.std.specs.List.{filter}
use Rattle.sds_value.specs.declared.row.DocRow.{DocRow}
use Rattle.sds_value.specs.declared.row.Event.{Event}
use Rattle.sds_value.specs.declared.row.Event.TheVariants.{Insert, Update, Delete}
use Rattle.sds_value.specs.declared.row.Field.{Field}
use Rattle.sds_types.specs.declared.transform.DeleteAction.{DeleteAction}
use Rattle.sds_types.specs.declared.transform.DeleteAction.TheVariants.{DelRow, Nothing, UpdateCol}
use Rattle.sds_types.specs.declared.transform.TransformDef.{TransformDef}
use Rattle.sds_types.specs.declared.transform_column.TransformColumn.{TransformColumn}
use Rattle.sds_types.specs.declared.way.Way.{Way}
use Rattle.sds_trade.specs.rules.ColumnFunctions.{takes_part}
use Rattle.sds_trade.specs.rules.DocRows.{field_in}
use Rattle.sds_trade.specs.rules.MadeSides.{names_of, values_of, made_fields, made_side, made_keys, remaining_keys}
use Rattle.sds_trade.specs.rules.Sides.{Side, new_side, old_side}

-- the columns of a transform that take part at a row's event
abbrev pub active_columns : TransformDef → DocRow → List TransformColumn
active_columns transform doc = filter (takes_part doc.event) transform.columns

-- what they make of a side of the row
abbrev pub side_of : Way → TransformDef → DocRow → Side → List (List ℕ × Field)
side_of way transform doc side =
    made_side way transform.column_policy (active_columns transform doc) side

abbrev pub keys_of : TransformDef → DocRow → List (List ℕ × Field) → List (List ℕ)
keys_of transform doc made =
    made_keys transform.column_policy (active_columns transform doc) doc made

-- the old side in a made row, where the row gives it
abbrev pub old_if_given : DocRow → List (List ℕ × Field) → Option (List Field)
old_if_given doc made = option_map (λ (old : List Field). values_of made) doc.old

-- the made row of an insert, an update and a delete; of the latter two the key is the old side's
abbrev pub made_insert : Way → TransformDef → DocRow → DocRow
made_insert way transform doc = let new = side_of way transform doc (new_side doc) in record {
  event = Insert;
  table = transform.target_table;
  keys = keys_of transform doc new;
  columns = names_of new;
  new = values_of new;
  key = [];
  old = None;
}

abbrev pub made_update : Way → TransformDef → DocRow → DocRow
made_update way transform doc =
    let new = side_of way transform doc (new_side doc) in
    let old = side_of way transform doc (old_side doc) in record {
      event = Update;
      table = transform.target_table;
      keys = keys_of transform doc new;
      columns = names_of new;
      new = values_of new;
      key = map (field_in old) (keys_of transform doc new);
      old = old_if_given doc old;
    }

abbrev pub made_delete : Way → TransformDef → DocRow → DocRow
made_delete way transform doc = let old = side_of way transform doc (old_side doc) in record {
  event = Delete;
  table = transform.target_table;
  keys = keys_of transform doc old;
  columns = names_of old;
  new = [];
  key = map (field_in old) (keys_of transform doc old);
  old = old_if_given doc old;
}

-- a delete that becomes an update: the listed columns, and then the source's keys that remain, all
-- of them computed from the old row
abbrev pub marked_fields : Way → TransformDef → DocRow → List (List ℕ × Field)
marked_fields way transform doc =
    let old = side_of way transform doc (old_side doc) in
    let made = made_fields way (active_columns transform doc) (old_side doc) in
    made ++ map (λ (key : List ℕ). (key, field_in old key))
    (remaining_keys transform.column_policy doc old (names_of made))

abbrev pub made_mark : Way → TransformDef → DocRow → DocRow
made_mark way transform doc = let fields = marked_fields way transform doc in
    record (made_delete way transform doc) {
      event = Update;
      columns = names_of fields;
      new = values_of fields;
      old = old_if_given doc fields;
    }

-- what a delete becomes
abbrev pub made_of_delete : Way → TransformDef → DocRow → DeleteAction → List DocRow
made_of_delete way transform doc DelRow = made_delete way transform doc ∷ []
made_of_delete way transform doc Nothing = []
made_of_delete way transform doc UpdateCol = made_mark way transform doc ∷ []

-- what a row becomes
abbrev pub made_rows : Way → TransformDef → DocRow → Event → List DocRow
made_rows way transform doc Insert = made_insert way transform doc ∷ []
made_rows way transform doc Update = made_update way transform doc ∷ []
made_rows way transform doc Delete = made_of_delete way transform doc transform.delete_action

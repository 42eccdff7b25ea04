-- The rows that load transforms make of a row of texts have texts of characters, and so have those that are read of them.
use Rattle.std.proofs.Common.{◌≡◌, ℕ, zero, suc, ◌-◌, Bool, true, false, List, [], ◌∷◌, map, take, drop, Option, None, Some, refl, All, find, filter, ◌&&◌}
use Rattle.std.specs.Prelude.{IfSome, codes, option_map}
use Rattle.std.specs.List.{list_all, zip}
use Rattle.std.specs.Option.{option_map_or, option_or}
use Rattle.std.specs.Str.{all_scalars, bytes_eq}
use Rattle.std.proofs.lemmas.Bool.{and_parts}
use Rattle.std.proofs.lemmas.List.Elements.{All-nil, All-cons, All-append}
use Rattle.std.proofs.lemmas.List.Sums.{AllPass-from_list_all}
use Rattle.sds_value.specs.declared.kind.Binary.{Binary}
use Rattle.sds_value.specs.declared.kind.Value.TheVariants as value
use Rattle.sds_value.specs.declared.row.DocRow.{DocRow}
use Rattle.sds_value.specs.declared.row.Event.{Event}
use Rattle.sds_value.specs.declared.row.Event.TheVariants as event
use Rattle.sds_value.specs.declared.row.Field.{Field}
use Rattle.sds_value.specs.declared.row.Field.TheVariants as field
use Rattle.sds_value.specs.declared.table.ColumnDef.{ColumnDef}
use Rattle.sds_value.specs.declared.table.TableDef.{TableDef}
use Rattle.sds_types.specs.declared.config.Config.{Config}
use Rattle.sds_types.specs.declared.transform.ColumnPolicy.{ColumnPolicy}
use Rattle.sds_types.specs.declared.transform.ColumnPolicy.TheVariants.{Specified, Implied}
use Rattle.sds_types.specs.declared.transform.DeleteAction.{DeleteAction}
use Rattle.sds_types.specs.declared.transform.DeleteAction.TheVariants.{DelRow, Nothing, UpdateCol}
use Rattle.sds_types.specs.declared.transform.Point.TheVariants.{Load}
use Rattle.sds_types.specs.declared.transform.Shaped.{Shaped}
use Rattle.sds_types.specs.declared.transform.TransformDef.{TransformDef}
use Rattle.sds_types.specs.declared.transform_column.ColumnExpression.{ColumnExpression}
use Rattle.sds_types.specs.declared.transform_column.ColumnExpression.TheVariants as says
use Rattle.sds_types.specs.declared.transform_column.MapPair.{MapPair}
use Rattle.sds_types.specs.declared.transform_column.NodeWord.TheVariants.{SourceNode, TargetNode}
use Rattle.sds_types.specs.declared.transform_column.Substring.{Substring}
use Rattle.sds_types.specs.declared.transform_column.TransformColumn.{TransformColumn}
use Rattle.sds_types.specs.declared.way.Way.{Way}
use Rattle.sds_line.specs.Written.{are_fields, is_field}
use Rattle.sds_batchtext.specs.Writable.{is_old_text, is_row_text}
use Rattle.sds_trade.proofs.Lists.{all_head, all_tail}
use Rattle.sds_trade.specs.rules.ColumnFunctions.{field_made, piece_of, target_of}
use Rattle.sds_trade.specs.rules.DocRows.{doc_columns, doc_table, field_in, key_fields}
use Rattle.sds_trade.specs.rules.LoadRows.{named_value, plain_row, told_key, value_in, values_in}
use Rattle.sds_trade.specs.rules.MadeRows.{active_columns, made_delete, made_insert, made_mark, made_of_delete, made_rows, made_update, marked_fields, side_of}
use Rattle.sds_trade.specs.rules.MadeSides.{column_for, in_place, is_further, made_field, made_fields, made_side, makes, names_of, passed_fields, remaining_keys}
use Rattle.sds_trade.specs.rules.ColumnFunctions.{takes_part}
use Rattle.sds_trade.specs.rules.Places.{column_named, key_names}
use Rattle.sds_trade.specs.rules.Sides.{Side, given_side, key_side, new_side, old_side}
use Rattle.sds_trade.specs.rules.Transforms.{adds_of, by_transforms, is_meant, shaped_by, shaped_rows, transforms_for}
use Rattle.sds_nodelaws.specs.Asked.{is_spelt, is_spelt_row}
use Rattle.sds_nodelaws.proofs.Held.{all_of, mapped}
use Rattle.sds_nodelaws.proofs.Lists.{all_flat, and_both, and_left, and_right, filter_all, find_all, map_all}
use Rattle.sds_nodelaws.proofs.ReadValues.{field_spelt}
use Rattle.sds_loadlaws.specs.Spelt.{is_spelt_column, is_spelt_config, is_spelt_expression, is_spelt_transform, is_spelt_way}

-- TEXTS of characters, and pieces of them
abbrev IsSpelt : List ℕ → Type 0
IsSpelt text = all_scalars text ≡ true

taken : (n : ℕ) (cs : List ℕ) → IsSpelt cs → IsSpelt (take n cs)
taken zero cs is = refl
taken (suc n) [] is = refl
taken (suc n) (c ∷ cs) is = let (here, rest) = and_parts _ (all_scalars cs) is in rw here (taken n cs rest)

dropped : (n : ℕ) (cs : List ℕ) → IsSpelt cs → IsSpelt (drop n cs)
dropped zero cs is = is
dropped (suc n) [] is = refl
dropped (suc n) (c ∷ cs) is = let (here, rest) = and_parts _ (all_scalars cs) is in dropped n cs rest

piece_spelt : (piece : Substring) (text : List ℕ) → IsSpelt text → IsSpelt (piece_of piece text)
piece_spelt piece text is = on piece.end
  where
    on : (last : Option ℕ) → IsSpelt (elim last [ None ↦ drop piece.first text | Some n ↦ take (n - piece.first) (drop piece.first text) ])
    on None = dropped piece.first text is
    on (Some n) = taken (n - piece.first) (drop piece.first text) (dropped piece.first text is)

-- FIELDS of characters
abbrev IsField : Field → Type 0
IsField f = is_field f ≡ true

abbrev IsNamed : List ℕ × Field → Type 0
IsNamed at = IsField at.1

fields_are : (fields : List Field) → are_fields fields ≡ true → All IsField fields
fields_are [] is = All-nil IsField
fields_are (f ∷ fields) is =
    All-cons IsField f fields (and_left (is_field f) (are_fields fields) is) (fields_are fields (and_right (is_field f) (are_fields fields) is))

zip_fields : (names : List (List ℕ)) (fields : List Field) → All IsField fields → All IsNamed (zip names fields)
zip_fields [] fields are = All-nil IsNamed
zip_fields (name ∷ names) [] are = All-nil IsNamed
zip_fields (name ∷ names) (f ∷ fields) are =
    All-cons IsNamed (name, f) (zip names fields) (all_head IsField f fields are) (zip_fields names fields (all_tail IsField f fields are))

found_field : (fields : List (List ℕ × Field)) (name : List ℕ) → All IsNamed fields → IsField (field_in fields name)
found_field fields name are = on (find (λ (at : List ℕ × Field). bytes_eq at.0 name) fields) refl
  where
    on : (found : Option (List ℕ × Field)) → find (λ (at : List ℕ × Field). bytes_eq at.0 name) fields ≡ found
        → IsField (option_map_or (λ (at : List ℕ × Field). at.1) found field.Null)
    on None is = refl
    on (Some at) is = find_all IsNamed (λ (one : List ℕ × Field). bytes_eq one.0 name) fields at are is

found_fields : (fields : List (List ℕ × Field)) (names : List (List ℕ)) → All IsNamed fields → All IsField (map (field_in fields) names)
found_fields fields names are =
    map_all IsField (field_in fields) names (all_of (λ (name : List ℕ). IsField (field_in fields name)) names (λ name. found_field fields name are))

-- WHAT AN EXPRESSION MAKES of a field
target_spelt : (pairs : List MapPair) (source : List ℕ) → list_all (λ (pair : MapPair). all_scalars pair.target) pairs ≡ true → IfSome (target_of pairs source) IsSpelt
target_spelt pairs source are = on (find (λ (pair : MapPair). bytes_eq pair.source source) pairs) refl
  where
    on : (found : Option MapPair) → find (λ (pair : MapPair). bytes_eq pair.source source) pairs ≡ found
        → IfSome (option_map (λ (pair : MapPair). pair.target) found) IsSpelt
    on None is = tt
    on (Some pair) is =
        find_all (λ (p : MapPair). IsSpelt p.target) (λ (p : MapPair). bytes_eq p.source source) pairs pair
        (AllPass-from_list_all (λ (p : MapPair). all_scalars p.target) pairs are) is

either_spelt : (a b : Option (List ℕ)) → IfSome a IsSpelt → IfSome b IsSpelt
    → IsField (option_map_or (λ (target : List ℕ). field.Text target) (option_or a b) field.Null)
either_spelt None None first second = refl
either_spelt None (Some text) first second = second
either_spelt (Some text) b first second = first

made_spelt : (way : Way) (parsed : ColumnExpression) (f : Field) → is_spelt_way way ≡ true → is_spelt_expression parsed ≡ true → IsField f
    → IsField (field_made way parsed f)
made_spelt way (says.Const text) f ways spelt is = spelt
made_spelt way (says.Variable SourceNode) f ways spelt is = and_left (all_scalars way.source) (all_scalars way.target) ways
made_spelt way (says.Variable TargetNode) f ways spelt is = and_right (all_scalars way.source) (all_scalars way.target) ways
made_spelt way says.Unused f ways spelt is = is
made_spelt way (says.Additive factor) f ways spelt is = is
made_spelt way (says.Left count) field.Null ways spelt is = refl
made_spelt way (says.Left count) (field.Text text) ways spelt is = taken count text is
made_spelt way (says.Substr piece) field.Null ways spelt is = refl
made_spelt way (says.Substr piece) (field.Text text) ways spelt is = piece_spelt piece text is
made_spelt way (says.ValueMap pairs) field.Null ways spelt is = refl
made_spelt way (says.ValueMap pairs) (field.Text text) ways spelt is =
    either_spelt (target_of pairs text) (target_of pairs (codes "*")) (target_spelt pairs text spelt) (target_spelt pairs (codes "*") spelt)

-- A SIDE of a row, and what columns make of it
abbrev IsSpeltColumn : TransformColumn → Type 0
IsSpeltColumn column = is_spelt_column column ≡ true

record IsSide (side : Side) : Type 0 where
  listed : All IsNamed side.listed
  sources : All IsNamed side.sources

module _ (way : Way) (ways : is_spelt_way way ≡ true) where
  fields_made : (columns : List TransformColumn) (side : Side) → All IsSpeltColumn columns → All IsNamed side.sources → All IsNamed (made_fields way columns side)
  fields_made columns side are sources =
      map_all IsNamed (λ (column : TransformColumn). (column.target, made_field way side column)) (filter makes columns)
      (mapped IsSpeltColumn (λ (column : TransformColumn). IsField (made_field way side column)) (filter makes columns)
      (λ column spelt. made_spelt way column.parsed (field_in side.sources column.source) ways spelt (found_field side.sources column.source sources))
      (filter_all IsSpeltColumn makes columns are))

  placed : (side : Side) (at : List ℕ × Field) (found : Option TransformColumn) → All IsNamed side.sources → IsNamed at → IfSome found IsSpeltColumn
      → All IsNamed (in_place way side at found)
  placed side at None sources is spelt = All-cons IsNamed at [] is (All-nil IsNamed)
  placed side at (Some column) sources is spelt = on (makes column)
    where
      on : (b : Bool) → All IsNamed (elim b [ true ↦ (at.0, made_field way side column) ∷ [] | false ↦ [] ])
      on true =
          All-cons IsNamed (at.0, made_field way side column) []
          (made_spelt way column.parsed (field_in side.sources column.source) ways spelt (found_field side.sources column.source sources)) (All-nil IsNamed)
      on false = All-nil IsNamed

  column_found : (columns : List TransformColumn) (name : List ℕ) → All IsSpeltColumn columns → IfSome (column_for columns name) IsSpeltColumn
  column_found columns name are = on (column_for columns name) refl
    where
      on : (found : Option TransformColumn) → column_for columns name ≡ found → IfSome found IsSpeltColumn
      on None is = tt
      on (Some column) is = find_all IsSpeltColumn (λ (c : TransformColumn). bytes_eq c.target name) columns column are is

  fields_passed : (columns : List TransformColumn) (side : Side) → All IsSpeltColumn columns → IsSide side → All IsNamed (passed_fields way columns side)
  fields_passed columns side are is =
      all_flat IsNamed (λ (at : List ℕ × Field). in_place way side at (column_for columns at.0)) side.listed
      (mapped IsNamed (λ (at : List ℕ × Field). All IsNamed (in_place way side at (column_for columns at.0))) side.listed
      (λ at named. placed side at (column_for columns at.0) is.sources named (column_found columns at.0 are)) is.listed)

  side_made : (policy : ColumnPolicy) (columns : List TransformColumn) (side : Side) → All IsSpeltColumn columns → IsSide side
      → All IsNamed (made_side way policy columns side)
  side_made Specified columns side are is = fields_made columns side are is.sources
  side_made Implied columns side are is =
      All-append IsNamed (passed_fields way columns side) (made_fields way (filter (is_further side) columns) side)
      (fields_passed columns side are is)
      (fields_made (filter (is_further side) columns) side (filter_all IsSpeltColumn (is_further side) columns are) is.sources)

-- A ROW of texts: as its document has it, and as it is read
record IsText (doc : DocRow) : Type 0 where
  new : All IsField doc.new
  key : All IsField doc.key
  old : IfSome doc.old (All IsField)

text_of : (doc : DocRow) → is_row_text doc ≡ true → IsText doc
text_of doc is =
    let sides : (are_fields doc.key && is_old_text doc.old) ≡ true = and_right (are_fields doc.new) (are_fields doc.key && is_old_text doc.old) is in
    record {
      new = fields_are doc.new (and_left (are_fields doc.new) (are_fields doc.key && is_old_text doc.old) is);
      key = fields_are doc.key (and_left (are_fields doc.key) (is_old_text doc.old) sides);
      old = old_are doc.old (and_right (are_fields doc.key) (is_old_text doc.old) sides);
    }
  where
    old_are : (old : Option (List Field)) → is_old_text old ≡ true → IfSome old (All IsField)
    old_are None is = tt
    old_are (Some fields) is = fields_are fields is

pub record AreSpelt (doc : DocRow) : Type 0 where
  new : All IsField doc.new
  key : All IsField doc.key

given_is : (names : List (List ℕ)) (fields : List Field) → All IsField fields → IsSide (given_side names fields)
given_is names fields are = record { listed = zip_fields names fields are; sources = zip_fields names fields are }

new_is : (doc : DocRow) → IsText doc → IsSide (new_side doc)
new_is doc is = given_is doc.columns doc.new is.new

old_is : (doc : DocRow) → IsText doc → IsSide (old_side doc)
old_is doc is = on doc.old is.old
  where
    keys : All IsNamed (zip doc.keys doc.key)
    keys = zip_fields doc.keys doc.key is.key

    on : (old : Option (List Field)) → IfSome old (All IsField) → IsSide (elim old [ None ↦ key_side doc | Some fields ↦ given_side doc.columns fields ])
    on None are = record {
      listed = map_all IsNamed (λ (name : List ℕ). (name, field_in (zip doc.keys doc.key) name)) doc.columns
          (all_of (λ (name : List ℕ). IsField (field_in (zip doc.keys doc.key) name)) doc.columns (λ name. found_field (zip doc.keys doc.key) name keys));
      sources = keys;
    }
    on (Some fields) are = given_is doc.columns fields are

-- WHAT A TRANSFORM MAKES of it
module _ (way : Way) (ways : is_spelt_way way ≡ true) (transform : TransformDef) (spelt : is_spelt_transform transform ≡ true) (doc : DocRow) (is : IsText doc) where
  abbrev active : List TransformColumn
  active = active_columns transform doc

  active_are : All IsSpeltColumn active
  active_are = filter_all IsSpeltColumn (takes_part doc.event) transform.columns (AllPass-from_list_all is_spelt_column transform.columns spelt)

  abbrev new : List (List ℕ × Field)
  new = side_of way transform doc (new_side doc)

  abbrev old : List (List ℕ × Field)
  old = side_of way transform doc (old_side doc)

  new_made : All IsNamed new
  new_made = side_made way ways transform.column_policy active (new_side doc) active_are (new_is doc is)

  old_made : All IsNamed old
  old_made = side_made way ways transform.column_policy active (old_side doc) active_are (old_is doc is)

  values_are : (fields : List (List ℕ × Field)) → All IsNamed fields → All IsField (map (λ (at : List ℕ × Field). at.1) fields)
  values_are fields are = map_all IsField (λ (at : List ℕ × Field). at.1) fields are

  insert_spelt : AreSpelt (made_insert way transform doc)
  insert_spelt = record { new = values_are new new_made; key = All-nil IsField }

  update_spelt : AreSpelt (made_update way transform doc)
  update_spelt = record { new = values_are new new_made; key = found_fields old (made_update way transform doc).keys old_made }

  delete_spelt : AreSpelt (made_delete way transform doc)
  delete_spelt = record { new = All-nil IsField; key = found_fields old (made_delete way transform doc).keys old_made }

  marked_are : All IsNamed (marked_fields way transform doc)
  marked_are =
      let made : List (List ℕ × Field) = made_fields way active (old_side doc) in
      let keys : List (List ℕ) = remaining_keys transform.column_policy doc old (names_of made) in
      All-append IsNamed made (map (λ (key : List ℕ). (key, field_in old key)) keys)
      (fields_made way ways active (old_side doc) active_are (old_is doc is).sources)
      (map_all IsNamed (λ (key : List ℕ). (key, field_in old key)) keys
      (all_of (λ (key : List ℕ). IsField (field_in old key)) keys (λ key. found_field old key old_made)))

  mark_spelt : AreSpelt (made_mark way transform doc)
  mark_spelt = record { new = values_are (marked_fields way transform doc) marked_are; key = found_fields old (made_delete way transform doc).keys old_made }

  rows_spelt : (e : Event) → All AreSpelt (made_rows way transform doc e)
  rows_spelt event.Insert = All-cons AreSpelt (made_insert way transform doc) [] insert_spelt (All-nil AreSpelt)
  rows_spelt event.Update = All-cons AreSpelt (made_update way transform doc) [] update_spelt (All-nil AreSpelt)
  rows_spelt event.Delete = on transform.delete_action
    where
      on : (action : DeleteAction) → All AreSpelt (made_of_delete way transform doc action)
      on DelRow = All-cons AreSpelt (made_delete way transform doc) [] delete_spelt (All-nil AreSpelt)
      on Nothing = All-nil AreSpelt
      on UpdateCol = All-cons AreSpelt (made_mark way transform doc) [] mark_spelt (All-nil AreSpelt)

abbrev pub IsSpeltShape : Shaped → Type 0
IsSpeltShape made = AreSpelt made.row

shape_spelt : (defs : List TableDef) (way : Way) (doc : DocRow) (transform : TransformDef) → is_spelt_way way ≡ true → IsText doc → is_spelt_transform transform ≡ true
    → All IsSpeltShape (shaped_by defs way doc transform)
shape_spelt defs way doc transform ways is spelt =
    map_all IsSpeltShape (λ (row : DocRow). record { row = row; adds = adds_of defs transform doc }) (made_rows way transform doc doc.event)
    (rows_spelt way ways transform spelt doc is doc.event)

shapes_spelt : (defs : List TableDef) (way : Way) (doc : DocRow) (transforms : List TransformDef) → is_spelt_way way ≡ true → IsText doc
    → All (λ (t : TransformDef). is_spelt_transform t ≡ true) transforms → All IsSpeltShape (by_transforms defs way doc transforms)
shapes_spelt defs way doc [] ways is are =
    All-cons IsSpeltShape (record { row = doc; adds = [] }) [] (record { new = is.new; key = is.key }) (All-nil IsSpeltShape)
shapes_spelt defs way doc (transform ∷ transforms) ways is are =
    all_flat IsSpeltShape (shaped_by defs way doc) (transform ∷ transforms)
    (mapped (λ (t : TransformDef). is_spelt_transform t ≡ true) (λ (t : TransformDef). All IsSpeltShape (shaped_by defs way doc t)) (transform ∷ transforms)
    (λ t spelt. shape_spelt defs way doc t ways is spelt) are)

pub shaped_spelt : (config : Config) (way : Way) (doc : DocRow) → is_spelt_config config ≡ true → is_spelt_way way ≡ true → is_row_text doc ≡ true
    → All IsSpeltShape (shaped_rows config way doc)
shaped_spelt config way doc spelt ways is =
    shapes_spelt config.tables way doc (transforms_for config way Load doc.table) ways (text_of doc is)
    (filter_all (λ (t : TransformDef). is_spelt_transform t ≡ true) (is_meant config way Load doc.table) config.transforms
    (AllPass-from_list_all is_spelt_transform config.transforms spelt))

-- WHAT IS READ of it
keys_are : (doc : DocRow) → AreSpelt doc → All IsNamed (key_fields doc)
keys_are doc are = on doc.event
  where
    on : (e : Event) → All IsNamed (elim e [ event.Insert ↦ zip doc.columns doc.new | event.Update ↦ zip doc.keys doc.key | event.Delete ↦ zip doc.keys doc.key ])
    on event.Insert = zip_fields doc.columns doc.new are.new
    on event.Update = zip_fields doc.keys doc.key are.key
    on event.Delete = zip_fields doc.keys doc.key are.key

named_spelt : (form : Binary) (columns : List ColumnDef) (name : List ℕ) (f : Field) → IsField f → is_spelt (named_value form columns (name, f)) ≡ true
named_spelt form columns name f is = on (column_named columns name)
  where
    on : (found : Option ColumnDef) → is_spelt (option_map_or (λ (c : ColumnDef). value_in form c f) found value.Null) ≡ true
    on None = refl
    on (Some column) = field_spelt form column f is

values_spelt : (form : Binary) (columns : List ColumnDef) (names : List (List ℕ)) (fields : List Field) → All IsField fields
    → list_all is_spelt (values_in form columns names fields) ≡ true
values_spelt form columns [] fields are = refl
values_spelt form columns (name ∷ names) [] are = refl
values_spelt form columns (name ∷ names) (f ∷ fields) are =
    and_both (is_spelt (named_value form columns (name, f))) (list_all is_spelt (values_in form columns names fields))
    (named_spelt form columns name f (all_head IsField f fields are)) (values_spelt form columns names fields (all_tail IsField f fields are))

key_spelt : (form : Binary) (columns : List ColumnDef) (fields : List (List ℕ × Field)) (names : List (List ℕ)) → All IsNamed fields
    → list_all is_spelt (map (λ (name : List ℕ). named_value form columns (name, field_in fields name)) names) ≡ true
key_spelt form columns fields [] are = refl
key_spelt form columns fields (name ∷ names) are =
    and_both (is_spelt (named_value form columns (name, field_in fields name)))
    (list_all is_spelt (map (λ (other : List ℕ). named_value form columns (other, field_in fields other)) names))
    (named_spelt form columns name (field_in fields name) (found_field fields name are)) (key_spelt form columns fields names are)

pub row_spelt : (defs : List TableDef) (form : Binary) (number : ℕ) (made : Shaped) → IsSpeltShape made → is_spelt_row (plain_row defs form number made.row) ≡ true
row_spelt defs form number made are =
    let doc : DocRow = made.row in
    let columns : List ColumnDef = doc_columns defs doc in
    and_both (list_all is_spelt (told_key defs form doc)) (list_all is_spelt (values_in form columns doc.columns doc.new))
    (key_spelt form columns (key_fields doc) (key_names defs (doc_table defs doc)) (keys_are doc are))
    (values_spelt form columns doc.columns doc.new are.new)

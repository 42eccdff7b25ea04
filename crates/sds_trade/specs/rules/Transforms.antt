-- Which transforms are for a row on its way from one node to another, and what they make of it, as
-- its batch is written and as it is loaded.
use Rattle.std.specs.Prelude.{ℕ, Bool, true, false, ◌&&◌, List, [], ◌∷◌, length, map, Option, None, Some, unwrap_or}
use Rattle.std.specs.List.{filter, filter_map, flat_map}
use Rattle.std.specs.Str.{bytes_eq}
use Rattle.sds_value.specs.declared.row.DocRow.{DocRow}
use Rattle.sds_value.specs.declared.table.TableDef.{TableDef}
use Rattle.sds_types.specs.declared.config.Config.{Config}
use Rattle.sds_types.specs.declared.row.Change.{Change}
use Rattle.sds_types.specs.declared.transform.Add.{Add}
use Rattle.sds_types.specs.declared.transform.Point.{Point}
use Rattle.sds_types.specs.declared.transform.Point.TheVariants.{Extract, Load}
use Rattle.sds_types.specs.declared.transform.Shaped.{Shaped}
use Rattle.sds_types.specs.declared.transform.TransformDef.{TransformDef}
use Rattle.sds_types.specs.declared.transform_column.ColumnExpression.{ColumnExpression}
use Rattle.sds_types.specs.declared.transform_column.ColumnExpression.TheVariants as says
use Rattle.sds_types.specs.declared.transform_column.TransformColumn.{TransformColumn}
use Rattle.sds_types.specs.declared.way.Way.{Way}
use Rattle.sds_trade.specs.rules.Places.{columns_at, column_place, table_place, group_name}
use Rattle.sds_trade.specs.rules.Sides.{doc_of_change}
use Rattle.sds_trade.specs.rules.MadeRows.{active_columns, made_rows}

-- the columns of the target table that are added to
abbrev pub add_by : Option ℕ → ColumnExpression → Option Add
add_by (Some column) (says.Additive factor) =
    Some (record { column = column; multiplier = factor })
add_by place other = None

abbrev pub add_of : List TableDef → ℕ → TransformColumn → Option Add
add_of defs table column =
    add_by (column_place (columns_at defs table) column.target) column.parsed

abbrev pub adds_of : List TableDef → TransformDef → DocRow → List Add
adds_of defs transform doc =
    filter_map (add_of defs (unwrap_or (table_place defs transform.target_table) (length defs)))
    (active_columns transform doc)

abbrev pub shaped_by : List TableDef → Way → DocRow → TransformDef → List Shaped
shaped_by defs way doc transform =
    map (λ (row : DocRow). record { row = row; adds = adds_of defs transform doc })
    (made_rows way transform doc doc.event)

-- the transforms for a row's table at a point of a way, in the configuration's order
abbrev pub is_point : Point → Point → Bool
is_point Extract Extract = true
is_point Load Load = true
is_point a b = false

abbrev pub is_meant : Config → Way → Point → List ℕ → TransformDef → Bool
is_meant config way point table transform = is_point transform.point point
    && (bytes_eq (group_name config.groups transform.source_group) way.source_group
    && (bytes_eq (group_name config.groups transform.target_group) way.target_group
    && bytes_eq transform.source_table table))

abbrev pub transforms_for : Config → Way → Point → List ℕ → List TransformDef
transforms_for config way point table = filter (is_meant config way point table) config.transforms

-- a row becomes what each of them makes of it, and passes as it is where there is none
abbrev pub by_transforms : List TableDef → Way → DocRow → List TransformDef → List Shaped
by_transforms defs way doc [] = record { row = doc; adds = [] } ∷ []
by_transforms defs way doc (transform ∷ transforms) =
    flat_map (shaped_by defs way doc) (transform ∷ transforms)

abbrev pub transformed_rows : Config → Way → Point → DocRow → List Shaped
transformed_rows config way point doc =
    by_transforms config.tables way doc (transforms_for config way point doc.table)

-- the rows that a change becomes as its batch is written
abbrev pub extracted_rows : Config → Way → Change → List DocRow
extracted_rows config way change = map (λ (made : Shaped). made.row)
    (transformed_rows config way Extract (doc_of_change config.tables change))

-- the rows that a row becomes as its batch is loaded
abbrev pub shaped_rows : Config → Way → DocRow → List Shaped
shaped_rows config way doc = transformed_rows config way Load doc

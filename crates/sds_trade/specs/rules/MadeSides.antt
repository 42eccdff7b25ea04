-- What a transform makes of a side of a row, and of which key columns.
use Rattle.std.specs.Prelude.{ℕ, Bool, true, false, not, ◌&&◌, List, [], ◌∷◌, ◌++◌, map, Option, None, Some}
use Rattle.std.specs.List.{filter, find, flat_map}
use Rattle.std.specs.Str.{bytes_eq}
use Rattle.sds_value.specs.declared.row.DocRow.{DocRow}
use Rattle.sds_value.specs.declared.row.Field.{Field}
use Rattle.sds_types.specs.declared.transform.ColumnPolicy.{ColumnPolicy}
use Rattle.sds_types.specs.declared.transform.ColumnPolicy.TheVariants.{Specified, Implied}
use Rattle.sds_types.specs.declared.transform_column.TransformColumn.{TransformColumn}
use Rattle.sds_types.specs.declared.way.Way.{Way}
use Rattle.sds_trade.specs.rules.ColumnFunctions.{is_remove, field_made}
use Rattle.sds_trade.specs.rules.DocRows.{field_in}
use Rattle.sds_trade.specs.rules.Places.{is_among}
use Rattle.sds_trade.specs.rules.Sides.{Side}

abbrev pub is_implied : ColumnPolicy → Bool
is_implied Implied = true
is_implied Specified = false

abbrev pub names_of : List (List ℕ × Field) → List (List ℕ)
names_of fields = map (λ (at : List ℕ × Field). at.0) fields

abbrev pub values_of : List (List ℕ × Field) → List Field
values_of fields = map (λ (at : List ℕ × Field). at.1) fields

-- the field that a column makes of a side, from its source there; an absent source is null
abbrev pub made_field : Way → Side → TransformColumn → Field
made_field way side column = field_made way column.parsed (field_in side.sources column.source)

-- the columns that make something, with what they make
abbrev pub makes : TransformColumn → Bool
makes column = not (is_remove column.kind)

abbrev pub made_fields : Way → List TransformColumn → Side → List (List ℕ × Field)
made_fields way columns side =
    map (λ (column : TransformColumn). (column.target, made_field way side column))
    (filter makes columns)

-- under the implied policy a column of the source passes, or gives way to the one of its name, or
-- is removed by it
abbrev pub in_place : Way → Side → List ℕ × Field → Option TransformColumn → List (List ℕ × Field)
in_place way side at None = at ∷ []
in_place way side at (Some column) =
    elim (makes column) [ true ↦ (at.0, made_field way side column) ∷ [] | false ↦ [] ]

abbrev pub column_for : List TransformColumn → List ℕ → Option TransformColumn
column_for columns name =
    find (λ (column : TransformColumn). bytes_eq column.target name) columns

abbrev pub passed_fields : Way → List TransformColumn → Side → List (List ℕ × Field)
passed_fields way columns side =
    flat_map (λ (at : List ℕ × Field). in_place way side at (column_for columns at.0)) side.listed

-- the columns whose targets the source doesn't list
abbrev pub is_further : Side → TransformColumn → Bool
is_further side column = not (is_among (names_of side.listed) column.target)

-- what the columns that take part make of a side: the listed columns alone; or the source's in
-- their places, and then the further ones
abbrev pub made_side : Way → ColumnPolicy → List TransformColumn → Side → List (List ℕ × Field)
made_side way Specified columns side = made_fields way columns side
made_side way Implied columns side =
    passed_fields way columns side ++ made_fields way (filter (is_further side) columns) side

-- the targets of the key columns
abbrev pub pk_targets : List TransformColumn → List (List ℕ)
pk_targets columns = map (λ (column : TransformColumn). column.target)
    (filter (λ (column : TransformColumn). column.pk) columns)

-- under the implied policy the source's keys that the made side still has, but for those among
-- certain names
abbrev pub remaining_keys : ColumnPolicy → DocRow → List (List ℕ × Field) → List (List ℕ)
    → List (List ℕ)
remaining_keys policy doc made others = filter (λ (key : List ℕ).
    is_implied policy && (is_among (names_of made) key && not (is_among others key))) doc.keys

-- the keys of the made row
abbrev pub made_keys : ColumnPolicy → List TransformColumn → DocRow → List (List ℕ × Field)
    → List (List ℕ)
made_keys policy columns doc made =
    pk_targets columns ++ remaining_keys policy doc made (pk_targets columns)

-- Texts of characters: those that a configuration and a way put into the rows of a batch.
use Rattle.std.specs.Prelude.{Bool, true, ◌&&◌}
use Rattle.std.specs.List.{list_all}
use Rattle.std.specs.Str.{all_scalars}
use Rattle.sds_types.specs.declared.config.Config.{Config}
use Rattle.sds_types.specs.declared.transform.TransformDef.{TransformDef}
use Rattle.sds_types.specs.declared.transform_column.ColumnExpression.{ColumnExpression}
use Rattle.sds_types.specs.declared.transform_column.ColumnExpression.TheVariants.{Const, ValueMap}
use Rattle.sds_types.specs.declared.transform_column.MapPair.{MapPair}
use Rattle.sds_types.specs.declared.transform_column.TransformColumn.{TransformColumn}
use Rattle.sds_types.specs.declared.way.Way.{Way}

-- the texts of its own that an expression puts into a row: a constant, and the targets of a map
abbrev pub is_spelt_expression : ColumnExpression → Bool
is_spelt_expression (Const text) = all_scalars text
is_spelt_expression (ValueMap pairs) =
    list_all (λ (pair : MapPair). all_scalars pair.target) pairs
is_spelt_expression other = true

abbrev pub is_spelt_column : TransformColumn → Bool
is_spelt_column column = is_spelt_expression column.parsed

abbrev pub is_spelt_transform : TransformDef → Bool
is_spelt_transform transform = list_all is_spelt_column transform.columns

-- those of a configuration: they are of characters in every one that a program has
abbrev pub is_spelt_config : Config → Bool
is_spelt_config config = list_all is_spelt_transform config.transforms

-- the ids of a way's two nodes, as they are where they are names
abbrev pub is_spelt_way : Way → Bool
is_spelt_way way = all_scalars way.source && all_scalars way.target

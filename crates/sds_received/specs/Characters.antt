-- Transforms whose expressions are of characters, as a test.
use Rattle.std.specs.Prelude.{Bool}
use Rattle.std.specs.List.{list_all}
use Rattle.std.specs.Str.{all_scalars}
use Rattle.sds_types.specs.declared.transform.TransformDef.{TransformDef}
use Rattle.sds_types.specs.declared.transform_column.TransformColumn.{TransformColumn}

abbrev pub is_column_text : TransformColumn → Bool
is_column_text column = all_scalars column.expression

abbrev pub is_transform_text : TransformDef → Bool
is_transform_text transform = list_all is_column_text transform.columns

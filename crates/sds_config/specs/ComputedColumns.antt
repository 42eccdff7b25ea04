-- What the expression of a transform's column says, and the columns of entries whose expressions are read.
use Rattle.std.specs.Prelude.{ℕ, List, [], ◌∷◌, Option, Some, option_map, option_and_then}
use Rattle.std.specs.Str.{encode_utf8_all}
use Rattle.sds_expressions.specs.Computed.{left_of, substr_of, value_map_of, variable_of, multiplier_of}
use Rattle.sds_types.specs.declared.transform_column.ColumnExpression.{ColumnExpression}
use Rattle.sds_types.specs.declared.transform_column.ColumnExpression.TheVariants as says
use Rattle.sds_types.specs.declared.transform_column.ColumnKind.{ColumnKind}
use Rattle.sds_types.specs.declared.transform_column.ColumnKind.TheVariants.{Copy, Remove, Const, Left, Substr, ValueMap, Variable, Additive}
use Rattle.sds_types.specs.declared.transform_column.TransformColumn.{TransformColumn}
use Rattle.sds_config.specs.declared.formulas.ColumnEntry.{ColumnEntry}

-- what an expression of this type says, if it is of the type's form, which is one of its bytes in UTF-8
abbrev pub column_expression_of : ColumnKind → List ℕ → Option ColumnExpression
column_expression_of Copy text = Some says.Unused
column_expression_of Remove text = Some says.Unused
column_expression_of Const text = Some (says.Const text)
column_expression_of Left text = option_map (λ count. says.Left count) (left_of (encode_utf8_all text))
column_expression_of Substr text = option_map (λ piece. says.Substr piece) (substr_of (encode_utf8_all text))
column_expression_of ValueMap text = option_map (λ pairs. says.ValueMap pairs) (value_map_of (encode_utf8_all text))
column_expression_of Variable text = option_map (λ node. says.Variable node) (variable_of (encode_utf8_all text))
column_expression_of Additive text = option_map (λ factor. says.Additive factor) (multiplier_of (encode_utf8_all text))

-- the column of an entry, with what its expression says beside the text
abbrev pub column_of : ColumnEntry → Option TransformColumn
column_of entry = option_map (λ parsed. record {
  target = entry.target;
  source = entry.source;
  pk = entry.pk;
  include_on = entry.include_on;
  kind = entry.kind;
  expression = entry.expression;
  parsed = parsed;
}) (column_expression_of entry.kind entry.expression)

-- the columns of all entries, if each expression is of its form
abbrev pub columns_of : List ColumnEntry → Option (List TransformColumn)
columns_of [] = Some []
columns_of (entry ∷ entries) = option_and_then (λ column. option_map (λ columns. column ∷ columns) (columns_of entries)) (column_of entry)

-- Kinds of expressions.
use Rattle.std.specs.Prelude.{Bool, true, false}
use Rattle.sds_types.specs.declared.transform_column.ColumnExpression.{ColumnExpression}
use Rattle.sds_types.specs.declared.transform_column.ColumnExpression.TheVariants as says

-- an expression makes something of its source's text, and nothing of null
abbrev pub is_of_text : ColumnExpression → Bool
is_of_text (says.Const text) = false
is_of_text (says.Variable node) = false
is_of_text expression = true

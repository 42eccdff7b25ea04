-- What the expression of a router or of a transform's column says, by its kind.
use Rattle.std.specs.Prelude.{ℕ, ℤ, List, [], ◌∷◌, Option, None, Some, option_map}
use Rattle.std.specs.Result.{result_ok}
use Rattle.std.specs.Str.{encode_utf8_all}
use Rattle.sds_types.specs.declared.column_test.ColumnTest.{ColumnTest}
use Rattle.sds_types.specs.declared.lookup.Lookup.{Lookup}
use Rattle.sds_types.specs.declared.subselect.Subselect.{Subselect}
use Rattle.sds_types.specs.declared.router.RouterKind.{RouterKind}
use Rattle.sds_types.specs.declared.router.RouterKind.TheVariants as router
use Rattle.sds_types.specs.declared.router.RouterExpression.{RouterExpression}
use Rattle.sds_types.specs.declared.router.RouterExpression.TheVariants.{Everything, Tests, Finds, Chooses}
use Rattle.sds_types.specs.declared.transform_column.ColumnKind.{ColumnKind}
use Rattle.sds_types.specs.declared.transform_column.ColumnKind.TheVariants as column
use Rattle.sds_types.specs.declared.transform_column.ColumnExpression.{ColumnExpression}
use Rattle.sds_types.specs.declared.transform_column.ColumnExpression.TheVariants as says
use Rattle.sds_types.specs.declared.transform_column.MapPair.{MapPair}
use Rattle.sds_types.specs.declared.transform_column.NodeWord.{NodeWord}
use Rattle.sds_types.specs.declared.transform_column.Substring.{Substring}
use Rattle.sds_expressions.specs.ColumnRouter.{tests_of}
use Rattle.sds_expressions.specs.LookupRouter.{lookup_read}
use Rattle.sds_expressions.specs.SubselectRouter.{subselect_of}
use Rattle.sds_expressions.specs.Computed.{left_of, substr_of, value_map_of, variable_of, multiplier_of}

-- that of a `default` router is empty and names every node
abbrev pub default_expression : List ℕ → Option RouterExpression
default_expression [] = Some Everything
default_expression (c ∷ cs) = None

-- what a router's expression says, and none where it isn't of its kind's form
abbrev pub router_expression_of : RouterKind → List ℕ → Option RouterExpression
router_expression_of router.Default text = default_expression text
router_expression_of router.Column text =
    option_map (λ (tests : List ColumnTest). Tests tests) (result_ok (tests_of text))
router_expression_of router.LookupTable text =
    option_map (λ (lookup : Lookup). Finds lookup) (result_ok (lookup_read text))
router_expression_of router.Subselect text =
    option_map (λ (choice : Subselect). Chooses choice) (result_ok (subselect_of text))

-- what the expression of a transform's column says, and none where it isn't of its kind's form
abbrev pub column_expression_of : ColumnKind → List ℕ → Option ColumnExpression
column_expression_of column.Copy text = Some says.Unused
column_expression_of column.Remove text = Some says.Unused
column_expression_of column.Const text = Some (says.Const text)
column_expression_of column.Left text =
    option_map (λ (count : ℕ). says.Left count) (left_of (encode_utf8_all text))
column_expression_of column.Substr text =
    option_map (λ (piece : Substring). says.Substr piece) (substr_of (encode_utf8_all text))
column_expression_of column.ValueMap text =
    option_map (λ (pairs : List MapPair). says.ValueMap pairs) (value_map_of (encode_utf8_all text))
column_expression_of column.Variable text =
    option_map (λ (node : NodeWord). says.Variable node) (variable_of (encode_utf8_all text))
column_expression_of column.Additive text =
    option_map (λ (factor : ℤ). says.Additive factor) (multiplier_of (encode_utf8_all text))

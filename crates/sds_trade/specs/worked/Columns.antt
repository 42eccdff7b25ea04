-- Worked cases: what the functions of transforms make of a text.
use Rattle.std.specs.Prelude.{◌≡◌, ℕ, List, [], codes, Option, None, Some}
use Rattle.sds_value.specs.declared.row.Field.{Field}
use Rattle.sds_value.specs.declared.row.Field.TheVariants.{Null, Text}
use Rattle.sds_types.specs.declared.transform_column.ColumnExpression.{ColumnExpression}
use Rattle.sds_types.specs.declared.transform_column.ColumnKind.{ColumnKind}
use Rattle.sds_types.specs.declared.transform_column.ColumnKind.TheVariants.{Copy, Const, Left, Substr, ValueMap, Variable}
use Rattle.sds_types.specs.declared.way.Way.{Way}
use Rattle.sds_trade.specs.rules.ColumnFunctions.{field_made}
use Rattle.sds_trade.specs.rules.Expressions.{column_expression_of}
use Rattle.sds_trade.specs.worked.Shop.{way_up}

-- the way from a store to a node of corp whose id isn't its group's
abbrev pub way_to_c1 : Way
way_to_c1 = record way_up { target = codes "c1" }

-- what an expression makes of a field on that way
abbrev pub made_by : Option ColumnExpression → Field → Field
made_by None source = Null
made_by (Some expression) source = field_made way_to_c1 expression source

abbrev pub Makes : ColumnKind → List ℕ → Field → Field → Type 0
Makes kind text source result = made_by (column_expression_of kind text) source ≡ result

abbrev pub MakesOfLetters : ColumnKind → List ℕ → List ℕ → Type 0
MakesOfLetters kind text result = Makes kind text (Text (codes "abcdef")) (Text result)

abbrev pub Substrings : Type 0
Substrings = MakesOfLetters Substr (codes "2,4") (codes "cd")
    × MakesOfLetters Substr (codes "4,9") (codes "ef")
    × MakesOfLetters Substr (codes "4,2") []
    × MakesOfLetters Substr (codes "9") []
    × MakesOfLetters Substr (codes "2") (codes "cdef")

abbrev pub Copies : Type 0
Copies = MakesOfLetters Copy [] (codes "abcdef") × MakesOfLetters Copy (codes "2") (codes "abcdef")

abbrev pub Lefts : Type 0
Lefts = MakesOfLetters Left (codes "2") (codes "ab")
    × MakesOfLetters Left (codes "9") (codes "abcdef")

abbrev pub Maps : Type 0
Maps = Makes ValueMap (codes "a=1 *=9") (Text (codes "a")) (Text (codes "1"))
    × Makes ValueMap (codes "a=1 *=9") (Text (codes "z")) (Text (codes "9"))
    × Makes ValueMap (codes "a=1 a=2") (Text (codes "a")) (Text (codes "1"))
    × Makes ValueMap (codes "a=1") (Text (codes "z")) Null

-- null gives null, but for a constant and a variable
abbrev pub OfNull : Type 0
OfNull = Makes Copy [] Null Null × Makes Left (codes "2") Null Null
    × Makes ValueMap (codes "*=9") Null Null
    × Makes Const (codes "x") Null (Text (codes "x"))
    × Makes Variable (codes "source_node_id") Null (Text (codes "s1"))
    × Makes Variable (codes "target_node_id") Null (Text (codes "c1"))

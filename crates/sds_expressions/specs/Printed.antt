-- A text for each expression, which reads back as it.
use Rattle.std.specs.Prelude.{◌≡◌, Bool, true, false, List, [], ◌∷◌, ◌++◌, ℕ, codes, All}
use Rattle.sds_types.specs.declared.column_test.ColumnTest.{ColumnTest}
use Rattle.sds_types.specs.declared.column_test.Operand.{Operand}
use Rattle.sds_types.specs.declared.column_test.Operand.TheVariants as operand
use Rattle.sds_types.specs.declared.lookup.Lookup.{Lookup}
use Rattle.sds_types.specs.declared.subselect.Compared.{Compared}
use Rattle.sds_types.specs.declared.subselect.Compared.TheVariants.{Routed, Text}
use Rattle.sds_types.specs.declared.subselect.Condition.{Condition}
use Rattle.sds_types.specs.declared.subselect.Subselect.{Subselect}
use Rattle.sds_value.specs.Names.{is_name_text}
use Rattle.sds_expressions.specs.declared.lookup_router.LookupKey.TheVariants.{Table, Column, LookupColumn, ExternalId}
use Rattle.sds_expressions.specs.ColumnForm.{begins_old, quoted}
use Rattle.sds_expressions.specs.LookupForm.{lookup_lines}
use Rattle.sds_expressions.specs.SubselectForm.{keyword_of}

-- The column of a test has a name. One that begins with `OLD_` can be asked for its old value
-- alone.
pub record IsTest (test : ColumnTest) : Type 0 where
  pub named : is_name_text test.name ≡ true
  pub current : test.old ≡ false → begins_old test.name ≡ false

-- a test, with a space on each side of its sign, and its texts between quotes
abbrev pub text_of_name : Bool → List ℕ → List ℕ
text_of_name true name = codes "OLD_" ++ name
text_of_name false name = name

abbrev pub text_of_sign : Bool → List ℕ
text_of_sign true = codes "!="
text_of_sign false = codes "="

abbrev pub text_of_operand : Operand → List ℕ
text_of_operand operand.NodeId = codes ":NODE_ID"
text_of_operand operand.ExternalId = codes ":EXTERNAL_ID"
text_of_operand operand.NodeGroupId = codes ":NODE_GROUP_ID"
text_of_operand operand.Null = codes "NULL"
text_of_operand (operand.Text text) = quoted text

abbrev pub text_of_test : ColumnTest → List ℕ
text_of_test test =
    text_of_name test.old test.name
    ++ (codes " " ++ (text_of_sign test.differs ++ (codes " " ++ text_of_operand test.operand)))

-- tests, joined by ` or `
abbrev pub text_of_tests : List ColumnTest → List ℕ
text_of_tests [] = []
text_of_tests (test ∷ []) = text_of_test test
text_of_tests (test ∷ next ∷ tests) =
    text_of_test test ++ (codes " or " ++ text_of_tests (next ∷ tests))

-- the four lines, in the order of the lookup
abbrev pub text_of_lookup : Lookup → List ℕ
text_of_lookup lookup = lookup_lines lookup (Table ∷ Column ∷ LookupColumn ∷ ExternalId ∷ [])

-- the columns of a condition have names, and so have those of a choice and its table
abbrev pub IsCompared : Compared → Type 0
IsCompared (Routed name) = is_name_text name ≡ true
IsCompared (Text text) = Unit {0}

pub record IsCondition (condition : Condition) : Type 0 where
  pub named : is_name_text condition.column ≡ true
  pub compared : IsCompared condition.value

pub record IsChoice (choice : Subselect) : Type 0 where
  pub column : is_name_text choice.column ≡ true
  pub table : is_name_text choice.table ≡ true
  pub conditions : All IsCondition choice.conditions

-- conditions without spacing, joined by ` and `
abbrev pub text_of_compared : Compared → List ℕ
text_of_compared (Routed name) = codes ":" ++ name
text_of_compared (Text text) = quoted text

abbrev pub text_of_condition : Condition → List ℕ
text_of_condition condition = condition.column ++ (codes "=" ++ text_of_compared condition.value)

abbrev pub text_of_conditions : List Condition → List ℕ
text_of_conditions [] = []
text_of_conditions (condition ∷ []) = text_of_condition condition
text_of_conditions (condition ∷ next ∷ conditions) =
    text_of_condition condition ++ (codes " and " ++ text_of_conditions (next ∷ conditions))

-- a choice, with keywords in lower case
abbrev pub text_of_choice : Subselect → List ℕ
text_of_choice choice =
    codes "c." ++ (keyword_of choice.by ++ (codes " in (select " ++ (choice.column
    ++ (codes " from " ++ (choice.table
    ++ (codes " where " ++ (text_of_conditions choice.conditions ++ codes ")")))))))

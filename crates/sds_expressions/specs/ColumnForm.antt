-- The form of a `column` router's expression: tests that ` or ` or a line feed joins.
use Rattle.std.specs.Prelude.{◌≡◌, ◌≢◌, ◌⊎◌, ℕ, Bool, true, false, ◌&&◌, ◌||◌, ◌==◌, nat_le, if◌then◌else◌, List, [], ◌∷◌, ◌++◌, length, codes}
use Rattle.std.specs.List.{list_all, starts_with}
use Rattle.sds_types.specs.declared.column_test.ColumnTest.{ColumnTest}
use Rattle.sds_types.specs.declared.column_test.Operand.{Operand}
use Rattle.sds_types.specs.declared.column_test.Operand.TheVariants.{NodeId, ExternalId, NodeGroupId, Null, Text}
use Rattle.sds_value.specs.Names.{is_name_text, is_name_character}
use Rattle.sds_expressions.specs.Forms.{Form, ◌▸◌, Exactly, AnyOf}

abbrev pub is_space : ℕ → Bool
is_space c = c == 32

abbrev pub Spaces : Form
Spaces = AnyOf is_space

-- The name of a column, with `OLD_` before it where its old value is asked for. Any other name
-- doesn't begin so.
abbrev pub begins_old : List ℕ → Bool
begins_old text = starts_with (λ a b. a == b) text (codes "OLD_")

abbrev pub NameOf : Bool → List ℕ → Form
NameOf true name text = (text ≡ codes "OLD_" ++ name) × (is_name_text name ≡ true)
NameOf false name text = (text ≡ name) × (is_name_text name ≡ true) × (begins_old name ≡ false)

abbrev pub SignOf : Bool → Form
SignOf false = Exactly (codes "=")
SignOf true = Exactly (codes "!=")

-- one or more characters of names, or points
abbrev pub is_bare_character : ℕ → Bool
is_bare_character c = is_name_character c || c == 46

abbrev pub is_bare : List ℕ → Bool
is_bare text = nat_le 1 (length text) && list_all is_bare_character text

-- a text between quotes (39), where two quotes stand for each quote in it
abbrev pub doubled : List ℕ → List ℕ
doubled [] = []
doubled (c ∷ cs) = if c == 39 then 39 ∷ 39 ∷ doubled cs else c ∷ doubled cs

abbrev pub quoted : List ℕ → List ℕ
quoted text = 39 ∷ (doubled text ++ 39 ∷ [])

-- a bare text stands for itself; `NULL` is none
abbrev pub IsBareText : List ℕ → List ℕ → Type 0
IsBareText text value = (text ≡ value) × (is_bare value ≡ true) × (value ≢ codes "NULL")

-- what a column is compared with
abbrev pub OperandOf : Operand → Form
OperandOf NodeId = Exactly (codes ":NODE_ID")
OperandOf ExternalId = Exactly (codes ":EXTERNAL_ID")
OperandOf NodeGroupId = Exactly (codes ":NODE_GROUP_ID")
OperandOf Null = Exactly (codes "NULL")
OperandOf (Text value) = λ text. IsBareText text value ⊎ (text ≡ quoted value)

-- a name, a sign and a value, with any number of spaces round each
abbrev pub TestOf : ColumnTest → Form
TestOf test =
    Spaces ▸ NameOf test.old test.name ▸ Spaces ▸ SignOf test.differs ▸ Spaces
    ▸ OperandOf test.operand ▸ Spaces

-- what joins two tests
abbrev pub IsJoint : Form
IsJoint text = (text ≡ codes " or ") ⊎ (text ≡ 10 ∷ [])

-- one test or more
abbrev pub TestsOf : List ColumnTest → Form
TestsOf [] = λ text. ⊥
TestsOf (test ∷ []) = TestOf test
TestsOf (test ∷ next ∷ tests) = TestOf test ▸ IsJoint ▸ TestsOf (next ∷ tests)

-- one line feed may stand at the end
abbrev pub OptionalFeed : Form
OptionalFeed text = (text ≡ []) ⊎ (text ≡ 10 ∷ [])

-- the text is an expression that says these tests
abbrev pub IsColumnForm : List ℕ → List ColumnTest → Type 0
IsColumnForm text tests = (TestsOf tests ▸ OptionalFeed) text

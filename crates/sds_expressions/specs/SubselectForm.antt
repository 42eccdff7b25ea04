-- The form of a `subselect` router's expression: the nodes that a choice from a table names.
use Rattle.std.specs.Prelude.{◌≡◌, ℕ, Bool, true, ◌||◌, ◌==◌, nat_le, List, [], ◌∷◌, length, map, codes}
use Rattle.std.specs.Char.{to_ascii_lowercase}
use Rattle.std.specs.List.{list_all}
use Rattle.sds_types.specs.declared.subselect.Compared.{Compared}
use Rattle.sds_types.specs.declared.subselect.Compared.TheVariants.{Routed, Text}
use Rattle.sds_types.specs.declared.subselect.Condition.{Condition}
use Rattle.sds_types.specs.declared.subselect.NodeColumn.{NodeColumn}
use Rattle.sds_types.specs.declared.subselect.NodeColumn.TheVariants.{ExternalId, NodeId}
use Rattle.sds_types.specs.declared.subselect.Subselect.{Subselect}
use Rattle.sds_expressions.specs.Forms.{Form, ◌▸◌, Exactly, AnyOf, Name}
use Rattle.sds_expressions.specs.ColumnForm.{quoted}

-- a space, a tab, a carriage return or a line feed
abbrev pub is_spacing : ℕ → Bool
is_spacing c = c == 32 || (c == 9 || (c == 13 || c == 10))

abbrev pub Spacing : Form
Spacing = AnyOf is_spacing

-- what divides two words: spacing that isn't empty
abbrev pub Gap : Form
Gap text = (list_all is_spacing text ≡ true) × (nat_le 1 (length text) ≡ true)

-- each letter of a keyword is in either case
abbrev pub Keyword : List ℕ → Form
Keyword word text = map to_ascii_lowercase text ≡ word

-- the keyword of a node's column
abbrev pub keyword_of : NodeColumn → List ℕ
keyword_of ExternalId = codes "external_id"
keyword_of NodeId = codes "node_id"

-- what a column is compared with: a column of the routed row, or a text between quotes
abbrev pub ComparedOf : Compared → Form
ComparedOf (Routed name) = Exactly (codes ":") ▸ Spacing ▸ Name name
ComparedOf (Text text) = Exactly (quoted text)

abbrev pub ConditionOf : Condition → Form
ConditionOf condition =
    Name condition.column ▸ Spacing ▸ Exactly (codes "=") ▸ Spacing ▸ ComparedOf condition.value

-- Between a value and the next keyword. A quoted text needs no spacing after it.
abbrev pub SpacingAfter : Compared → Form
SpacingAfter (Routed name) = Gap
SpacingAfter (Text text) = Spacing

-- one condition or more
abbrev pub ConditionsOf : List Condition → Form
ConditionsOf [] = λ text. ⊥
ConditionsOf (condition ∷ []) = ConditionOf condition
ConditionsOf (condition ∷ next ∷ conditions) =
    ConditionOf condition ▸ SpacingAfter condition.value ▸ Keyword (codes "and") ▸ Gap
    ▸ ConditionsOf (next ∷ conditions)

-- The text is an expression that says this choice, in the way of
-- `c.external_id in (select COLUMN from TABLE where CONDITION and ..)`.
abbrev pub IsSubselectForm : List ℕ → Subselect → Type 0
IsSubselectForm text choice =
    (Spacing ▸ Keyword (codes "c") ▸ Spacing ▸ Exactly (codes ".")
    ▸ Spacing ▸ Keyword (keyword_of choice.by) ▸ Gap ▸ Keyword (codes "in")
    ▸ Spacing ▸ Exactly (codes "(")
    ▸ Spacing ▸ Keyword (codes "select") ▸ Gap ▸ Name choice.column
    ▸ Gap ▸ Keyword (codes "from") ▸ Gap ▸ Name choice.table
    ▸ Gap ▸ Keyword (codes "where") ▸ Gap ▸ ConditionsOf choice.conditions
    ▸ Spacing ▸ Exactly (codes ")") ▸ Spacing) text

-- The section `router`: which nodes of the target group a change goes to.
use Rattle.std.specs.Prelude.{ℕ, Bool, true, false, ◌&&◌, if◌then◌else◌, List, [], ◌∷◌, codes, Option, Some, None, Result, Ok, Err}
use Rattle.std.specs.List.{list_any, list_all}
use Rattle.std.specs.Str.{chars}
use Rattle.toml.specs.Data.{Members}
use Rattle.sds_value.specs.declared.table.TableDef.{TableDef}
use Rattle.sds_expressions.specs.ColumnRouter.{tests_of}
use Rattle.sds_expressions.specs.LookupRouter.{lookup_read}
use Rattle.sds_expressions.specs.SubselectRouter.{subselect_of}
use Rattle.sds_types.specs.declared.lookup.Lookup.{Lookup}
use Rattle.sds_types.specs.declared.subselect.Compared.{Compared}
use Rattle.sds_types.specs.declared.subselect.Compared.TheVariants.{Routed, Text}
use Rattle.sds_types.specs.declared.subselect.Condition.{Condition}
use Rattle.sds_types.specs.declared.subselect.Subselect.{Subselect as Choice}
use Rattle.sds_types.specs.declared.column_test.ColumnTest.{ColumnTest}
use Rattle.sds_types.specs.declared.config.Config.{Config}
use Rattle.sds_types.specs.declared.config_refusal.ConfigRefusal.{ConfigRefusal}
use Rattle.sds_types.specs.declared.config_refusal.ConfigRefusal.TheVariants.{BadExpression, BadSetting, NoLink, UnknownName}
use Rattle.sds_types.specs.declared.router.RouterDef.{RouterDef}
use Rattle.sds_types.specs.declared.router.RouterExpression.{RouterExpression}
use Rattle.sds_types.specs.declared.router.RouterExpression.TheVariants.{Everything, Tests, Finds, Chooses}
use Rattle.sds_types.specs.declared.router.RouterKind.{RouterKind}
use Rattle.sds_types.specs.declared.router.RouterKind.TheVariants.{Default, Column, LookupTable, Subselect}
use Rattle.sds_config.specs.Ends.{ends_at}
use Rattle.sds_config.specs.Fields.{only_keys, id_at, word_at, text_or_empty}
use Rattle.sds_config.specs.Links.{leads}
use Rattle.sds_config.specs.Refusals.{and_then}
use Rattle.sds_config.specs.Transforms.{has_column, table_named}
use Rattle.sds_config.specs.Words.{router_kind_of}

abbrev pub router_keys : List (List ℕ)
router_keys = codes "id" ∷ codes "source_group" ∷ codes "target_group" ∷ codes "type" ∷ codes "expression" ∷ []

-- an expression that is to be empty
abbrev pub empty_expression : List ℕ → List ℕ → Result RouterExpression ConfigRefusal
empty_expression at [] = Ok Everything
empty_expression at (c ∷ cs) = Err (BadSetting (chars at))

-- a table has a column of this name
abbrev pub is_somewhere : List TableDef → List ℕ → Bool
is_somewhere tables name = list_any (λ table. has_column table name) tables

-- an expression whose names are known
abbrev pub known : List ℕ → Bool → RouterExpression → Result RouterExpression ConfigRefusal
known at true expression = Ok expression
known at false expression = Err (UnknownName (chars at))

-- each column that is tested is one that a table has
abbrev pub judged_tests : List ℕ → List ℕ → List TableDef → Result (List ColumnTest) ℕ → Result RouterExpression ConfigRefusal
judged_tests at id tables (Err place) = Err (BadExpression id place)
judged_tests at id tables (Ok tests) = known at (list_all (λ test. is_somewhere tables test.name) tests) (Tests tests)

-- a table of this name has both columns
abbrev pub has_both : Option TableDef → List ℕ → List ℕ → Bool
has_both None first second = false
has_both (Some table) first second = has_column table first && has_column table second

-- the table that is looked up in has the two columns, and the column of the routed row is one that a table has
abbrev pub lookup_known : List TableDef → Lookup → Bool
lookup_known tables lookup = has_both (table_named tables lookup.table) lookup.lookup_column lookup.external_id && is_somewhere tables lookup.column

abbrev pub judged_lookup : List ℕ → List ℕ → List TableDef → Result Lookup ℕ → Result RouterExpression ConfigRefusal
judged_lookup at id tables (Err place) = Err (BadExpression id place)
judged_lookup at id tables (Ok lookup) = known at (lookup_known tables lookup) (Finds lookup)

-- a column of the routed row is one that a table has
abbrev pub is_value_known : List TableDef → Compared → Bool
is_value_known tables (Routed name) = is_somewhere tables name
is_value_known tables (Text text) = true

-- the table has the columns of the conditions
abbrev pub has_conditions : List TableDef → TableDef → List Condition → Bool
has_conditions tables table conditions = list_all (λ condition. has_column table condition.column && is_value_known tables condition.value) conditions

abbrev pub has_choice : List TableDef → Option TableDef → Choice → Bool
has_choice tables None choice = false
has_choice tables (Some table) choice = has_column table choice.column && has_conditions tables table choice.conditions

abbrev pub judged_choice : List ℕ → List ℕ → List TableDef → Result Choice ℕ → Result RouterExpression ConfigRefusal
judged_choice at id tables (Err place) = Err (BadExpression id place)
judged_choice at id tables (Ok choice) = known at (has_choice tables (table_named tables choice.table) choice) (Chooses choice)

-- what the expression says: that of a `default` router is empty, and that of another type is of the type's form
abbrev pub judged : Config → List ℕ → RouterDef → RouterKind → Result RouterExpression ConfigRefusal
judged config at router Default = empty_expression at router.expression
judged config at router Column = judged_tests at router.id config.tables (tests_of router.expression)
judged config at router LookupTable = judged_lookup at router.id config.tables (lookup_read router.expression)
judged config at router Subselect = judged_choice at router.id config.tables (subselect_of router.expression)

-- the router as a whole
abbrev pub whole_router : Config → List ℕ → RouterDef → Result RouterDef ConfigRefusal
whole_router config at router =
    if leads config.links router.source_group router.target_group
    then and_then (judged config at router router.kind) (λ expression. Ok (record router { parsed = expression }))
    else Err (NoLink (chars at))

abbrev pub router_of : Config → List RouterDef → Members → List ℕ → Result RouterDef ConfigRefusal
router_of config earlier entry at =
    and_then (only_keys router_keys entry at) (λ _.
    and_then (id_at (λ router. router.id) earlier entry at (codes "id")) (λ id.
    and_then (ends_at config.groups entry at) (λ ends.
    and_then (word_at router_kind_of entry at (codes "type")) (λ kind.
    and_then (text_or_empty entry at (codes "expression")) (λ expression.
    whole_router config at (record { id = id; source_group = ends.source; target_group = ends.target; kind = kind; expression = expression; parsed = Everything }))))))

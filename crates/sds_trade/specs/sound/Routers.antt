-- Of a sound configuration: its routers.
use Rattle.std.specs.Prelude.{◌≡◌, ◌≢◌, ◌<◌, ◌≤◌, Bool, true, false, ◌&&◌, IsTrue, List, length, Option, None, Some}
use Rattle.std.specs.List.{All, AllPairs, list_all}
use Rattle.sds_value.specs.Names.{is_name_text}
use Rattle.sds_value.specs.declared.table.TableDef.{TableDef}
use Rattle.sds_types.specs.Limits.{most_routers}
use Rattle.sds_types.specs.declared.config.Config.{Config}
use Rattle.sds_types.specs.declared.column_test.ColumnTest.{ColumnTest}
use Rattle.sds_types.specs.declared.lookup.Lookup.{Lookup}
use Rattle.sds_types.specs.declared.subselect.Compared.{Compared}
use Rattle.sds_types.specs.declared.subselect.Compared.TheVariants.{Routed, Text}
use Rattle.sds_types.specs.declared.subselect.Condition.{Condition}
use Rattle.sds_types.specs.declared.subselect.Subselect.{Subselect}
use Rattle.sds_types.specs.declared.router.RouterDef.{RouterDef}
use Rattle.sds_types.specs.declared.router.RouterExpression.{RouterExpression}
use Rattle.sds_types.specs.declared.router.RouterExpression.TheVariants.{Everything, Tests, Finds, Chooses}
use Rattle.sds_trade.specs.rules.Places.{table_named, has_column, is_a_column}
use Rattle.sds_trade.specs.rules.Expressions.{router_expression_of}
use Rattle.sds_trade.specs.sound.Sections.{leads}

-- a condition's column is the table's, and the column of the routed row that it names is a table's
abbrev pub is_compared_known : List TableDef → Compared → Bool
is_compared_known defs (Routed name) = is_a_column defs name
is_compared_known defs (Text text) = true

abbrev pub is_condition_known : List TableDef → TableDef → Condition → Bool
is_condition_known defs def condition =
    has_column def condition.column && is_compared_known defs condition.value

-- the table that is looked up in has both columns, and the routed row's column is a table's
abbrev pub is_lookup_known : List TableDef → Lookup → Option TableDef → Bool
is_lookup_known defs lookup None = false
is_lookup_known defs lookup (Some def) =
    has_column def lookup.lookup_column
    && (has_column def lookup.external_id && is_a_column defs lookup.column)

-- the table that is chosen from has the column of the choice and those of the conditions
abbrev pub is_choice_known : List TableDef → Subselect → Option TableDef → Bool
is_choice_known defs choice None = false
is_choice_known defs choice (Some def) =
    has_column def choice.column && list_all (is_condition_known defs def) choice.conditions

-- the tables and columns that an expression names are the configuration's
abbrev pub are_names_known : List TableDef → RouterExpression → Bool
are_names_known defs Everything = true
are_names_known defs (Tests tests) =
    list_all (λ (test : ColumnTest). is_a_column defs test.name) tests
are_names_known defs (Finds lookup) =
    is_lookup_known defs lookup (table_named defs lookup.table)
are_names_known defs (Chooses choice) =
    is_choice_known defs choice (table_named defs choice.table)

-- a router leads where a link does, and is parsed as its text says, of names that are known
pub record IsRouter (config : Config) (router : RouterDef) : Type 0 where
  pub named : IsTrue (is_name_text router.id)
  pub source : router.source_group < length config.groups
  pub target : router.target_group < length config.groups
  pub linked : IsTrue (leads config.links router.source_group router.target_group)
  pub parsed : router_expression_of router.kind router.expression ≡ Some router.parsed
  pub known : IsTrue (are_names_known config.tables router.parsed)

pub record AreRouters (config : Config) : Type 0 where
  pub few : length config.routers ≤ most_routers
  pub each : All (IsRouter config) config.routers
  pub apart : AllPairs (λ (a b : RouterDef). a.id ≢ b.id) config.routers

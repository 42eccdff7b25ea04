-- The routers of a file are sound.
use Rattle.std.proofs.Common.{◌≡◌, ◌≢◌, ℕ, ◌<◌, ◌≤◌, Bool, true, false, cond, List, [], ◌∷◌, ◌++◌, length, Option, None, Some, Result, Ok, Err, refl, subst, All, AllPairs, sym, ap, ◌∙◌, true≢false, ◌&&◌}
use Rattle.std.specs.Bool.{IsTrue}
use Rattle.std.specs.Prelude.{codes, if◌then◌else◌, option_map}
use Rattle.std.specs.Result.{result_ok}
use Rattle.std.specs.Str.{chars}
use Rattle.std.proofs.lemmas.List.Elements.{All-nil}
use Rattle.toml.specs.Data.{Members}
use Rattle.sds_expressions.specs.ColumnRouter.{tests_of}
use Rattle.sds_expressions.specs.LookupRouter.{lookup_read}
use Rattle.sds_expressions.specs.SubselectRouter.{subselect_of}
use Rattle.sds_value.specs.declared.table.TableDef.{TableDef}
use Rattle.sds_types.specs.declared.column_test.ColumnTest.{ColumnTest}
use Rattle.sds_types.specs.declared.config.Config.{Config}
use Rattle.sds_types.specs.declared.config_refusal.ConfigRefusal.{ConfigRefusal}
use Rattle.sds_types.specs.declared.config_refusal.ConfigRefusal.TheVariants.{NoLink}
use Rattle.sds_types.specs.declared.lookup.Lookup.{Lookup}
use Rattle.sds_types.specs.declared.router.RouterDef.{RouterDef}
use Rattle.sds_types.specs.declared.router.RouterExpression.{RouterExpression}
use Rattle.sds_types.specs.declared.router.RouterExpression.TheVariants.{Everything, Tests, Finds, Chooses}
use Rattle.sds_types.specs.declared.router.RouterKind.{RouterKind}
use Rattle.sds_types.specs.declared.router.RouterKind.TheVariants.{Default, Column, LookupTable, Subselect}
use Rattle.sds_types.specs.declared.subselect.Subselect.{Subselect as Choice}
use Rattle.sds_trade.specs.rules.Expressions.{router_expression_of}
use Rattle.sds_trade.specs.rules.Places.{has_column, is_a_column, table_named}
use Rattle.sds_trade.specs.sound.Routers.{IsRouter, are_names_known, is_choice_known, is_condition_known, is_lookup_known}
use Rattle.sds_config.specs.Ends.{ends_at}
use Rattle.sds_config.specs.Fields.{id_at, only_keys, place_at, text_or_empty, word_at}
use Rattle.sds_config.specs.Links.{leads}
use Rattle.sds_config.specs.Refusals.{and_then}
use Rattle.sds_config.specs.Routers.{empty_expression, judged, judged_tests, judged_lookup, judged_choice, known, lookup_known, has_both, has_choice, has_conditions, router_keys, router_of, whole_router}
use Rattle.sds_config.specs.Sections.{section_of}
use Rattle.sds_config.specs.Words.{router_kind_of}
use Rattle.sds_config.specs.declared.ends.Ends.{Ends}
use Rattle.sds_configlaws.proofs.Gave.{Answer, Is, gives, refuses, gave, same_value, never, all_snoc, pairs_snoc, no_pairs, IsNew, new_given, place_given}
use Rattle.sds_configlaws.proofs.Kept.{Keeps, IsKept, section_kept}

-- ENDS. Both groups are there
pub record AreEnds (groups : List (List ℕ)) (ends : Ends) : Type 0 where
  pub source : ends.source < length groups
  pub target : ends.target < length groups

pub ends_given : (groups : List (List ℕ)) (entry : Members) (at : List ℕ) (ends : Ends) → ends_at groups entry at ≡ Ok ends → AreEnds groups ends
ends_given groups entry at ends is =
    gave (place_at (λ name. name) groups entry at (codes "source_group")) _ ends is (λ source source_is is.
    gave (place_at (λ name. name) groups entry at (codes "target_group")) _ ends is (λ target target_is is.
    subst (λ e. AreEnds groups e) (same_value (record { source = source; target = target }) ends is) (record {
      source = place_given (λ name. name) groups entry at (codes "source_group") source source_is;
      target = place_given (λ name. name) groups entry at (codes "target_group") target target_is;
    })))

-- EXPRESSIONS. What was judged is what the text says, of names that are known
pub record IsJudged (config : Config) (kind : RouterKind) (text : List ℕ) (expression : RouterExpression) : Type 0 where
  pub parsed : router_expression_of kind text ≡ Some expression
  pub names : IsTrue (are_names_known config.tables expression)

known_on : (config : Config) (kind : RouterKind) (text at : List ℕ) (b : Bool) (says expression : RouterExpression)
    → router_expression_of kind text ≡ Some says → (b ≡ true → are_names_known config.tables says ≡ true) → known at b says ≡ Ok expression
    → IsJudged config kind text expression
known_on config kind text at true says expression parsed names is =
    subst (λ e. IsJudged config kind text e) (same_value says expression is) (record { parsed = parsed; names = names refl })
known_on config kind text at false says expression parsed names is = never _ expression is

empty_on : (config : Config) (at text : List ℕ) (expression : RouterExpression) → empty_expression at text ≡ Ok expression
    → IsJudged config Default text expression
empty_on config at [] expression is =
    subst (λ e. IsJudged config Default [] e) (same_value Everything expression is) (record { parsed = refl; names = refl })
empty_on config at (c ∷ cs) expression is = never _ expression is

tests_on : (config : Config) (at id text : List ℕ) (read : Result (List ColumnTest) ℕ) (expression : RouterExpression) → tests_of text ≡ read
    → judged_tests at id config.tables read ≡ Ok expression → IsJudged config Column text expression
tests_on config at id text (Ok tests) expression read is =
    known_on config Column text at _ (Tests tests) expression (ap (λ r. option_map (λ (t : List ColumnTest). Tests t) (result_ok r)) read) (λ known. known) is
tests_on config at id text (Err place) expression read is = never _ expression is

regrouped : (a b c : Bool) → ((a && b) && c) ≡ true → (a && (b && c)) ≡ true
regrouped true true c is = is
regrouped true false c is = is
regrouped false b c is = is

lookup_names : (tables : List TableDef) (lookup : Lookup) (found : Option TableDef)
    → (has_both found lookup.lookup_column lookup.external_id && is_a_column tables lookup.column) ≡ true → is_lookup_known tables lookup found ≡ true
lookup_names tables lookup None is = is
lookup_names tables lookup (Some def) is =
    regrouped (has_column def lookup.lookup_column) (has_column def lookup.external_id) (is_a_column tables lookup.column) is

lookup_on : (config : Config) (at id text : List ℕ) (read : Result Lookup ℕ) (expression : RouterExpression) → lookup_read text ≡ read
    → judged_lookup at id config.tables read ≡ Ok expression → IsJudged config LookupTable text expression
lookup_on config at id text (Ok lookup) expression read is =
    known_on config LookupTable text at _ (Finds lookup) expression (ap (λ r. option_map (λ (l : Lookup). Finds l) (result_ok r)) read)
    (λ known. lookup_names config.tables lookup (table_named config.tables lookup.table) known) is
lookup_on config at id text (Err place) expression read is = never _ expression is

choice_names : (tables : List TableDef) (choice : Choice) (found : Option TableDef) → has_choice tables found choice ≡ true
    → is_choice_known tables choice found ≡ true
choice_names tables choice None is = is
choice_names tables choice (Some def) is = is

choice_on : (config : Config) (at id text : List ℕ) (read : Result Choice ℕ) (expression : RouterExpression) → subselect_of text ≡ read
    → judged_choice at id config.tables read ≡ Ok expression → IsJudged config Subselect text expression
choice_on config at id text (Ok choice) expression read is =
    known_on config Subselect text at _ (Chooses choice) expression (ap (λ r. option_map (λ (c : Choice). Chooses c) (result_ok r)) read)
    (λ known. choice_names config.tables choice (table_named config.tables choice.table) known) is
choice_on config at id text (Err place) expression read is = never _ expression is

judged_well : (config : Config) (at : List ℕ) (router : RouterDef) (kind : RouterKind) (expression : RouterExpression)
    → judged config at router kind ≡ Ok expression → IsJudged config kind router.expression expression
judged_well config at router Default expression is = empty_on config at router.expression expression is
judged_well config at router Column expression is = tests_on config at router.id router.expression (tests_of router.expression) expression refl is
judged_well config at router LookupTable expression is =
    lookup_on config at router.id router.expression (lookup_read router.expression) expression refl is
judged_well config at router Subselect expression is =
    choice_on config at router.id router.expression (subselect_of router.expression) expression refl is

-- ROUTERS
abbrev Apart : RouterDef → RouterDef → Type 0
Apart a b = a.id ≢ b.id

pub record Routers (config : Config) (routers : List RouterDef) : Type 0 where
  pub each : All (IsRouter config) routers
  pub apart : AllPairs Apart routers

no_routers : (config : Config) → Routers config []
no_routers config = record { each = All-nil (IsRouter config); apart = no_pairs Apart }

router_more : (config : Config) (earlier : List RouterDef) (made new : RouterDef) (expression : RouterExpression) → Routers config earlier
    → IsNew (λ router. router.id) earlier made.id → AreEnds config.groups (record { source = made.source_group; target = made.target_group })
    → leads config.links made.source_group made.target_group ≡ true → IsJudged config made.kind made.expression expression
    → gives (record made { parsed = expression }) ≡ Ok new → Routers config (earlier ++ new ∷ [])
router_more config earlier made new expression are id ends linked judged is =
    subst (λ n. Routers config (earlier ++ n ∷ [])) (same_value (record made { parsed = expression }) new is) (record {
      each = all_snoc (IsRouter config) earlier (record made { parsed = expression }) are.each (record {
        named = id.named;
        source = ends.source;
        target = ends.target;
        linked = linked;
        parsed = judged.parsed;
        known = judged.names;
      });
      apart = pairs_snoc Apart earlier (record made { parsed = expression }) are.apart id.apart;
    })

router_on : (config : Config) (earlier : List RouterDef) (at : List ℕ) (refusal : ConfigRefusal) (made new : RouterDef) (b : Bool) → Routers config earlier
    → IsNew (λ router. router.id) earlier made.id → AreEnds config.groups (record { source = made.source_group; target = made.target_group })
    → leads config.links made.source_group made.target_group ≡ b
    → Is (cond b (and_then (judged config at made made.kind) (λ expression. gives (record made { parsed = expression }))) (refuses refusal)) new
    → Routers config (earlier ++ new ∷ [])
router_on config earlier at refusal made new true are id ends linked is =
    gave (judged config at made made.kind) _ new is (λ expression judged_is is.
    router_more config earlier made new expression are id ends linked (judged_well config at made made.kind expression judged_is) is)
router_on config earlier at refusal made new false are id ends linked is = never _ new is

routers_keep : (config : Config) → Keeps config router_of (Routers config)
routers_keep config earlier entry at new are is =
    gave (only_keys router_keys entry at) _ new is (λ unit listed is.
    gave (id_at (λ router. router.id) earlier entry at (codes "id")) _ new is (λ id id_is is.
    gave (ends_at config.groups entry at) _ new is (λ ends ends_is is.
    gave (word_at router_kind_of entry at (codes "type")) _ new is (λ kind kind_is is.
    gave (text_or_empty entry at (codes "expression")) _ new is (λ text text_is is.
    router_on config earlier at (NoLink (chars at))
    (record { id = id; source_group = ends.source; target_group = ends.target; kind = kind; expression = text; parsed = Everything }) new
    (leads config.links ends.source ends.target) are
    (new_given (λ router. router.id) earlier entry at (codes "id") id id_is)
    (ends_given config.groups entry at ends ends_is) refl is)))))

pub routers_kept : (config : Config) (file : Members) (routers : List RouterDef) → section_of router_of 256 (codes "router") config file ≡ Ok routers
    → IsKept (Routers config) 256 routers
routers_kept config file routers is =
    section_kept config router_of (Routers config) (routers_keep config) 256 (codes "router") file routers (no_routers config) is

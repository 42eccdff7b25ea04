-- The transforms of a file are sound.
use Rattle.std.proofs.Common.{◌≡◌, ◌≢◌, ℕ, ◌+◌, ◌≤◌, Bool, true, false, cond, List, [], ◌∷◌, ◌++◌, length, map, filter, Option, None, Some, refl, subst, All, AllPairs, sym, ap, ◌∙◌, true≢false, ◌&&◌, ◌||◌, ◌==◌, inl, inr, ◌⊎◌, arith}
use Rattle.std.specs.Bool.{IsTrue}
use Rattle.std.specs.List.{list_any, list_all, count_by}
use Rattle.std.specs.Option.{IsSomeAnd, option_map_or}
use Rattle.std.specs.Prelude.{codes, if◌then◌else◌, option_map, slice_get, nat_le, not}
use Rattle.std.specs.Str.{bytes_eq, chars, encode_utf8_all}
use Rattle.std.proofs.lemmas.List.{length-map}
use Rattle.std.proofs.lemmas.List.Elements.{All-nil, All-cons}
use Rattle.std.proofs.lemmas.List.Kept.{AllPairs-cons}
use Rattle.std.proofs.lemmas.List.Sums.{AllPass-from_list_all, sum_by-cons}
use Rattle.std.proofs.lemmas.Option.{option_and_then_some}
use Rattle.std.proofs.lemmas.Slice.Eq.{bytes_eq-Decides}
use Rattle.toml.specs.Data.{Data, Members, get_member}
use Rattle.sds_doclaws.specs.Writable.{HasFewKeys, is_for_key, most_key_columns}
use Rattle.sds_trade.proofs.Lists.{all_head, all_tail}
use Rattle.sds_trade.proofs.ReferenceLaws.{both_left, both_right}
use Rattle.sds_trade.specs.rules.ColumnFunctions as rule
use Rattle.sds_trade.specs.rules.Expressions as says
use Rattle.sds_trade.specs.rules.MadeSides as made
use Rattle.sds_trade.specs.rules.Places.{column_place, has_column, is_key_place, table_named}
use Rattle.sds_trade.specs.sound.TransformColumns as sound
use Rattle.sds_trade.specs.sound.TransformColumns.{IsColumnKnown, IsTransformColumn, clash, takes_sums}
use Rattle.sds_trade.specs.sound.Transforms.{FitsTable, IsTransform, has_key, is_pk, key_remains, removes_column}
use Rattle.sds_types.specs.declared.config.Config.{Config}
use Rattle.sds_types.specs.declared.config_refusal.ConfigRefusal.{ConfigRefusal}
use Rattle.sds_types.specs.declared.config_refusal.ConfigRefusal.TheVariants.{BadSetting, NoLink, UnknownName}
use Rattle.sds_types.specs.declared.transform.ColumnPolicy.{ColumnPolicy}
use Rattle.sds_types.specs.declared.transform.ColumnPolicy.TheVariants.{Specified, Implied}
use Rattle.sds_types.specs.declared.transform.Point.{Point}
use Rattle.sds_types.specs.declared.transform.Point.TheVariants.{Extract, Load}
use Rattle.sds_types.specs.declared.transform.TransformDef.{TransformDef}
use Rattle.sds_types.specs.declared.transform_column.ColumnExpression.{ColumnExpression}
use Rattle.sds_types.specs.declared.transform_column.ColumnKind.{ColumnKind}
use Rattle.sds_types.specs.declared.transform_column.ColumnKind.TheVariants as kind
use Rattle.sds_types.specs.declared.transform_column.TransformColumn.{TransformColumn}
use Rattle.sds_value.specs.Names.{is_name_text}
use Rattle.sds_value.specs.declared.kind.Kind.{Kind}
use Rattle.sds_value.specs.declared.kind.Kind.TheVariants.{Integer, Decimal, Varchar, Timestamp, Varbinary}
use Rattle.sds_value.specs.declared.table.ColumnDef.{ColumnDef}
use Rattle.sds_value.specs.declared.table.TableDef.{TableDef}
use Rattle.sds_config.specs.declared.ends.Ends.{Ends}
use Rattle.sds_config.specs.declared.formulas.ColumnEntry.{ColumnEntry}
use Rattle.sds_config.specs.declared.formulas.Making.{Making}
use Rattle.sds_config.specs.declared.transforms.Policies.{Policies}
use Rattle.sds_config.specs.declared.transforms.TablePair.{TablePair}
use Rattle.sds_config.specs.ComputedColumns.{column_expression_of, column_of, columns_of}
use Rattle.sds_config.specs.Ends.{ends_at}
use Rattle.sds_config.specs.Fields.{field_path, flag_at, id_at, name_at, only_keys, text_or_empty, word_at}
use Rattle.sds_config.specs.Links.{leads}
use Rattle.sds_config.specs.Refusals.{and_then}
use Rattle.sds_config.specs.Sections.{entries_from, items_at, section_of}
use Rattle.sds_config.specs.TransformColumns.{column_entry_of, formula_at, is_name_or_empty, making_at, name_or_empty, transform_column_keys}
use Rattle.sds_config.specs.Transforms as wanted
use Rattle.sds_config.specs.Transforms.{adds_well, are_apart, are_events, are_few_for_keys, columns_at, formed, has_keys, is_additive, is_column_sound, is_implied, is_known, is_load, is_remove, is_removed, is_sound, is_star, judged, key_stays, known_table, own_table, policies_at, suits_key, table_pair_at, transform_keys, transform_of, whole_transform}
use Rattle.sds_config.specs.Words.{point_of}
use Rattle.sds_configlaws.proofs.Gave.{Is, gives, refuses, gave, same_value, never, no_value, below, was_allowed, name_given, all_snoc, all_mapped, pairs_snoc, no_pairs, IsNew, new_given}
use Rattle.sds_configlaws.proofs.Kept.{Keeps, IsKept, items_few, list_kept, section_kept}
use Rattle.sds_configlaws.proofs.FewKeys.{HasFew, HasName, entry_of, few_for_keys}
use Rattle.sds_configlaws.proofs.SoundEvents.{events_same, events_sound}
use Rattle.sds_configlaws.proofs.SoundRouters.{AreEnds, ends_given}

-- ENTRIES. The target is a name, and the source one or empty
pub record IsEntry (entry : ColumnEntry) : Type 0 where
  pub target : IsTrue (is_name_text entry.target)
  pub source : (entry.source ≡ []) ⊎ IsTrue (is_name_text entry.source)

name_or_nothing : (text : List ℕ) → is_name_or_empty text ≡ true → (text ≡ []) ⊎ IsTrue (is_name_text text)
name_or_nothing [] is = inl refl
name_or_nothing (c ∷ cs) is = inr is

source_on : (text source : List ℕ) (b : Bool) → is_name_or_empty text ≡ b → cond b (Some text) None ≡ Some source
    → (source ≡ []) ⊎ IsTrue (is_name_text source)
source_on text source true is given =
    subst (λ s. (s ≡ []) ⊎ IsTrue (is_name_text s)) (ap (λ o. elim o [ None ↦ text | Some s ↦ s ]) given) (name_or_nothing text is)
source_on text source false is given = no_value source (sym given)

source_given : (entry : Members) (at key source : List ℕ) → name_or_empty entry at key ≡ gives source → (source ≡ []) ⊎ IsTrue (is_name_text source)
source_given entry at key source is = gave (text_or_empty entry at key) _ source is (λ text read rest.
    source_on text source (is_name_or_empty text) refl (was_allowed (if is_name_or_empty text then Some text else None) at key source rest))

record IsMaking (making : Making) : Type 0 where
  target : IsTrue (is_name_text making.target)
  source : (making.source ≡ []) ⊎ IsTrue (is_name_text making.source)

making_given : (entry : Members) (at : List ℕ) (making : Making) → making_at entry at ≡ gives making → IsMaking making
making_given entry at making is =
    gave (name_at entry at (codes "target")) _ making is (λ target target_is is.
    gave (name_or_empty entry at (codes "source")) _ making is (λ source source_is is.
    gave (flag_at false entry at (codes "pk")) _ making is (λ pk pk_is is.
    subst IsMaking (same_value (record { target = target; source = source; pk = pk }) making is) (record {
      target = name_given entry at (codes "target") target target_is;
      source = source_given entry at (codes "source") source source_is;
    }))))

abbrev AreEntries : List ColumnEntry → Type 0
AreEntries entries = All IsEntry entries

entries_keep : (config : Config) → Keeps config column_entry_of AreEntries
entries_keep config earlier entry at new are is =
    gave (only_keys transform_column_keys entry at) _ new is (λ unit listed is.
    gave (making_at entry at) _ new is (λ making making_is is.
    gave (formula_at entry at) _ new is (λ formula formula_is is.
    let sound : IsMaking making = making_given entry at making making_is in
    subst (λ n. AreEntries (earlier ++ n ∷ [])) (same_value (record {
      target = making.target;
      source = making.source;
      pk = making.pk;
      include_on = formula.include_on;
      kind = formula.kind;
      expression = formula.expression;
    }) new is) (all_snoc IsEntry earlier (record {
      target = making.target;
      source = making.source;
      pk = making.pk;
      include_on = formula.include_on;
      kind = formula.kind;
      expression = formula.expression;
    }) are (record { target = sound.target; source = sound.source })))))

few_none : 0 ≤ 64
few_none = omega arith

entries_on : (config : Config) (entry : Members) (at key : List ℕ) (entries : List ColumnEntry) (found : Option Data)
    → Is {T = List ColumnEntry} (elim found [
      | None ↦ gives []
      | Some value ↦ and_then (items_at 64 (codes "transform.column") value at key)
          (λ items. entries_from column_entry_of config (field_path at key) [] items)
    ]) entries → IsKept AreEntries 64 entries
entries_on config entry at key entries None is =
    subst (λ e. IsKept AreEntries 64 e) (same_value [] entries is) (record { what = All-nil IsEntry; few = few_none })
entries_on config entry at key entries (Some value) is =
    gave (items_at 64 (codes "transform.column") value at key) _ entries is (λ items items_is is.
    list_kept config column_entry_of AreEntries (entries_keep config) 64 (field_path at key) items entries
    (items_few 64 (codes "transform.column") value at key items items_is) (All-nil IsEntry) is)

entries_given : (config : Config) (entry : Members) (at key : List ℕ) (entries : List ColumnEntry) → columns_at config entry at key ≡ gives entries
    → IsKept AreEntries 64 entries
entries_given config entry at key entries is = entries_on config entry at key entries (get_member key entry) is

-- COLUMNS. Each is what its entry says, with what its expression says
abbrev IsParsed : TransformColumn → Type 0
IsParsed column = column_expression_of column.kind column.expression ≡ Some column.parsed

record AreColumnsOf (entries : List ColumnEntry) (columns : List TransformColumn) : Type 0 where
  same : entries ≡ map entry_of columns
  parsed : All IsParsed columns

record IsColumnOf (entry : ColumnEntry) (column : TransformColumn) : Type 0 where
  same : entry ≡ entry_of column
  parsed : IsParsed column

column_made : (entry : ColumnEntry) (column : TransformColumn) (found : Option ColumnExpression)
    → column_expression_of entry.kind entry.expression ≡ found
    → option_map (λ (parsed : ColumnExpression). record {
      target = entry.target;
      source = entry.source;
      pk = entry.pk;
      include_on = entry.include_on;
      kind = entry.kind;
      expression = entry.expression;
      parsed = parsed;
    }) found ≡ Some column → IsColumnOf entry column
column_made entry column None found is = no_value column (sym is)
column_made entry column (Some parsed) found is =
    subst (IsColumnOf entry) (ap (λ o. elim o [ None ↦ column | Some c ↦ c ]) is) (record { same = refl; parsed = found })

columns_on : (entry : ColumnEntry) (entries : List ColumnEntry) (column : TransformColumn) (columns : List TransformColumn)
    (found : Option (List TransformColumn)) → IsColumnOf entry column → ((rest : List TransformColumn) → found ≡ Some rest → AreColumnsOf entries rest)
    → option_map (λ columns. column ∷ columns) found ≡ Some columns → AreColumnsOf (entry ∷ entries) columns
columns_on entry entries column columns None one rest is = no_value columns (sym is)
columns_on entry entries column columns (Some others) one rest is =
    subst (AreColumnsOf (entry ∷ entries)) (ap (λ o. elim o [ None ↦ columns | Some cs ↦ cs ]) is) (record {
      same = ap (λ e. e ∷ entries) one.same ∙ ap (λ es. entry_of column ∷ es) (rest others refl).same;
      parsed = All-cons IsParsed column others one.parsed (rest others refl).parsed;
    })

columns_made : (entries : List ColumnEntry) (columns : List TransformColumn) → columns_of entries ≡ Some columns → AreColumnsOf entries columns
columns_made [] columns is =
    subst (AreColumnsOf []) (ap (λ o. elim o [ None ↦ columns | Some cs ↦ cs ]) is) (record { same = refl; parsed = All-nil IsParsed })
columns_made (entry ∷ entries) columns is =
    option_and_then_some {A = TransformColumn} _ (column_of entry) columns is (λ column column_is is.
    columns_on entry entries column columns (columns_of entries)
    (column_made entry column (column_expression_of entry.kind entry.expression) refl column_is)
    (λ rest rest_is. columns_made entries rest rest_is) is)

-- WORDS. Both say the same of a kind and a policy
removes_alike : (k : ColumnKind) → is_remove k ≡ rule.is_remove k
removes_alike kind.Copy = refl
removes_alike kind.Remove = refl
removes_alike kind.Const = refl
removes_alike kind.Left = refl
removes_alike kind.Substr = refl
removes_alike kind.ValueMap = refl
removes_alike kind.Variable = refl
removes_alike kind.Additive = refl

adds_alike : (k : ColumnKind) → is_additive k ≡ rule.is_additive k
adds_alike kind.Copy = refl
adds_alike kind.Remove = refl
adds_alike kind.Const = refl
adds_alike kind.Left = refl
adds_alike kind.Substr = refl
adds_alike kind.ValueMap = refl
adds_alike kind.Variable = refl
adds_alike kind.Additive = refl

says_alike : (k : ColumnKind) (text : List ℕ) → says.column_expression_of k text ≡ column_expression_of k text
says_alike kind.Copy text = refl
says_alike kind.Remove text = refl
says_alike kind.Const text = refl
says_alike kind.Left text = refl
says_alike kind.Substr text = refl
says_alike kind.ValueMap text = refl
says_alike kind.Variable text = refl
says_alike kind.Additive text = refl

implied_alike : (policy : ColumnPolicy) → is_implied policy ≡ made.is_implied policy
implied_alike Implied = refl
implied_alike Specified = refl

is_the_remove : (k : ColumnKind) → is_remove k ≡ true → k ≡ kind.Remove
is_the_remove kind.Remove is = refl
is_the_remove kind.Copy is = absurd (true≢false (sym is))
is_the_remove kind.Const is = absurd (true≢false (sym is))
is_the_remove kind.Left is = absurd (true≢false (sym is))
is_the_remove kind.Substr is = absurd (true≢false (sym is))
is_the_remove kind.ValueMap is = absurd (true≢false (sym is))
is_the_remove kind.Variable is = absurd (true≢false (sym is))
is_the_remove kind.Additive is = absurd (true≢false (sym is))

is_the_implied : (policy : ColumnPolicy) → is_implied policy ≡ true → policy ≡ Implied
is_the_implied Implied is = refl
is_the_implied Specified is = absurd (true≢false (sym is))

is_the_load : (point : Point) → is_load point ≡ true → point ≡ Load
is_the_load Load is = refl
is_the_load Extract is = absurd (true≢false (sym is))

-- TESTS
or_cases : {G : Type 0} (a b : Bool) → (a || b) ≡ true → (a ≡ true → G) → (b ≡ true → G) → G
or_cases true b is left right = left refl
or_cases false b is left right = right is

unless_not : (a b : Bool) → (not a || b) ≡ true → a ≡ true → b ≡ true
unless_not true b is holds = is
unless_not false b is holds = absurd (true≢false (sym holds))

was_not : (a : Bool) → not a ≡ true → a ≡ false
was_not true is = absurd (true≢false (sym is))
was_not false is = refl

nothing : (text : List ℕ) → length text ≤ 0 → text ≡ []
nothing [] few = refl
nothing (c ∷ cs) few = absurd (omega (arith, few))

-- SUMS. A number that is no key takes them by either definition
numbers_alike : (k : Kind) → wanted.is_number k ≡ sound.is_number k
numbers_alike Integer = refl
numbers_alike (Decimal digits) = refl
numbers_alike (Varchar most) = refl
numbers_alike Timestamp = refl
numbers_alike (Varbinary most) = refl

sums_at : (def : TableDef) (place : ℕ) (found : Option ColumnDef)
    → elim found [ None ↦ false | Some column ↦ wanted.is_number column.kind && not (list_any (λ key. key == place) def.key) ] ≡ true
    → elim found [ None ↦ false | Some column ↦ sound.is_number column.kind && not (is_key_place def place) ] ≡ true
sums_at def place None is = is
sums_at def place (Some column) is =
    ap (λ b. b && not (is_key_place def place)) (sym (numbers_alike column.kind)) ∙ is

sums_on : (def : TableDef) (found : Option ℕ)
    → elim found [
      | None ↦ false
      | Some place ↦ elim (slice_get def.columns place) [
        | None ↦ false
        | Some column ↦ wanted.is_number column.kind && not (list_any (λ key. key == place) def.key)
      ]
    ] ≡ true → sound.is_number_at def found ≡ true
sums_on def None is = is
sums_on def (Some place) is = sums_at def place (slice_get def.columns place) is

sums_alike : (def : TableDef) (name : List ℕ) → wanted.takes_sums def name ≡ true → takes_sums def name ≡ true
sums_alike def name is = sums_on def (column_place def.columns name) is

-- EACH. A column whose entry is known and sound
known_on : (point : Point) (def : TableDef) (column : TransformColumn) → is_known point def (entry_of column) ≡ true → IsColumnKnown point def column
known_on Extract def column is = or_cases (nat_le (length column.source) 0) (has_column def column.source) is
    (λ few. inl (nothing column.source (below (length column.source) 0 few))) (λ has. inr has)
known_on Load def column is = or_cases (is_remove column.kind) (has_column def column.target) is
    (λ removes. inl (is_the_remove column.kind removes)) (λ has. inr has)

record IsSoundEntry (point : Point) (policy : ColumnPolicy) (def : TableDef) (column : TransformColumn) : Type 0 where
  events : are_events (encode_utf8_all column.include_on) ≡ true
  keys : (not column.pk || (is_star (encode_utf8_all column.include_on) && not (is_remove column.kind))) ≡ true
  short : nat_le (length column.expression) 2000 ≡ true
  removes : (not (is_remove column.kind) || is_implied policy) ≡ true
  adds : (not (is_additive column.kind) || (is_load point && (not column.pk && wanted.takes_sums def column.target))) ≡ true

parts_of : (a b c d e : Bool) → (a && (b && (c && (d && e)))) ≡ true → {G : Type 0}
    → (a ≡ true → b ≡ true → c ≡ true → d ≡ true → e ≡ true → G) → G
parts_of a b c d e is parts =
    let p : (b && (c && (d && e))) ≡ true = both_right a (b && (c && (d && e))) is in
    let q : (c && (d && e)) ≡ true = both_right b (c && (d && e)) p in
    let r : (d && e) ≡ true = both_right c (d && e) q in
    parts (both_left a (b && (c && (d && e))) is) (both_left b (c && (d && e)) p) (both_left c (d && e) q) (both_left d e r) (both_right d e r)

sound_entry : (point : Point) (policy : ColumnPolicy) (def : TableDef) (column : TransformColumn)
    → is_column_sound point policy def (entry_of column) ≡ true → IsSoundEntry point policy def column
sound_entry point policy def column is =
    parts_of (are_events (encode_utf8_all column.include_on))
    (not column.pk || (is_star (encode_utf8_all column.include_on) && not (is_remove column.kind)))
    (nat_le (length column.expression) 2000) (not (is_remove column.kind) || is_implied policy)
    (not (is_additive column.kind) || (is_load point && (not column.pk && wanted.takes_sums def column.target))) is
    (λ events keys short removes adds. record { events = events; keys = keys; short = short; removes = removes; adds = adds })

key_parts : (point : Point) (policy : ColumnPolicy) (def : TableDef) (column : TransformColumn) → IsSoundEntry point policy def column → column.pk ≡ true
    → (is_star (encode_utf8_all column.include_on) && not (is_remove column.kind)) ≡ true
key_parts point policy def column is pk =
    unless_not column.pk (is_star (encode_utf8_all column.include_on) && not (is_remove column.kind)) is.keys pk

adds_parts : (point : Point) (policy : ColumnPolicy) (def : TableDef) (column : TransformColumn) → IsSoundEntry point policy def column
    → rule.is_additive column.kind ≡ true → (is_load point && (not column.pk && wanted.takes_sums def column.target)) ≡ true
adds_parts point policy def column is additive =
    unless_not (is_additive column.kind) (is_load point && (not column.pk && wanted.takes_sums def column.target)) is.adds (adds_alike column.kind ∙ additive)

column_sound : (point : Point) (policy : ColumnPolicy) (def : TableDef) (column : TransformColumn) → IsEntry (entry_of column) → IsParsed column
    → is_known point def (entry_of column) ≡ true → IsSoundEntry point policy def column → IsTransformColumn point policy def column
column_sound point policy def column entry parsed known is = record {
  target = entry.target;
  source = entry.source;
  known = known_on point def column known;
  events = events_sound column.include_on is.events;
  key_events = λ pk. sym (events_same column.include_on is.events) ∙ (bytes_eq-Decides (encode_utf8_all column.include_on) (codes "*")).0
      (both_left (is_star (encode_utf8_all column.include_on)) (not (is_remove column.kind)) (key_parts point policy def column is pk));
  key_made = λ pk. sym (removes_alike column.kind) ∙ was_not (is_remove column.kind)
      (both_right (is_star (encode_utf8_all column.include_on)) (not (is_remove column.kind)) (key_parts point policy def column is pk));
  short = below (length column.expression) 2000 is.short;
  parsed = says_alike column.kind column.expression ∙ parsed;
  removes = λ removes. is_the_implied policy (unless_not (is_remove column.kind) (is_implied policy) is.removes (removes_alike column.kind ∙ removes));
  adds_at = λ additive. is_the_load point
      (both_left (is_load point) (not column.pk && wanted.takes_sums def column.target) (adds_parts point policy def column is additive));
  adds_to = λ additive. sums_alike def column.target (both_right (not column.pk) (wanted.takes_sums def column.target)
      (both_right (is_load point) (not column.pk && wanted.takes_sums def column.target) (adds_parts point policy def column is additive)));
  adds_no_key = λ additive. was_not column.pk (both_left (not column.pk) (wanted.takes_sums def column.target)
      (both_right (is_load point) (not column.pk && wanted.takes_sums def column.target) (adds_parts point policy def column is additive)));
}

-- MAPPED. What holds of the entries holds of the columns
unmapped : {X Y : Type 0} (P : X → Type 0) (f : Y → X) (ys : List Y) → All P (map f ys) → All (λ y. P (f y)) ys
unmapped P f [] are = All-nil (λ y. P (f y))
unmapped P f (y ∷ ys) are = All-cons (λ y. P (f y)) y ys (all_head P (f y) (map f ys) are) (unmapped P f ys (all_tail P (f y) (map f ys) are))

any_map : {X Y : Type 0} (p : X → Bool) (f : Y → X) (ys : List Y) → list_any p (map f ys) ≡ list_any (λ y. p (f y)) ys
any_map p f [] = refl
any_map p f (y ∷ ys) = ap (λ b. p (f y) || b) (any_map p f ys)

any_more : {X : Type 0} (p q : X → Bool) (xs : List X) → ((x : X) → p x ≡ true → q x ≡ true) → list_any p xs ≡ true → list_any q xs ≡ true
any_more p q [] more is = is
any_more p q (x ∷ xs) more is = or_cases (p x) (list_any p xs) is
    (λ here. ap (λ b. b || list_any q xs) (more x here)) (λ rest. or_last (q x) (list_any q xs) (any_more p q xs more rest))
  where
    or_last : (a b : Bool) → b ≡ true → (a || b) ≡ true
    or_last true b is = refl
    or_last false b is = is

-- KEYS
counts_same : (columns : List TransformColumn) → count_by (λ (entry : ColumnEntry). entry.pk) (map entry_of columns) ≡ count_by is_pk columns
counts_same [] = refl
counts_same (column ∷ columns) =
    sum_by-cons (λ (entry : ColumnEntry). cond entry.pk 1 0) (entry_of column) (map entry_of columns)
    ∙ (ap (λ n. cond column.pk 1 0 + n) (counts_same columns) ∙ sym (sum_by-cons (λ (c : TransformColumn). cond (is_pk c) 1 0) column columns))

removed_same : (columns : List TransformColumn) (name : List ℕ) → is_removed (map entry_of columns) name ≡ list_any (removes_column name) columns
removed_same columns name =
    any_map (λ (entry : ColumnEntry). is_remove entry.kind && bytes_eq entry.target name) entry_of columns
    ∙ any_same columns
  where
    any_same : (cs : List TransformColumn)
        → list_any (λ (c : TransformColumn). is_remove c.kind && bytes_eq c.target name) cs ≡ list_any (removes_column name) cs
    any_same [] = refl
    any_same (c ∷ cs) =
        ap (λ b. (b && bytes_eq c.target name) || list_any (λ (d : TransformColumn). is_remove d.kind && bytes_eq d.target name) cs) (removes_alike c.kind)
        ∙ ap (λ b. removes_column name c || b) (any_same cs)

remains_on : (columns : List TransformColumn) (found : Option ColumnDef)
    → elim found [ None ↦ false | Some key ↦ not (is_removed (map entry_of columns) key.name) ] ≡ true
    → not (list_any (removes_column (option_map_or (λ (c : ColumnDef). c.name) found [])) columns) ≡ true
remains_on columns None is = absurd (true≢false (sym is))
remains_on columns (Some key) is = ap not (sym (removed_same columns key.name)) ∙ is

remains : (def : TableDef) (columns : List TransformColumn) (place : ℕ) → key_stays def (map entry_of columns) place ≡ true
    → key_remains def columns place ≡ true
remains def columns place is = remains_on columns (slice_get def.columns place) is

pk_same : (columns : List TransformColumn) → list_any (λ (entry : ColumnEntry). entry.pk) (map entry_of columns) ≡ list_any is_pk columns
pk_same columns = any_map (λ (entry : ColumnEntry). entry.pk) entry_of columns

or_right : (a b : Bool) → b ≡ true → (a || b) ≡ true
or_right true b is = refl
or_right false b is = is

both_of : (a b : Bool) → a ≡ true → b ≡ true → (a && b) ≡ true
both_of true b one two = two
both_of false b one two = absurd (true≢false (sym one))

keyed : (point : Point) (policy : ColumnPolicy) (def : TableDef) (columns : List TransformColumn)
    → has_keys point policy def (map entry_of columns) ≡ true → has_key point policy def columns ≡ true
keyed Load policy def columns is = refl
keyed Extract policy def columns is =
    or_cases (list_any (λ (entry : ColumnEntry). entry.pk) (map entry_of columns))
    (is_implied policy && list_any (key_stays def (map entry_of columns)) def.key) is
    (λ listed. ap (λ b. b || (made.is_implied policy && list_any (key_remains def columns) def.key)) (sym (pk_same columns) ∙ listed))
    (λ stays. or_right (list_any is_pk columns) (made.is_implied policy && list_any (key_remains def columns) def.key)
    (both_of (made.is_implied policy) (list_any (key_remains def columns) def.key)
    (sym (implied_alike policy) ∙ both_left (is_implied policy) (list_any (key_stays def (map entry_of columns)) def.key) stays)
    (any_more (key_stays def (map entry_of columns)) (key_remains def columns) def.key (λ place is. remains def columns place is)
    (both_right (is_implied policy) (list_any (key_stays def (map entry_of columns)) def.key) stays))))

-- APART. No two make one target at one event
flip_on : (a b : List ℕ) (x y : Bool) → bytes_eq a b ≡ x → bytes_eq b a ≡ y → x ≡ y
flip_on a b true true one two = refl
flip_on a b false false one two = refl
flip_on a b true false one two = absurd (true≢false (sym ((bytes_eq-Decides b a).1 (sym ((bytes_eq-Decides a b).0 one))) ∙ two))
flip_on a b false true one two = absurd (true≢false (sym ((bytes_eq-Decides a b).1 (sym ((bytes_eq-Decides b a).0 two))) ∙ one))

flipped : (a b : List ℕ) → bytes_eq a b ≡ bytes_eq b a
flipped a b = flip_on a b (bytes_eq a b) (bytes_eq b a) refl refl

abbrev HasEvents : TransformColumn → Type 0
HasEvents column = are_events (encode_utf8_all column.include_on) ≡ true

clash_same : (a b : TransformColumn) → HasEvents a → HasEvents b → clash a b ≡ wanted.clash (entry_of a) (entry_of b)
clash_same a b first second =
    ap (λ t. t && sound.share_event a.include_on b.include_on) (flipped a.target b.target)
    ∙ (ap (λ e. bytes_eq b.target a.target && sound.share_event e b.include_on) (sym (events_same a.include_on first))
    ∙ ap (λ e. bytes_eq b.target a.target && sound.share_event (encode_utf8_all a.include_on) e) (sym (events_same b.include_on second)))

abbrev Apart : TransformColumn → TransformColumn → Type 0
Apart a b = clash a b ≡ false

apart_from : (column : TransformColumn) (columns : List TransformColumn) → HasEvents column → All HasEvents columns
    → list_any (wanted.clash (entry_of column)) (map entry_of columns) ≡ false → All (Apart column) columns
apart_from column [] first are none = All-nil (Apart column)
apart_from column (other ∷ columns) first are none =
    All-cons (Apart column) other columns
    (clash_same column other first (all_head HasEvents other columns are)
    ∙ or_first (wanted.clash (entry_of column) (entry_of other)) (list_any (wanted.clash (entry_of column)) (map entry_of columns)) none)
    (apart_from column columns first (all_tail HasEvents other columns are)
    (or_rest (wanted.clash (entry_of column) (entry_of other)) (list_any (wanted.clash (entry_of column)) (map entry_of columns)) none))
  where
    or_first : (a b : Bool) → (a || b) ≡ false → a ≡ false
    or_first true b is = absurd (true≢false is)
    or_first false b is = refl

    or_rest : (a b : Bool) → (a || b) ≡ false → b ≡ false
    or_rest true b is = absurd (true≢false is)
    or_rest false b is = is

columns_apart : (columns : List TransformColumn) → All HasEvents columns → are_apart (map entry_of columns) ≡ true → AllPairs Apart columns
columns_apart [] are is = no_pairs Apart
columns_apart (column ∷ columns) are is =
    AllPairs-cons Apart column columns
    (apart_from column columns (all_head HasEvents column columns are) (all_tail HasEvents column columns are)
    (was_not (list_any (wanted.clash (entry_of column)) (map entry_of columns))
    (both_left (not (list_any (wanted.clash (entry_of column)) (map entry_of columns))) (are_apart (map entry_of columns)) is)))
    (columns_apart columns (all_tail HasEvents column columns are)
    (both_right (not (list_any (wanted.clash (entry_of column)) (map entry_of columns))) (are_apart (map entry_of columns)) is))

-- WHOLE. The columns of a transform of or for a table
record AreTheColumns (point : Point) (policy : ColumnPolicy) (def : TableDef) (columns : List TransformColumn) : Type 0 where
  each : All (IsTransformColumn point policy def) columns
  keys : count_by is_pk columns ≤ 32
  keyed : has_key point policy def columns ≡ true
  few : length columns ≤ 64
  apart : AllPairs Apart columns
  few_keys : HasFew point policy def columns

each_sound : (point : Point) (policy : ColumnPolicy) (def : TableDef) (columns : List TransformColumn)
    → All (λ c. IsEntry (entry_of c)) columns → All IsParsed columns → All (λ c. is_known point def (entry_of c) ≡ true) columns
    → All (IsSoundEntry point policy def) columns → All (IsTransformColumn point policy def) columns
each_sound point policy def [] entries parsed known are = All-nil (IsTransformColumn point policy def)
each_sound point policy def (column ∷ columns) entries parsed known are =
    All-cons (IsTransformColumn point policy def) column columns
    (column_sound point policy def column (all_head (λ c. IsEntry (entry_of c)) column columns entries) (all_head IsParsed column columns parsed)
    (all_head (λ c. is_known point def (entry_of c) ≡ true) column columns known) (all_head (IsSoundEntry point policy def) column columns are))
    (each_sound point policy def columns (all_tail (λ c. IsEntry (entry_of c)) column columns entries) (all_tail IsParsed column columns parsed)
    (all_tail (λ c. is_known point def (entry_of c) ≡ true) column columns known) (all_tail (IsSoundEntry point policy def) column columns are))

few_by : (n m : ℕ) → m ≡ n → m ≤ 64 → n ≤ 64
few_by n m same few = subst (λ k. k ≤ 64) same few

whole_by : (point : Point) (policy : ColumnPolicy) (def : TableDef) (columns : List TransformColumn) → IsKept AreEntries 64 (map entry_of columns)
    → All IsParsed columns → list_all (is_known point def) (map entry_of columns) ≡ true → is_sound point policy def (map entry_of columns) ≡ true
    → AreTheColumns point policy def columns
whole_by point policy def columns kept parsed known is =
    let named : All (λ c. IsEntry (entry_of c)) columns = unmapped IsEntry entry_of columns kept.what in
    parts_of (list_all (is_column_sound point policy def) (map entry_of columns))
    (nat_le (count_by (λ (entry : ColumnEntry). entry.pk) (map entry_of columns)) 32) (has_keys point policy def (map entry_of columns))
    (are_apart (map entry_of columns)) (are_few_for_keys point policy def (map entry_of columns)) is (λ all_sound few_pk has_key apart few_keys.
    let each : All (IsSoundEntry point policy def) columns =
    all_mapped (λ c. is_column_sound point policy def (entry_of c) ≡ true) (IsSoundEntry point policy def) columns
    (λ c s. sound_entry point policy def c s)
    (unmapped (λ e. is_column_sound point policy def e ≡ true) entry_of columns
    (AllPass-from_list_all (is_column_sound point policy def) (map entry_of columns) all_sound)) in
    record {
      each = each_sound point policy def columns named parsed
          (unmapped (λ e. is_known point def e ≡ true) entry_of columns (AllPass-from_list_all (is_known point def) (map entry_of columns) known)) each;
      keys = subst (λ n. n ≤ 32) (counts_same columns) (below (count_by (λ (entry : ColumnEntry). entry.pk) (map entry_of columns)) 32 few_pk);
      keyed = keyed point policy def columns has_key;
      few = few_by (length columns) (length (map entry_of columns)) (length-map columns entry_of) kept.few;
      apart = columns_apart columns (all_mapped (IsSoundEntry point policy def) HasEvents columns (λ c s. s.events) each) apart;
      few_keys = few_for_keys point policy def columns
          (all_mapped (λ c. IsEntry (entry_of c)) HasName columns (λ c entry. entry.target) named) few_keys;
    })

formed_on : (point : Point) (policy : ColumnPolicy) (def : TableDef) (at : List ℕ) (entries : List ColumnEntry) (columns : List TransformColumn)
    (found : Option (List TransformColumn)) → IsKept AreEntries 64 entries → list_all (is_known point def) entries ≡ true
    → is_sound point policy def entries ≡ true → columns_of entries ≡ found → formed at found ≡ gives columns → AreTheColumns point policy def columns
formed_on point policy def at entries columns None kept known is found given = never _ columns given
formed_on point policy def at entries columns (Some others) kept known is found given =
    let of : AreColumnsOf entries others = columns_made entries others found in
    subst (AreTheColumns point policy def) (same_value others columns given)
    (whole_by point policy def others (subst (IsKept AreEntries 64) of.same kept) of.parsed
    (subst (λ e. list_all (is_known point def) e ≡ true) of.same known) (subst (λ e. is_sound point policy def e ≡ true) of.same is))

sound_on : (point : Point) (policy : ColumnPolicy) (def : TableDef) (at : List ℕ) (refusal : ConfigRefusal) (entries : List ColumnEntry)
    (columns : List TransformColumn) (b : Bool) → IsKept AreEntries 64 entries → list_all (is_known point def) entries ≡ true
    → is_sound point policy def entries ≡ b → Is (cond b (formed at (columns_of entries)) (refuses refusal)) columns
    → AreTheColumns point policy def columns
sound_on point policy def at refusal entries columns true kept known is given =
    formed_on point policy def at entries columns (columns_of entries) kept known is refl given
sound_on point policy def at refusal entries columns false kept known is given = never _ columns given

known_by : (point : Point) (policy : ColumnPolicy) (def : TableDef) (at : List ℕ) (refusal other : ConfigRefusal) (entries : List ColumnEntry)
    (columns : List TransformColumn) (b : Bool) → IsKept AreEntries 64 entries → list_all (is_known point def) entries ≡ b
    → Is (cond b (cond (is_sound point policy def entries) (formed at (columns_of entries)) (refuses refusal)) (refuses other)) columns
    → AreTheColumns point policy def columns
known_by point policy def at refusal other entries columns true kept known given =
    sound_on point policy def at refusal entries columns (is_sound point policy def entries) kept known refl given
known_by point policy def at refusal other entries columns false kept known given = never _ columns given

judged_well : (at : List ℕ) (found : Option TableDef) (point : Point) (policy : ColumnPolicy) (entries : List ColumnEntry)
    (columns : List TransformColumn) → IsKept AreEntries 64 entries → judged at found point policy entries ≡ gives columns
    → IsSomeAnd found (λ def. AreTheColumns point policy def columns)
judged_well at None point policy entries columns kept is = never _ columns is
judged_well at (Some def) point policy entries columns kept is =
    known_by point policy def at (BadSetting (chars at)) (UnknownName (chars at)) entries columns (list_all (is_known point def) entries) kept refl is

record IsWhole (config : Config) (ends : Ends) (way : TablePair) (policies : Policies) (columns : List TransformColumn) : Type 0 where
  linked : leads config.links ends.source ends.target ≡ true
  judged : IsSomeAnd (known_table config way) (λ def. AreTheColumns way.point policies.column_policy def columns)

whole_on : (config : Config) (at : List ℕ) (refusal : ConfigRefusal) (ends : Ends) (way : TablePair) (policies : Policies) (entries : List ColumnEntry)
    (columns : List TransformColumn) (b : Bool) → IsKept AreEntries 64 entries → leads config.links ends.source ends.target ≡ b
    → Is (cond b (judged at (known_table config way) way.point policies.column_policy entries) (refuses refusal)) columns
    → IsWhole config ends way policies columns
whole_on config at refusal ends way policies entries columns true kept linked is = record {
  linked = linked;
  judged = judged_well at (known_table config way) way.point policies.column_policy entries columns kept is;
}
whole_on config at refusal ends way policies entries columns false kept linked is = never _ columns is

-- THE PAIR. Both tables are named
record AreNamed (way : TablePair) : Type 0 where
  source : IsTrue (is_name_text way.source_table)
  target : IsTrue (is_name_text way.target_table)

pair_given : (entry : Members) (at : List ℕ) (way : TablePair) → table_pair_at entry at ≡ gives way → AreNamed way
pair_given entry at way is =
    gave (word_at point_of entry at (codes "point")) _ way is (λ point point_is is.
    gave (name_at entry at (codes "source_table")) _ way is (λ source source_is is.
    gave (name_at entry at (codes "target_table")) _ way is (λ target target_is is.
    subst AreNamed (same_value (record { point = point; source_table = source; target_table = target }) way is) (record {
      source = name_given entry at (codes "source_table") source source_is;
      target = name_given entry at (codes "target_table") target target_is;
    }))))

-- TRANSFORMS
abbrev IdsApart : TransformDef → TransformDef → Type 0
IdsApart a b = a.id ≢ b.id

pub record Transforms (config : Config) (transforms : List TransformDef) : Type 0 where
  pub each : All (IsTransform config) transforms
  pub apart : AllPairs IdsApart transforms
  pub few_keys : All (HasFewKeys config) transforms

no_transforms : (config : Config) → Transforms config []
no_transforms config = record { each = All-nil (IsTransform config); apart = no_pairs IdsApart; few_keys = All-nil (HasFewKeys config) }

abbrev made_transform : List ℕ → Ends → TablePair → Policies → List TransformColumn → TransformDef
made_transform id ends way policies columns = record {
  id = id;
  source_group = ends.source;
  target_group = ends.target;
  point = way.point;
  source_table = way.source_table;
  target_table = way.target_table;
  delete_action = policies.delete_action;
  column_policy = policies.column_policy;
  columns = columns;
}

fits_on : (id : List ℕ) (ends : Ends) (way : TablePair) (policies : Policies) (columns : List TransformColumn) (found : Option TableDef)
    → IsSomeAnd found (λ def. AreTheColumns way.point policies.column_policy def columns)
    → IsSomeAnd found (FitsTable (made_transform id ends way policies columns))
fits_on id ends way policies columns None is = is
fits_on id ends way policies columns (Some def) is = record { each = is.each; keys = is.keys; keyed = is.keyed }

few_on : (point : Point) (policy : ColumnPolicy) (columns : List TransformColumn) (found : Option TableDef)
    → IsSomeAnd found (λ def. AreTheColumns point policy def columns) → length columns ≤ 64
few_on point policy columns None is = absurd is
few_on point policy columns (Some def) is = is.few

apart_on : (point : Point) (policy : ColumnPolicy) (columns : List TransformColumn) (found : Option TableDef)
    → IsSomeAnd found (λ def. AreTheColumns point policy def columns) → AllPairs Apart columns
apart_on point policy columns None is = absurd is
apart_on point policy columns (Some def) is = is.apart

few_keys_on : (policy : ColumnPolicy) (columns : List TransformColumn) (found : Option TableDef)
    → IsSomeAnd found (λ def. AreTheColumns Extract policy def columns) → policy ≡ Implied
    → IsSomeAnd found (λ (def : TableDef). length (filter (is_for_key def) columns) ≤ most_key_columns)
few_keys_on policy columns None is implied = is
few_keys_on policy columns (Some def) is implied = is.few_keys refl implied

-- a transform that isn't made as a batch is written needs no source table
few_keys_by : (config : Config) (point : Point) (source target : List ℕ) (policy : ColumnPolicy) (columns : List TransformColumn)
    → IsSomeAnd (table_named config.tables (own_table (record { point = point; source_table = source; target_table = target })))
    (λ def. AreTheColumns point policy def columns) → point ≡ Extract → policy ≡ Implied
    → IsSomeAnd (table_named config.tables source) (λ (def : TableDef). length (filter (is_for_key def) columns) ≤ most_key_columns)
few_keys_by config Extract source target policy columns is point_is implied =
    few_keys_on policy columns (table_named config.tables source) is implied
few_keys_by config Load source target policy columns is point_is implied = absurd (true≢false (ap is_load point_is))

transform_more : (config : Config) (earlier : List TransformDef) (id : List ℕ) (ends : Ends) (way : TablePair) (policies : Policies)
    (columns : List TransformColumn) (new : TransformDef) → Transforms config earlier → IsNew (λ transform. transform.id) earlier id
    → AreEnds config.groups ends → AreNamed way → IsWhole config ends way policies columns
    → gives (made_transform id ends way policies columns) ≡ gives new → Transforms config (earlier ++ new ∷ [])
transform_more config earlier id ends way policies columns new are named placed pair whole is =
    subst (λ n. Transforms config (earlier ++ n ∷ [])) (same_value (made_transform id ends way policies columns) new is) (record {
      each = all_snoc (IsTransform config) earlier (made_transform id ends way policies columns) are.each (record {
        named = named.named;
        source = placed.source;
        target = placed.target;
        linked = whole.linked;
        source_name = pair.source;
        target_name = pair.target;
        few = few_on way.point policies.column_policy columns (known_table config way) whole.judged;
        apart = apart_on way.point policies.column_policy columns (known_table config way) whole.judged;
        table = fits_on id ends way policies columns (known_table config way) whole.judged;
      });
      apart = pairs_snoc IdsApart earlier (made_transform id ends way policies columns) are.apart named.apart;
      few_keys = all_snoc (HasFewKeys config) earlier (made_transform id ends way policies columns) are.few_keys
          (few_keys_by config way.point way.source_table way.target_table policies.column_policy columns whole.judged);
    })

transforms_keep : (config : Config) → Keeps config transform_of (Transforms config)
transforms_keep config earlier entry at new are is =
    gave (only_keys transform_keys entry at) _ new is (λ unit listed is.
    gave (id_at (λ transform. transform.id) earlier entry at (codes "id")) _ new is (λ id id_is is.
    gave (ends_at config.groups entry at) _ new is (λ ends ends_is is.
    gave (table_pair_at entry at) _ new is (λ way way_is is.
    gave (policies_at entry at) _ new is (λ policies policies_is is.
    gave (columns_at config entry at (codes "column")) _ new is (λ entries entries_is is.
    gave (whole_transform config at ends way policies entries) _ new is (λ columns columns_is is.
    transform_more config earlier id ends way policies columns new are (new_given (λ transform. transform.id) earlier entry at (codes "id") id id_is)
    (ends_given config.groups entry at ends ends_is) (pair_given entry at way way_is)
    (whole_on config at (NoLink (chars at)) ends way policies entries columns (leads config.links ends.source ends.target)
    (entries_given config entry at (codes "column") entries entries_is) refl columns_is) is)))))))

pub transforms_kept : (config : Config) (file : Members) (transforms : List TransformDef)
    → section_of transform_of 256 (codes "transform") config file ≡ gives transforms → IsKept (Transforms config) 256 transforms
transforms_kept config file transforms is =
    section_kept config transform_of (Transforms config) (transforms_keep config) 256 (codes "transform") file transforms (no_transforms config) is

-- The section `transform`: what becomes of a table's rows between two groups.
use Rattle.std.specs.Prelude.{ℕ, Bool, true, false, not, ◌&&◌, ◌||◌, ◌==◌, nat_le, if◌then◌else◌, List, [], ◌∷◌, length, count_by, codes, Option, Some, None, option_and_then, Result, Ok, Err}
use Rattle.std.specs.List.{list_any, list_all, slice_get}
use Rattle.std.specs.Str.{bytes_eq, chars, encode_utf8_all}
use Rattle.toml.specs.Data.{Members, get_member}
use Rattle.sds_value.specs.declared.kind.Kind.{Kind}
use Rattle.sds_value.specs.declared.kind.Kind.TheVariants as kind
use Rattle.sds_value.specs.declared.table.TableDef.{TableDef}
use Rattle.sds_types.specs.declared.config.Config.{Config}
use Rattle.sds_types.specs.declared.transform_column.ColumnKind.{ColumnKind}
use Rattle.sds_types.specs.declared.transform_column.ColumnKind.TheVariants.{Remove, Additive}
use Rattle.sds_types.specs.declared.transform.ColumnPolicy.{ColumnPolicy}
use Rattle.sds_types.specs.declared.transform.ColumnPolicy.TheVariants.{Specified, Implied}
use Rattle.sds_types.specs.declared.transform.DeleteAction.TheVariants.{DelRow}
use Rattle.sds_types.specs.declared.transform.Point.{Point}
use Rattle.sds_types.specs.declared.transform.Point.TheVariants.{Extract, Load}
use Rattle.sds_types.specs.declared.transform_column.TransformColumn.{TransformColumn}
use Rattle.sds_types.specs.declared.transform.TransformDef.{TransformDef}
use Rattle.sds_types.specs.declared.config_refusal.ConfigRefusal.{ConfigRefusal}
use Rattle.sds_types.specs.declared.config_refusal.ConfigRefusal.TheVariants.{BadSetting, NoLink, UnknownName}
use Rattle.sds_config.specs.declared.ends.Ends.{Ends}
use Rattle.sds_config.specs.declared.formulas.ColumnEntry.{ColumnEntry}
use Rattle.sds_config.specs.declared.transforms.Policies.{Policies}
use Rattle.sds_config.specs.declared.transforms.TablePair.{TablePair}
use Rattle.sds_config.specs.ComputedColumns.{columns_of}
use Rattle.sds_config.specs.Ends.{ends_at}
use Rattle.sds_config.specs.Fields.{field_path, only_keys, id_at, name_at, word_at, word_or, place_of}
use Rattle.sds_config.specs.Links.{leads}
use Rattle.sds_config.specs.Refusals.{and_then}
use Rattle.sds_config.specs.Sections.{entries_from, items_at}
use Rattle.sds_config.specs.TransformColumns.{column_entry_of}
use Rattle.sds_config.specs.Words.{point_of, delete_action_of, column_policy_of}

abbrev pub is_remove : ColumnKind → Bool
is_remove Remove = true
is_remove kind = false

abbrev pub is_implied : ColumnPolicy → Bool
is_implied Implied = true
is_implied Specified = false

-- the events of a column, by their bytes: `*` for all of them
abbrev pub is_star : List ℕ → Bool
is_star events = bytes_eq events (codes "*")

abbrev pub has_event : List ℕ → ℕ → Bool
has_event events event = list_any (λ e. e == event) events

-- each is I, U or D, and none stands twice
abbrev pub are_letters : List ℕ → Bool
are_letters [] = true
are_letters (e ∷ es) = has_event (codes "IUD") e && (not (has_event es e) && are_letters es)

abbrev pub are_events : List ℕ → Bool
are_events [] = false
are_events (e ∷ es) = is_star (e ∷ es) || are_letters (e ∷ es)

-- two columns take part at one event
abbrev pub share_event : List ℕ → List ℕ → Bool
share_event a b = is_star a || (is_star b || list_any (has_event b) a)

abbrev pub clash : ColumnEntry → ColumnEntry → Bool
clash a b = bytes_eq b.target a.target && share_event (encode_utf8_all a.include_on) (encode_utf8_all b.include_on)

-- no two columns make one target at one event
abbrev pub are_apart : List ColumnEntry → Bool
are_apart [] = true
are_apart (column ∷ columns) = not (list_any (clash column) columns) && are_apart columns

-- the table has a column of this name
abbrev pub has_column : TableDef → List ℕ → Bool
has_column table name = list_any (λ column. bytes_eq column.name name) table.columns

-- the columns that are named of the configuration's table: the sources before a batch is written, the targets where it is loaded
abbrev pub is_known : Point → TableDef → ColumnEntry → Bool
is_known Extract table column = nat_le (length column.source) 0 || has_column table column.source
is_known Load table column = is_remove column.kind || has_column table column.target

-- the name of the table that the configuration has
abbrev pub own_table : TablePair → List ℕ
own_table way = elim way.point [ Extract ↦ way.source_table | Load ↦ way.target_table ]

abbrev pub table_named : List TableDef → List ℕ → Option TableDef
table_named tables name = option_and_then (λ place. slice_get tables place) (place_of (λ table. table.name) tables name)

abbrev pub is_number : Kind → Bool
is_number kind.Integer = true
is_number (kind.Decimal s) = true
is_number kind = false

-- a number may be added to the column of this name, which is no key column
abbrev pub takes_sums : TableDef → List ℕ → Bool
takes_sums table name = elim (place_of (λ column. column.name) table.columns name) [
  | None ↦ false
  | Some place ↦ elim (slice_get table.columns place) [
    | None ↦ false
    | Some column ↦ is_number column.kind && not (list_any (λ key. key == place) table.key)
  ]
]

abbrev pub is_load : Point → Bool
is_load Load = true
is_load Extract = false

-- an additive column is made where a batch is loaded, of a number that is no key
abbrev pub adds_well : Point → TableDef → ColumnEntry → Bool
adds_well point table column = is_load point && (not column.pk && takes_sums table column.target)

abbrev pub is_additive : ColumnKind → Bool
is_additive Additive = true
is_additive kind = false

-- a key takes part at all events and is made
abbrev pub suits_key : ColumnEntry → Bool
suits_key column = not column.pk || (is_star (encode_utf8_all column.include_on) && not (is_remove column.kind))

-- what has to hold of a column by itself, beside the form of its expression
abbrev pub is_column_sound : Point → ColumnPolicy → TableDef → ColumnEntry → Bool
is_column_sound point policy table column =
    are_events (encode_utf8_all column.include_on)
    && (suits_key column
    && (nat_le (length column.expression) 2000
    && ((not (is_remove column.kind) || is_implied policy)
    && (not (is_additive column.kind) || adds_well point table column))))

-- a `remove` takes the column of this name away
abbrev pub is_removed : List ColumnEntry → List ℕ → Bool
is_removed columns name = list_any (λ column. is_remove column.kind && bytes_eq column.target name) columns

-- a key column of the source that no `remove` takes away
abbrev pub key_stays : TableDef → List ColumnEntry → ℕ → Bool
key_stays table columns place = elim (slice_get table.columns place) [
  | None ↦ false
  | Some key ↦ not (is_removed columns key.name)
]

-- before a batch is written, at least one column is a key, or under the implied policy one of the source's keys stays
abbrev pub has_keys : Point → ColumnPolicy → TableDef → List ColumnEntry → Bool
has_keys Load policy table columns = true
has_keys Extract policy table columns =
    list_any (λ column. column.pk) columns || (is_implied policy && list_any (key_stays table columns) table.key)

-- the key column of the table at this place has this name
abbrev pub is_key_named : TableDef → List ℕ → ℕ → Bool
is_key_named table name place = elim (slice_get table.columns place) [
  | None ↦ false
  | Some key ↦ bytes_eq key.name name
]

-- a column is for a key: it is a key of the made row, or it is made in place of a key column of the source
abbrev pub is_for_key : TableDef → ColumnEntry → Bool
is_for_key table column = column.pk || list_any (is_key_named table column.target) table.key

-- Where a batch is written under the implied policy, so few columns are for keys. The new values and the old key of an update
-- stand in one line, each with the source's columns beside the made ones, and with more columns for keys such a line could be
-- longer than the 1,048,576 bytes that a line may have.
abbrev pub most_columns_for_keys : ℕ
most_columns_for_keys = 61

abbrev pub are_few_for_keys : Point → ColumnPolicy → TableDef → List ColumnEntry → Bool
are_few_for_keys Load policy table columns = true
are_few_for_keys Extract policy table columns =
    not (is_implied policy) || nat_le (count_by (is_for_key table) columns) most_columns_for_keys

-- what has to hold of a transform's columns, beside the forms of their expressions
abbrev pub is_sound : Point → ColumnPolicy → TableDef → List ColumnEntry → Bool
is_sound point policy table columns =
    list_all (is_column_sound point policy table) columns
    && (nat_le (count_by (λ column. column.pk) columns) 32
    && (has_keys point policy table columns
    && (are_apart columns
    && are_few_for_keys point policy table columns)))

-- the columns of entries that are known and sound; an expression that isn't of its form is refused last
abbrev pub formed : List ℕ → Option (List TransformColumn) → Result (List TransformColumn) ConfigRefusal
formed at None = Err (BadSetting (chars at))
formed at (Some columns) = Ok columns

-- the columns of a transform of or for a table that is known
abbrev pub judged : List ℕ → Option TableDef → Point → ColumnPolicy → List ColumnEntry → Result (List TransformColumn) ConfigRefusal
judged at None point policy entries = Err (UnknownName (chars at))
judged at (Some table) point policy entries =
    if list_all (is_known point table) entries
    then (if is_sound point policy table entries then formed at (columns_of entries) else Err (BadSetting (chars at)))
    else Err (UnknownName (chars at))

-- the table of the configuration that the transform makes rows of or for
abbrev pub known_table : Config → TablePair → Option TableDef
known_table config way = table_named config.tables (own_table way)

-- the columns of a transform, which is judged as a whole
abbrev pub whole_transform : Config → List ℕ → Ends → TablePair → Policies → List ColumnEntry → Result (List TransformColumn) ConfigRefusal
whole_transform config at ends way policies entries =
    if leads config.links ends.source ends.target
    then judged at (known_table config way) way.point policies.column_policy entries
    else Err (NoLink (chars at))

abbrev pub transform_keys : List (List ℕ)
transform_keys = codes "id" ∷ codes "source_group" ∷ codes "target_group" ∷ codes "point" ∷ codes "source_table" ∷ codes "target_table" ∷ codes "delete_action" ∷ codes "column_policy" ∷ codes "column" ∷ []

-- when it is made, and of which table which
abbrev pub table_pair_at : Members → List ℕ → Result TablePair ConfigRefusal
table_pair_at entry at =
    and_then (word_at point_of entry at (codes "point")) (λ point.
    and_then (name_at entry at (codes "source_table")) (λ source_table.
    and_then (name_at entry at (codes "target_table")) (λ target_table.
    Ok (record { point = point; source_table = source_table; target_table = target_table }))))

abbrev pub policies_at : Members → List ℕ → Result Policies ConfigRefusal
policies_at entry at =
    and_then (word_or DelRow delete_action_of entry at (codes "delete_action")) (λ delete_action.
    and_then (word_or Specified column_policy_of entry at (codes "column_policy")) (λ column_policy.
    Ok (record { delete_action = delete_action; column_policy = column_policy })))

-- the entries of its columns, which are at most 64
abbrev pub columns_at : Config → Members → List ℕ → List ℕ → Result (List ColumnEntry) ConfigRefusal
columns_at config entry at key = elim (get_member key entry) [
  | None ↦ Ok []
  | Some value ↦ and_then (items_at 64 (codes "transform.column") value at key)
      (λ items. entries_from column_entry_of config (field_path at key) [] items)
]

abbrev pub transform_of : Config → List TransformDef → Members → List ℕ → Result TransformDef ConfigRefusal
transform_of config earlier entry at =
    and_then (only_keys transform_keys entry at) (λ _.
    and_then (id_at (λ transform. transform.id) earlier entry at (codes "id")) (λ id.
    and_then (ends_at config.groups entry at) (λ ends.
    and_then (table_pair_at entry at) (λ way.
    and_then (policies_at entry at) (λ policies.
    and_then (columns_at config entry at (codes "column")) (λ entries.
    and_then (whole_transform config at ends way policies entries) (λ columns.
    Ok (record {
      id = id;
      source_group = ends.source;
      target_group = ends.target;
      point = way.point;
      source_table = way.source_table;
      target_table = way.target_table;
      delete_action = policies.delete_action;
      column_policy = policies.column_policy;
      columns = columns;
    }))))))))

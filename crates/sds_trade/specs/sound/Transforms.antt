-- Of a sound configuration: its transforms.
use Rattle.std.specs.Prelude.{◌≡◌, ◌≢◌, ℕ, ◌<◌, ◌≤◌, Bool, true, false, not, ◌&&◌, ◌||◌, IsTrue, List, length, IsSomeAnd}
use Rattle.std.specs.List.{All, AllPairs, list_any, count_by}
use Rattle.std.specs.Str.{bytes_eq}
use Rattle.sds_value.specs.Names.{is_name_text}
use Rattle.sds_value.specs.declared.table.TableDef.{TableDef}
use Rattle.sds_types.specs.Limits.{most_transforms, most_transform_columns, most_transform_keys}
use Rattle.sds_types.specs.declared.config.Config.{Config}
use Rattle.sds_types.specs.declared.transform.ColumnPolicy.{ColumnPolicy}
use Rattle.sds_types.specs.declared.transform.Point.{Point}
use Rattle.sds_types.specs.declared.transform.Point.TheVariants.{Extract, Load}
use Rattle.sds_types.specs.declared.transform.TransformDef.{TransformDef}
use Rattle.sds_types.specs.declared.transform_column.TransformColumn.{TransformColumn}
use Rattle.sds_trade.specs.rules.Places.{table_named, column_name}
use Rattle.sds_trade.specs.sound.Sections.{leads}
use Rattle.sds_trade.specs.sound.TransformColumns.{IsTransformColumn, clash}
use Rattle.sds_trade.specs.rules.ColumnFunctions.{is_remove}
use Rattle.sds_trade.specs.rules.MadeSides.{is_implied}

abbrev pub is_pk : TransformColumn → Bool
is_pk column = column.pk

-- a key column of the source that no `remove` takes away
abbrev pub removes_column : List ℕ → TransformColumn → Bool
removes_column name column = is_remove column.kind && bytes_eq column.target name

abbrev pub key_remains : TableDef → List TransformColumn → ℕ → Bool
key_remains def columns place =
    not (list_any (removes_column (column_name def.columns place)) columns)

-- where a batch is written the made rows have a key: a listed one, or under the implied policy one
-- of the source's
abbrev pub has_key : Point → ColumnPolicy → TableDef → List TransformColumn → Bool
has_key Load policy def columns = true
has_key Extract policy def columns =
    list_any is_pk columns
    || (is_implied policy && list_any (key_remains def columns) def.key)

-- the name of the table that is the configuration's
abbrev pub own_table : TransformDef → List ℕ
own_table transform =
    elim transform.point [ Extract ↦ transform.source_table | Load ↦ transform.target_table ]

-- what holds of a transform of or for this table
pub record FitsTable (transform : TransformDef) (def : TableDef) : Type 0 where
  pub each : All (IsTransformColumn transform.point transform.column_policy def) transform.columns
  pub keys : count_by is_pk transform.columns ≤ most_transform_keys
  pub keyed : IsTrue (has_key transform.point transform.column_policy def transform.columns)

pub record IsTransform (config : Config) (transform : TransformDef) : Type 0 where
  pub named : IsTrue (is_name_text transform.id)
  pub source : transform.source_group < length config.groups
  pub target : transform.target_group < length config.groups
  pub linked : IsTrue (leads config.links transform.source_group transform.target_group)
  pub source_name : IsTrue (is_name_text transform.source_table)
  pub target_name : IsTrue (is_name_text transform.target_table)
  pub few : length transform.columns ≤ most_transform_columns
  pub apart : AllPairs (λ (a b : TransformColumn). clash a b ≡ false) transform.columns
  pub table : IsSomeAnd (table_named config.tables (own_table transform)) (FitsTable transform)

pub record AreTransforms (config : Config) : Type 0 where
  pub few : length config.transforms ≤ most_transforms
  pub each : All (IsTransform config) config.transforms
  pub apart : AllPairs (λ (a b : TransformDef). a.id ≢ b.id) config.transforms

-- Of a sound configuration: its conflict settings.
use Rattle.std.specs.Prelude.{◌≡◌, ℕ, ◌<◌, ◌≤◌, Bool, true, false, ◌&&◌, ◌==◌, IsTrue, List, length, Option, None, slice_get, option_and_then, IsSomeAnd}
use Rattle.std.specs.List.{All, AllPairs}
use Rattle.sds_value.specs.declared.kind.Kind.{Kind}
use Rattle.sds_value.specs.declared.kind.Kind.TheVariants.{Integer, Timestamp}
use Rattle.sds_value.specs.declared.table.ColumnDef.{ColumnDef}
use Rattle.sds_types.specs.Limits.{most_conflicts}
use Rattle.sds_types.specs.declared.config.Config.{Config}
use Rattle.sds_types.specs.declared.conflict.ConflictDef.{ConflictDef}
use Rattle.sds_types.specs.declared.conflict.DetectType.{DetectType}
use Rattle.sds_types.specs.declared.conflict.DetectType.TheVariants.{UseTimestamp, UseVersion}
use Rattle.sds_types.specs.declared.conflict.ResolveType.TheVariants.{NewerWins}
use Rattle.sds_trade.specs.rules.Places.{columns_at}
use Rattle.sds_trade.specs.sound.Sections.{leads}

-- detection by a timestamp or a version goes by a named column, and so newer values may win
abbrev pub names_column : DetectType → Bool
names_column UseTimestamp = true
names_column UseVersion = true
names_column detect = false

-- the column at a place has this kind
abbrev pub HasKind : List ColumnDef → Kind → Option ℕ → Type 0
HasKind columns kind place =
    IsSomeAnd (option_and_then (slice_get columns) place)
    (λ (column : ColumnDef). column.kind ≡ kind)

-- a timestamp's column is a TIMESTAMP, a version's an INTEGER, and no other detection has a column
abbrev pub NamesWell : List ColumnDef → DetectType → Option ℕ → Type 0
NamesWell columns UseTimestamp place = HasKind columns Timestamp place
NamesWell columns UseVersion place = HasKind columns Integer place
NamesWell columns detect place = place ≡ None

pub record IsConflict (config : Config) (conflict : ConflictDef) : Type 0 where
  pub source : conflict.source_group < length config.groups
  pub target : conflict.target_group < length config.groups
  pub linked : IsTrue (leads config.links conflict.source_group conflict.target_group)
  pub table : conflict.target_table < length config.tables
  pub column : NamesWell (columns_at config.tables conflict.target_table)
      conflict.detect_type conflict.detect_expression
  pub by_newer_value : conflict.resolve_type ≡ NewerWins → names_column conflict.detect_type ≡ true

-- two are for one table between the same two groups
abbrev pub settle_alike : ConflictDef → ConflictDef → Bool
settle_alike a b =
    a.source_group == b.source_group
    && (a.target_group == b.target_group && a.target_table == b.target_table)

pub record AreConflicts (config : Config) : Type 0 where
  pub few : length config.conflicts ≤ most_conflicts
  pub each : All (IsConflict config) config.conflicts
  pub apart : AllPairs (λ (a b : ConflictDef). settle_alike a b ≡ false) config.conflicts

-- What steps, changes and rows of batches have to be so that they fit a configuration: their places
-- lie in range, and their values are null or of their column's kind.
use Rattle.std.specs.Prelude.{◌≡◌, ◌≢◌, ℕ, ◌<◌, not, ◌&&◌, ◌||◌, IsTrue, List, [], length, Option, IfSome, IsSome, IsNone, IsSomeAnd, slice_get}
use Rattle.std.specs.List.{All, AllPairs, enumerate_from, filter_map, zip}
use Rattle.sds_value.specs.declared.kind.Value.{Value}
use Rattle.sds_value.specs.declared.row.Event.{Event}
use Rattle.sds_value.specs.declared.row.Event.TheVariants as event
use Rattle.sds_value.specs.declared.table.ColumnDef.{ColumnDef}
use Rattle.sds_value.specs.declared.table.TableDef.{TableDef}
use Rattle.sds_value.specs.Values.{fits}
use Rattle.sds_types.specs.declared.config.Config.{Config}
use Rattle.sds_types.specs.declared.conflict.ConflictDef.{ConflictDef}
use Rattle.sds_types.specs.declared.load_row.Addend.{Addend}
use Rattle.sds_types.specs.declared.load_row.LoadRow.{LoadRow}
use Rattle.sds_types.specs.declared.prepared.Body.{Body}
use Rattle.sds_types.specs.declared.prepared.Body.TheVariants as body
use Rattle.sds_types.specs.declared.prepared.Prepared.{Prepared}
use Rattle.sds_types.specs.declared.row.Change.{Change}
use Rattle.sds_types.specs.declared.row.Key.{Key}
use Rattle.sds_types.specs.declared.row.Row.{Row}
use Rattle.sds_types.specs.declared.row.RowStep.{RowStep}
use Rattle.sds_types.specs.declared.row.RowStep.TheVariants.{Insert, Update, Delete}
use Rattle.sds_trade.specs.rules.Places.{columns_at, key_places}
use Rattle.sds_trade.specs.rules.Tables.{is_null}

-- a value is null or one of the column's kind, within its limits
abbrev pub Suits : ColumnDef × Value → Type 0
Suits at = IsTrue (is_null at.1 || fits at.0.kind at.1)

-- a value is one of the column's kind and no null
abbrev pub IsHeld : ColumnDef × Value → Type 0
IsHeld at = IsTrue (not (is_null at.1) && fits at.0.kind at.1)

-- as many values as columns, each of which suits its column
pub record FitColumns (columns : List ColumnDef) (values : List Value) : Type 0 where
  pub whole : length values ≡ length columns
  pub each : All Suits (zip columns values)

-- the columns at certain places of the table at a place
abbrev pub columns_among : List TableDef → ℕ → List ℕ → List ColumnDef
columns_among defs table places = filter_map (slice_get (columns_at defs table)) places

-- a key of the table at a place: a value that isn't null for each of its columns
pub record FitsKey (defs : List TableDef) (table : ℕ) (key : Key) : Type 0 where
  pub whole : length key.0 ≡ length (key_places defs table)
  pub each : All IsHeld (zip (columns_among defs table (key_places defs table)) key.0)

abbrev pub FitsRow : List TableDef → ℕ → Row → Type 0
FitsRow defs table row = FitColumns (columns_at defs table) row.0

-- a step on a table that is there
abbrev pub FitsStep : List TableDef → RowStep → Type 0
FitsStep defs (Insert table row) = (table < length defs) × FitsRow defs table row
FitsStep defs (Update table key row) =
    (table < length defs) × FitsKey defs table key × FitsRow defs table row
FitsStep defs (Delete table key) = (table < length defs) × FitsKey defs table key

-- an insert and an update have a new row, an update and a delete an old one
abbrev pub HasRows : Event → Option Row → Option Row → Type 0
HasRows event.Insert new old = IsSome new × IsNone old
HasRows event.Update new old = IsSome new × IsSome old
HasRows event.Delete new old = IsNone new × IsSome old

pub record FitsChange (config : Config) (change : Change) : Type 0 where
  pub table : change.table < length config.tables
  pub channel : change.channel < length config.channels
  pub rows : HasRows change.event change.new change.old
  pub new : IfSome change.new (FitsRow config.tables change.table)
  pub old : IfSome change.old (FitsRow config.tables change.table)

-- a delete lists no new values, every other row one for each of its columns
abbrev pub HasNew : Event → List ColumnDef → List Value → Type 0
HasNew event.Delete columns new = new ≡ []
HasNew event columns new = FitColumns columns new

-- a row of a batch as it is loaded
pub record FitsLoadRow (defs : List TableDef) (row : LoadRow) : Type 0 where
  pub table : row.table < length defs
  pub key : FitsKey defs row.table row.key
  pub columns : All (λ (place : ℕ). place < length (columns_at defs row.table)) row.columns
  pub apart : AllPairs (λ (a b : ℕ). a ≢ b) row.columns
  pub new : HasNew row.event (columns_among defs row.table row.columns) row.new
  pub old : IfSome row.old (FitColumns (columns_among defs row.table row.columns))
  pub adds : All (λ (addend : Addend). addend.column < length (columns_at defs row.table)) row.adds

-- a setting is for the table at a place
abbrev pub IsSettingAt : Config → ℕ × Option ℕ → Type 0
IsSettingAt config at = IfSome at.1 (λ (place : ℕ).
    IsSomeAnd (slice_get config.conflicts place) (λ (def : ConflictDef). def.target_table ≡ at.0))

abbrev pub FitsBody : Config → Body → Type 0
FitsBody config (body.Rows rows) = All (FitsLoadRow config.tables) rows
FitsBody config (body.Broken number rule) = Unit {0}

-- a batch that is ready to be loaded
pub record FitsPrepared (config : Config) (batch : Prepared) : Type 0 where
  pub channel : IfSome batch.channel (λ (place : ℕ). place < length config.channels)
  pub settings : length batch.settings ≡ length config.tables
  pub each : All (IsSettingAt config) (enumerate_from 0 batch.settings)
  pub body : FitsBody config batch.body

-- Batches: read and ready to be loaded, and how a load of one ends.
use Rattle.std.specs.Prelude.{ℕ, Bool, true, ◌&&◌, ◌==◌, List, [], ◌∷◌, map, length, Option, None, Some, option_and_then, slice_get, Result, Ok, Err}
use Rattle.std.specs.List.{enumerate_from, filter_map, flat_map, position, range_with_len}
use Rattle.std.specs.Result.{result_ok, result_err}
use Rattle.std.specs.Str.{bytes_eq}
use Rattle.sds_value.specs.declared.kind.Binary.{Binary}
use Rattle.sds_value.specs.declared.row.DocRow.{DocRow}
use Rattle.sds_types.specs.declared.channel.ChannelDef.{ChannelDef}
use Rattle.sds_types.specs.declared.config.Config.{Config}
use Rattle.sds_types.specs.declared.conflict.ConflictDef.{ConflictDef}
use Rattle.sds_types.specs.declared.conflict.Resolution.{Resolution}
use Rattle.sds_types.specs.declared.document.BatchDoc.{BatchDoc}
use Rattle.sds_types.specs.declared.load_row.LoadRow.{LoadRow}
use Rattle.sds_types.specs.declared.prepared.Body.{Body}
use Rattle.sds_types.specs.declared.prepared.Body.TheVariants as body
use Rattle.sds_types.specs.declared.prepared.Prepared.{Prepared}
use Rattle.sds_types.specs.declared.row.TableRow.{TableRow}
use Rattle.sds_types.specs.declared.rule.Rule.{Rule}
use Rattle.sds_types.specs.declared.rule.Rule.TheVariants.{UnknownChannel}
use Rattle.sds_types.specs.declared.transform.Shaped.{Shaped}
use Rattle.sds_types.specs.declared.way.Way.{Way}
use Rattle.sds_trade.specs.rules.Captured.{overflows}
use Rattle.sds_trade.specs.rules.LoadRows.{row_of}
use Rattle.sds_trade.specs.rules.Places.{group_name}
use Rattle.sds_trade.specs.rules.Resolutions.{resolution_of}
use Rattle.sds_trade.specs.rules.Runs.{RunEnd, run}
use Rattle.sds_trade.specs.rules.Runs.RunEnd.{Refused}
use Rattle.sds_trade.specs.rules.Transforms.{shaped_rows}

-- PREPARED. A made row read for its table, or the number of its document's row with the rule that
-- it breaks
abbrev pub numbered_rule : ℕ → Result LoadRow Rule → Result LoadRow (ℕ × Rule)
numbered_rule number (Ok row) = Ok row
numbered_rule number (Err rule) = Err (number, rule)

abbrev pub reading_of : Config → Binary → ℕ → Shaped → Result LoadRow (ℕ × Rule)
reading_of config form number made =
    numbered_rule number (row_of config.tables form number made.row made.adds)

-- all rows that the rows of a batch become, in their order
abbrev pub readings_of : Config → Way → BatchDoc → List (Result LoadRow (ℕ × Rule))
readings_of config way doc = flat_map
    (λ (at : ℕ × DocRow). map (reading_of config doc.binary at.0) (shaped_rows config way at.1))
    (enumerate_from 1 doc.rows)

-- the rows, or the first that breaks a rule
abbrev pub body_by : List (ℕ × Rule) → List LoadRow → Body
body_by [] rows = body.Rows rows
body_by (broken ∷ others) rows = body.Broken broken.0 broken.1

abbrev pub body_of : Config → Way → BatchDoc → Body
body_of config way doc = let readings = readings_of config way doc in
    body_by (filter_map result_err readings) (filter_map result_ok readings)

-- the place of the channel of a name
abbrev pub channel_place : Config → List ℕ → Option ℕ
channel_place config name =
    position (λ (channel : ChannelDef). bytes_eq channel.id name) config.channels

-- the place of the conflict setting of a table for a way
abbrev pub is_for_way : Config → Way → ℕ → ConflictDef → Bool
is_for_way config way table def = def.target_table == table
    && (bytes_eq (group_name config.groups def.source_group) way.source_group
    && bytes_eq (group_name config.groups def.target_group) way.target_group)

abbrev pub setting_place : Config → Way → ℕ → Option ℕ
setting_place config way table = position (is_for_way config way table) config.conflicts

-- a batch read for the tables of the node that it goes to
abbrev pub prepared_batch : Config → Way → BatchDoc → Prepared
prepared_batch config way doc = record {
  from = way.source;
  from_group = way.source_group;
  channel = channel_place config doc.channel;
  batch = doc.batch;
  body = body_of config way doc;
  settings = map (setting_place config way) (range_with_len 0 (length config.tables));
}

-- OUTCOME. The setting for the table of a row
abbrev pub setting_for : Config → Prepared → ℕ → Option ConflictDef
setting_for config batch table = option_and_then (slice_get config.conflicts)
    (option_and_then (λ (place : Option ℕ). place) (slice_get batch.settings table))

-- what a row of a batch asks for where certain rows stand
abbrev pub batch_judge : Config → Prepared → List TableRow → LoadRow → Resolution
batch_judge config batch rows row =
    resolution_of config.tables (setting_for config batch row.table) rows row

-- a row goes by the number of its document's row
abbrev pub with_number : LoadRow → ℕ × LoadRow
with_number row = (row.row, row)

-- how a load at a node of a group ends, where so many changes wait to be routed
abbrev pub by_body : Config → List ℕ → ℕ → List TableRow → Prepared → Body → RunEnd
by_body config group waiting rows batch (body.Broken number rule) = Refused number rule
by_body config group waiting rows batch (body.Rows made) =
    run config.tables (overflows config group true waiting) (batch_judge config batch)
    rows (map with_number made)

abbrev pub by_channel : Config → List ℕ → ℕ → List TableRow → Prepared → Option ℕ → RunEnd
by_channel config group waiting rows batch None = Refused 0 UnknownChannel
by_channel config group waiting rows batch (Some channel) =
    by_body config group waiting rows batch batch.body

abbrev pub outcome_of_batch : Config → List ℕ → ℕ → List TableRow → Prepared → RunEnd
outcome_of_batch config group waiting rows batch =
    by_channel config group waiting rows batch batch.channel

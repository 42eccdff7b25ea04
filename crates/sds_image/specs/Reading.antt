-- What records tell that a keeper has: the parts of a state, the state of the parts, and which of
-- them disagrees with the configuration or with the others.
use Rattle.std.specs.Prelude.{◌≡◌, ◌⊎◌, ℕ, Bool, true, false, not, ◌||◌, ◌==◌, nat_le, nat_lt, if◌then◌else◌, IsTrue, List, [], ◌∷◌, ◌++◌, length, map, take, slice_get, Option, None, Some, IsSomeAnd, option_map, unwrap_or}
use Rattle.std.specs.List.{All, filter_map, last_or, list_all, list_any}
use Rattle.std.specs.Option.{option_map_or}
use Rattle.sds_value.specs.declared.row.Peer as node
use Rattle.sds_value.specs.declared.table.TableDef.{TableDef}
use Rattle.sds_types.specs.Limits.{most_peers, most_rows}
use Rattle.sds_types.specs.declared.batch.OutBatch.{OutBatch}
use Rattle.sds_types.specs.declared.config.Config.{Config}
use Rattle.sds_types.specs.declared.counts.Counts as counted
use Rattle.sds_types.specs.declared.counts.WriterLast.{WriterLast}
use Rattle.sds_types.specs.declared.lane.LaneIn.{LaneIn}
use Rattle.sds_types.specs.declared.peer.KeptPeer.{KeptPeer}
use Rattle.sds_types.specs.declared.registration.Opening as opened
use Rattle.sds_types.specs.declared.row.Change as changed
use Rattle.sds_types.specs.declared.row.Row as row
use Rattle.sds_types.specs.declared.row.TableRow.{TableRow}
use Rattle.sds_trade.specs.rules.Places.{columns_at}
use Rattle.sds_trade.specs.rules.StepRules.{has_null}
use Rattle.sds_trade.specs.rules.Steps.{with_row}
use Rattle.sds_trade.specs.rules.Tables.{finds_parents}
use Rattle.sds_history.specs.history.Acts.{State}
use Rattle.sds_history.specs.history.Counters.{is_past}
use Rattle.sds_history.specs.history.Image.{key_of_record}
use Rattle.sds_history.specs.history.Orders.{is_before}
use Rattle.sds_history.specs.history.Records.{Record}
use Rattle.sds_history.specs.history.SoundParts.{AscendBy}
use Rattle.sds_history.specs.history.SoundStates.{acks_ascend, are_apart, is_counted_batch, is_counted_change, is_counted_writer, is_kept, is_sound_lane, stage_stands, unrouted_numbers}
use Rattle.sds_history.specs.history.States.{zero_counts}
use Rattle.sds_records.specs.Told.{HasValues, IsHeld, Tells, is_formed, record_of_told}
use Rattle.sds_records.specs.declared.told.Told.{Told}
use Rattle.sds_records.specs.declared.told.Told.TheVariants.{Me, Counts, Peer, Opening, Writer, Row, Change, Batch, Lane}

-- THE PARTS that records tell. A part has its form and its values, and its numbers their widths
pub record IsTold (config : Config) (part : Told) : Type 0 where
  pub form : IsTrue (is_formed config part)
  pub values : HasValues config part
  pub held : IsHeld part

-- records whose keys ascend, each of which tells a part
pub record AreTold (config : Config) (records : List Record) (parts : List Told) : Type 0 where
  pub each : All (IsTold config) parts
  pub records_are : map (record_of_told config) parts ≡ records
  pub ascend : AscendBy key_of_record records

-- a part of each kind
abbrev pub me_of_part : Told → Option node.Peer
me_of_part (Me me) = Some me
me_of_part other = None

abbrev pub counts_of_part : Told → Option counted.Counts
counts_of_part (Counts counts) = Some counts
counts_of_part other = None

abbrev pub peer_of_part : Told → Option KeptPeer
peer_of_part (Peer kept) = Some kept
peer_of_part other = None

abbrev pub opening_of_part : Told → Option opened.Opening
opening_of_part (Opening opening) = Some opening
opening_of_part other = None

abbrev pub writer_of_part : Told → Option WriterLast
writer_of_part (Writer last) = Some last
writer_of_part other = None

abbrev pub row_of_part : Told → Option TableRow
row_of_part (Row row) = Some row
row_of_part other = None

abbrev pub change_of_part : Told → Option changed.Change
change_of_part (Change change) = Some change
change_of_part other = None

abbrev pub batch_of_part : Told → Option OutBatch
batch_of_part (Batch batch) = Some batch
batch_of_part other = None

abbrev pub lane_of_part : Told → Option LaneIn
lane_of_part (Lane lane) = Some lane
lane_of_part other = None

abbrev pub first_told : {A : Type 0} → (Told → Option A) → List Told → Option A
first_told kind parts = slice_get (filter_map kind parts) 0

-- rows in the order of tables, each put in its place among the others
abbrev pub sorted_rows : List TableDef → List TableRow → List TableRow
sorted_rows defs [] = []
sorted_rows defs (row ∷ rows) = with_row defs (sorted_rows defs rows) row

-- THE STATE of parts: no counters told are those of a node that has made no act
abbrev pub state_with : Config → List Told → node.Peer → State
state_with config parts me = record {
  me = me;
  counts = unwrap_or (first_told counts_of_part parts) zero_counts;
  peers = filter_map peer_of_part parts;
  openings = filter_map opening_of_part parts;
  writers = filter_map writer_of_part parts;
  tables = sorted_rows config.tables (filter_map row_of_part parts);
  changes = filter_map change_of_part parts;
  batches = filter_map batch_of_part parts;
  lanes = filter_map lane_of_part parts;
}

-- there is none where no part tells the node itself
abbrev pub state_told : Config → List Told → Option State
state_told config parts =
    option_map (state_with config parts) (first_told me_of_part parts)

-- PARTS THAT DISAGREE. Counters of no act, or past their end; a routed mark past the last change;
-- a change that waits to be routed and isn't kept
abbrev pub counts_disagree : State → counted.Counts → Bool
counts_disagree state counts = counts.acts == 0
    || (is_past counts || (nat_lt counts.last_change counts.routed
    || not (list_all (is_kept state) (unrouted_numbers counts))))

-- as many peers stand before it as a node may have
abbrev pub peer_disagrees : List Told → Bool
peer_disagrees before = nat_le most_peers (length (filter_map peer_of_part before))

-- it went to a node that isn't a peer, or that an earlier one went to
abbrev pub opening_disagrees : State → List Told → opened.Opening → Bool
opening_disagrees state before opening = not (stage_stands state opening.stage)
    || list_any (λ (earlier : opened.Opening). not (are_apart earlier opening))
    (filter_map opening_of_part before)

-- a null stands where its column allows none; a row that it refers to isn't there; as many rows
-- stand before it as a node may have
abbrev pub row_disagrees : Config → State → List Told → TableRow → Bool
row_disagrees config state before row = has_null (columns_at config.tables row.table) row.row
    || (not (finds_parents config.tables state.tables row.table row.row)
    || nat_le most_rows (length (filter_map row_of_part before)))

abbrev pub side_has_null : Config → ℕ → Option row.Row → Bool
side_has_null config table side =
    option_map_or (has_null (columns_at config.tables table)) side false

-- its number or its transaction isn't counted, or a null stands where its column allows none
abbrev pub change_disagrees : Config → State → changed.Change → Bool
change_disagrees config state change = not (is_counted_change state.counts change)
    || (side_has_null config change.table change.new
    || side_has_null config change.table change.old)

-- its number isn't counted, its node isn't a peer, a change of it isn't kept, or it is acknowledged
-- and an earlier one of its lane isn't
abbrev pub batch_disagrees : State → List Told → OutBatch → Bool
batch_disagrees state before batch = not (is_counted_batch state batch)
    || list_any (λ (earlier : OutBatch). not (acks_ascend earlier batch))
    (filter_map batch_of_part before)

-- a part disagrees with the configuration, with the state, or with the parts before it
abbrev pub disagrees : Config → State → List Told → Told → Bool
disagrees config state before (Me me) = false
disagrees config state before (Counts counts) = counts_disagree state counts
disagrees config state before (Peer kept) = peer_disagrees before
disagrees config state before (Opening opening) = opening_disagrees state before opening
disagrees config state before (Writer last) = not (is_counted_writer state.counts last)
disagrees config state before (Row row) = row_disagrees config state before row
disagrees config state before (Change change) = change_disagrees config state change
disagrees config state before (Batch batch) = batch_disagrees state before batch
disagrees config state before (Lane lane) = not (is_sound_lane config state lane)

-- the first of some parts that disagrees, where others stand before them
abbrev pub disagreement_after : Config → State → List Told → List Told → Option Told
disagreement_after config state before [] = None
disagreement_after config state before (part ∷ later) =
    if disagrees config state before part then Some part
    else disagreement_after config state (before ++ part ∷ []) later

abbrev pub first_disagreement : Config → State → List Told → Option Told
first_disagreement config state parts = disagreement_after config state [] parts

-- BAD RECORDS. A record tells no part, or its key isn't after that of the record before it
abbrev pub TellsNone : Config → Record → Type 0
TellsNone config kept = (part : Told) → Tells config kept part → IsHeld part → ⊥

abbrev pub is_after_last : List Record → Record → Bool
is_after_last before kept =
    option_map_or (λ (earlier : Record). is_before earlier.key kept.key) (last_or None before) true

abbrev pub IsBad : Config → List Record → Record → Type 0
IsBad config before kept = TellsNone config kept ⊎ IsTrue (not (is_after_last before kept))

-- the record at a place is bad, and those before it tell parts
pub record IsFirstBad (config : Config) (records : List Record) (place : ℕ) : Type 0 where
  pub parts : List Told
  pub before : AreTold config (take place records) parts
  pub bad : IsSomeAnd (slice_get records place) (IsBad config (take place records))

-- Which part of a node's state a record tells.
use Rattle.std.specs.Prelude.{ℕ, ◌≡◌, ◌<◌, ◌^◌, ⊤, Bool, true, ◌&&◌, nat_lt, IsTrue, List, length, codes, Option, Some, IfSome, is_some}
use Rattle.std.specs.List.{All}
use Rattle.std.specs.Option.{is_none, option_map_or}
use Rattle.sds_value.specs.Names.{is_name_text}
use Rattle.sds_value.specs.declared.row.Field.{Field}
use Rattle.sds_value.specs.declared.row.Field.TheVariants as field
use Rattle.sds_types.specs.declared.batch.OutBatch.{OutBatch}
use Rattle.sds_types.specs.declared.batch.Standing.{Standing}
use Rattle.sds_types.specs.declared.batch.Standing.TheVariants as standing
use Rattle.sds_types.specs.declared.config.Config.{Config}
use Rattle.sds_types.specs.declared.counts.Counts as counted
use Rattle.sds_types.specs.declared.counts.WriterLast.{WriterLast}
use Rattle.sds_types.specs.declared.lane.LaneError.{LaneError}
use Rattle.sds_types.specs.declared.lane.LaneIn.{LaneIn}
use Rattle.sds_types.specs.declared.registration.Stage.{Stage}
use Rattle.sds_types.specs.declared.registration.Stage.TheVariants.{Waiting, Given, Closed}
use Rattle.sds_types.specs.declared.row.Change as changed
use Rattle.sds_types.specs.declared.row.Row as row
use Rattle.sds_value.specs.declared.row.Event.{Event}
use Rattle.sds_value.specs.declared.row.Event.TheVariants.{Insert, Update, Delete}
use Rattle.sds_trade.specs.rules.Fitting.{FitsRow}
use Rattle.sds_trade.specs.rules.Outcomes.{channel_place}
use Rattle.sds_trade.specs.rules.Places.{table_name, table_place}
use Rattle.sds_history.specs.history.Lanes.{channel_name}
use Rattle.sds_history.specs.history.Records.{Record, me_record, count_record, peer_record, opening_record, writer_record, batch_record, lane_record}
use Rattle.sds_history.specs.history.RowRecords.{row_record, change_record}
use Rattle.sds_history.specs.history.SoundParts.{is_batch, is_kept_peer, is_opening, is_peer}
use Rattle.sds_records.specs.Parts.{FitsSide, HasKey}
use Rattle.sds_records.specs.declared.told.Told.{Told}
use Rattle.sds_records.specs.declared.told.Told.TheVariants.{Me, Counts, Peer, Opening, Writer, Row, Change, Batch, Lane}

-- the record of a part
abbrev pub record_of_told : Config → Told → Record
record_of_told config (Me me) = me_record me
record_of_told config (Counts counts) = count_record counts
record_of_told config (Peer kept) = peer_record kept
record_of_told config (Opening opening) = opening_record opening
record_of_told config (Writer last) = writer_record last
record_of_told config (Row row) = row_record config row
record_of_told config (Change change) = change_record config change
record_of_told config (Batch batch) = batch_record config batch
record_of_told config (Lane lane) = lane_record config lane

-- the fields of a stage: its word and its node
abbrev pub stage_word : Stage → List ℕ
stage_word Waiting = codes "waiting"
stage_word (Given node) = codes "given"
stage_word (Closed node) = codes "closed"

abbrev pub stage_node : Stage → Field
stage_node Waiting = field.Null
stage_node (Given node) = field.Text node
stage_node (Closed node) = field.Text node

-- the node that an opening went to is named by its id
abbrev pub names_node : Stage → Bool
names_node Waiting = true
names_node (Given node) = is_name_text node
names_node (Closed node) = is_name_text node

-- the node that a change came from is named by its id
abbrev pub names_source : Option (List ℕ) → Bool
names_source source = option_map_or is_name_text source true

-- an insert and an update leave a row, an update and a delete took one
abbrev pub sides_stand : Event → Option row.Row → Option row.Row → Bool
sides_stand Insert new old = is_some new && is_none old
sides_stand Update new old = is_some new && is_some old
sides_stand Delete new old = is_none new && is_some old

-- the sides of a change stand that its event has, and it names what is there
abbrev pub is_change : Config → changed.Change → Bool
is_change config change = nat_lt change.table (length config.tables)
    && (nat_lt change.channel (length config.channels)
    && (sides_stand change.event change.new change.old && names_source change.source))

-- what a part is made of is in the configuration, and nodes, groups, writers and external ids are
-- named by names
abbrev pub is_formed : Config → Told → Bool
is_formed config (Me me) = is_peer config me
is_formed config (Counts counts) = true
is_formed config (Peer kept) = is_kept_peer config kept
is_formed config (Opening opening) = is_opening config opening && names_node opening.stage
is_formed config (Writer last) = is_name_text last.writer
is_formed config (Row row) = nat_lt row.table (length config.tables)
is_formed config (Change change) = is_change config change
is_formed config (Batch batch) = is_batch config batch && is_name_text batch.peer
is_formed config (Lane lane) =
    nat_lt lane.channel (length config.channels) && is_name_text lane.peer

-- each value is null or one of its column's kind
abbrev pub HasValues : Config → Told → Type 0
HasValues config (Row row) = FitsRow config.tables row.table row.row
HasValues config (Change change) = FitsSide config.tables change.table change.new
    × FitsSide config.tables change.table change.old
HasValues config told = ⊤

-- the key columns of a row's table are columns of it
abbrev pub HasKeyOf : Config → Told → Type 0
HasKeyOf config (Row row) = HasKey config.tables row.table
HasKeyOf config told = ⊤

abbrev pub kept_record : List ℕ → List ℕ → Record
kept_record key body = record { key = key; body = body }

-- a record tells a part: it is the record of that part, which has its form
pub record Tells (config : Config) (kept : Record) (told : Told) : Type 0 where
  pub form : IsTrue (is_formed config told)
  pub values : HasValues config told
  pub record_is : record_of_told config told ≡ kept

-- the channel at a place is found by its name, which is a name
pub record HasChannel (config : Config) (channel : ℕ) : Type 0 where
  pub named : is_name_text (channel_name config channel) ≡ true
  pub found : channel_place config (channel_name config channel) ≡ Some channel

-- so is the table at a place
pub record HasTable (config : Config) (table : ℕ) : Type 0 where
  pub named : is_name_text (table_name config.tables table) ≡ true
  pub found : table_place config.tables (table_name config.tables table) ≡ Some table

-- numbers that 64 bits hold, or 32
abbrev pub IsWide : ℕ → Type 0
IsWide number = number < 2 ^ 64

abbrev pub IsNarrow : ℕ → Type 0
IsNarrow number = number < 2 ^ 32

abbrev pub AreWide : counted.Counts → Type 0
AreWide counts = IsWide counts.acts × (IsWide counts.last_change × (IsWide counts.last_batch
    × (IsWide counts.last_tx × IsWide counts.routed)))

abbrev pub IsHeldStanding : Standing → Type 0
IsHeldStanding (standing.Erred row rule) = IsNarrow row × rule < 256
IsHeldStanding other = ⊤

abbrev pub IsHeldBatch : OutBatch → Type 0
IsHeldBatch batch = IsWide batch.id × (IsNarrow batch.channel
    × (IsHeldStanding batch.standing × All IsWide batch.changes))

abbrev pub IsHeldError : LaneError → Type 0
IsHeldError error = IsWide error.batch × IsNarrow error.row

abbrev pub IsHeldLane : LaneIn → Type 0
IsHeldLane lane = IsNarrow lane.channel
    × (IsWide lane.highest × IfSome lane.error IsHeldError)

abbrev pub IsHeldWriter : WriterLast → Type 0
IsHeldWriter last = IsWide last.number × (IsWide last.first × IsNarrow last.count)

abbrev pub IsHeldChange : changed.Change → Type 0
IsHeldChange change =
    IsWide change.id × (IsWide change.tx × (IsNarrow change.table × IsNarrow change.channel))

-- the numbers of a part have the widths that they are kept in
abbrev pub IsHeld : Told → Type 0
IsHeld (Me me) = ⊤
IsHeld (Counts counts) = AreWide counts
IsHeld (Peer kept) = ⊤
IsHeld (Opening opening) = ⊤
IsHeld (Writer last) = IsHeldWriter last
IsHeld (Row row) = IsNarrow row.table
IsHeld (Change change) = IsHeldChange change
IsHeld (Batch batch) = IsHeldBatch batch
IsHeld (Lane lane) = IsHeldLane lane

-- The fields of the records of parts.
use Rattle.std.specs.Prelude.{ℕ, List, [], ◌∷◌, ◌++◌, map}
use Rattle.std.specs.Option.{option_map_or}
use Rattle.sds_value.specs.declared.row.Field.{Field}
use Rattle.sds_value.specs.declared.row.Field.TheVariants.{Null, Text}
use Rattle.sds_value.specs.declared.row.Peer as node
use Rattle.sds_types.specs.Standings.{name_of}
use Rattle.sds_types.specs.declared.batch.OutBatch.{OutBatch}
use Rattle.sds_types.specs.declared.config.Config.{Config}
use Rattle.sds_types.specs.declared.counts.Counts as counted
use Rattle.sds_types.specs.declared.counts.WriterLast.{WriterLast}
use Rattle.sds_types.specs.declared.lane.LaneIn.{LaneIn}
use Rattle.sds_types.specs.declared.peer.KeptPeer.{KeptPeer}
use Rattle.sds_types.specs.declared.registration.Opening as opened
use Rattle.sds_types.specs.declared.row.Change as changed
use Rattle.sds_trade.specs.rules.Places.{columns_at, table_name}
use Rattle.sds_history.specs.history.Lanes.{channel_name}
use Rattle.sds_history.specs.history.Records.{error_fields, held_fields, number_field, side_word, status_field}
use Rattle.sds_history.specs.history.RowRecords.{event_word, row_fields, side_fields}
use Rattle.sds_records.specs.Told.{stage_node, stage_word}
use Rattle.sds_records.specs.declared.told.Told.{Told}
use Rattle.sds_records.specs.declared.told.Told.TheVariants.{Me, Counts, Peer, Opening, Writer, Row, Change, Batch, Lane}

abbrev pub me_fields : node.Peer → List Field
me_fields me = Text me.id ∷ (Text me.group ∷ (Text me.external ∷ []))

abbrev pub count_fields : counted.Counts → List Field
count_fields counts = map number_field (counts.acts ∷ (counts.last_change
    ∷ (counts.last_batch ∷ (counts.last_tx ∷ (counts.routed ∷ [])))))

abbrev pub peer_fields : KeptPeer → List Field
peer_fields kept = Text kept.peer.group ∷ (Text kept.peer.external
    ∷ (Text kept.token ∷ (Text (side_word kept.child) ∷ [])))

abbrev pub opening_fields : opened.Opening → List Field
opening_fields opening = Text opening.token ∷ (Text (stage_word opening.stage)
    ∷ (stage_node opening.stage ∷ []))

abbrev pub writer_fields : WriterLast → List Field
writer_fields last =
    number_field last.number ∷ (number_field last.first ∷ (number_field last.count ∷ []))

abbrev pub change_fields : Config → changed.Change → List Field
change_fields config change = let columns = columns_at config.tables change.table in
    number_field change.tx ∷ (Text (table_name config.tables change.table)
    ∷ (Text (event_word change.event) ∷ (Text (channel_name config change.channel)
    ∷ (option_map_or (λ (source : List ℕ). Text source) change.source Null
    ∷ (side_fields columns change.new ++ side_fields columns change.old)))))

abbrev pub batch_fields : Config → OutBatch → List Field
batch_fields config batch = Text batch.peer ∷ (Text (channel_name config batch.channel)
    ∷ (Text (name_of batch.standing)
    ∷ (error_fields batch.standing ++ map number_field batch.changes)))

abbrev pub lane_fields : LaneIn → List Field
lane_fields lane =
    number_field lane.highest ∷ (status_field lane.ignored ∷ held_fields lane.error)

abbrev pub fields_of_told : Config → Told → List Field
fields_of_told config (Me me) = me_fields me
fields_of_told config (Counts counts) = count_fields counts
fields_of_told config (Peer kept) = peer_fields kept
fields_of_told config (Opening opening) = opening_fields opening
fields_of_told config (Writer last) = writer_fields last
fields_of_told config (Row row) = row_fields (columns_at config.tables row.table) row.row.0
fields_of_told config (Change change) = change_fields config change
fields_of_told config (Batch batch) = batch_fields config batch
fields_of_told config (Lane lane) = lane_fields lane

-- The record of each part of a node's state, and the edits that put and drop it.
use Rattle.std.specs.Prelude.{ℕ, ◌<◌, ⊤, List, length, Option, None, Some, IfSome}
use Rattle.std.specs.List.{All}
use Rattle.sds_outside.specs.declared.keeping.Edit.{Edit}
use Rattle.sds_types.specs.declared.config.Config.{Config}
use Rattle.sds_types.specs.declared.row.Row as row
use Rattle.sds_types.specs.declared.row.TableRow.{TableRow}
use Rattle.sds_value.specs.declared.table.TableDef.{TableDef}
use Rattle.sds_trade.specs.rules.Fitting.{FitsRow}
use Rattle.sds_trade.specs.rules.Places.{columns_at, key_places}
use Rattle.sds_history.specs.history.Records.{Record, me_record, count_record, peer_record, opening_record, writer_record, batch_record, lane_record}
use Rattle.sds_history.specs.history.RowRecords.{row_record, change_record}
use Rattle.sds_records.specs.declared.part.Part.{Part}
use Rattle.sds_records.specs.declared.part.Part.TheVariants.{Me, Counts, Peer, Opening, Writer, Row, Change, Batch, Lane}

-- a row and the place of its table
abbrev pub table_row : ℕ → row.Row → TableRow
table_row table row = record { table = table; row = row }

abbrev pub record_of_part : Config → Part → Record
record_of_part config (Me me) = me_record me.now
record_of_part config (Counts counts) = count_record counts.now
record_of_part config (Peer kept) = peer_record kept.now
record_of_part config (Opening opening) = opening_record opening.now
record_of_part config (Writer last) = writer_record last.now
record_of_part config (Row table row) = row_record config (table_row table row.now)
record_of_part config (Change change) = change_record config change.now
record_of_part config (Batch batch) = batch_record config batch.now
record_of_part config (Lane lane) = lane_record config lane.now

-- the edit that puts a record, and the one that drops it
abbrev pub put_edit : Record → Edit
put_edit kept = record { key = kept.key; body = Some kept.body }

abbrev pub drop_edit : Record → Edit
drop_edit kept = record { key = kept.key; body = None }

-- the key columns of the table at a place are columns of it
abbrev pub HasKey : List TableDef → ℕ → Type 0
HasKey defs table =
    All (λ (place : ℕ). place < length (columns_at defs table)) (key_places defs table)

-- a side of a change, where it stands, is a row of the table
abbrev pub FitsSide : List TableDef → ℕ → Option row.Row → Type 0
FitsSide defs table side = IfSome side (FitsRow defs table)

-- the values that a part has are those of its table's columns
abbrev pub FitsPart : Config → Part → Type 0
FitsPart config (Row table row) = FitsRow config.tables table row.now × HasKey config.tables table
FitsPart config (Change change) = FitsSide config.tables change.now.table change.now.new
    × FitsSide config.tables change.now.table change.now.old
FitsPart config other = ⊤

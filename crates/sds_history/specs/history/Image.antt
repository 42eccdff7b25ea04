-- The image of a state: the records of all its parts in one list, ascending by their keys in bytes.
use Rattle.std.specs.Prelude.{ℕ, ◌==◌, if◌then◌else◌, List, [], ◌∷◌, ◌++◌, map}
use Rattle.sds_types.specs.declared.config.Config.{Config}
use Rattle.sds_types.specs.declared.counts.Counts.{Counts}
use Rattle.sds_history.specs.history.Acts.{State}
use Rattle.sds_history.specs.history.Orders.{with_item}
use Rattle.sds_history.specs.history.Records.{Record, batch_record, count_record, lane_record, me_record, opening_record, peer_record, writer_record}
use Rattle.sds_history.specs.history.RowRecords.{change_record, row_record}

-- the counters are kept once an act was made
abbrev pub count_records : Counts → List Record
count_records counts = if counts.acts == 0 then [] else count_record counts ∷ []

-- the records of all parts
abbrev pub records_of : Config → State → List Record
records_of config state = me_record state.me ∷ (count_records state.counts
    ++ (map peer_record state.peers ++ (map opening_record state.openings
    ++ (map writer_record state.writers ++ (map (row_record config) state.tables
    ++ (map (change_record config) state.changes ++ (map (batch_record config) state.batches
    ++ map (lane_record config) state.lanes)))))))

abbrev pub key_of_record : Record → List ℕ
key_of_record kept = kept.key

abbrev pub sorted_records : List Record → List Record
sorted_records [] = []
sorted_records (kept ∷ others) = with_item key_of_record kept (sorted_records others)

abbrev pub image_of : Config → State → List Record
image_of config state = sorted_records (records_of config state)

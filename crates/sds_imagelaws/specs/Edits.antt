-- The edits that a node commits for an act: of each part by itself, and of the counters always.
use Rattle.std.specs.Prelude.{ℕ, Bool, not, if◌then◌else◌, List, [], ◌∷◌, ◌++◌, length, drop, map, Option, None, Some, option_map}
use Rattle.std.specs.List.{filter, flat_map, zip}
use Rattle.std.specs.Option.{option_map_or}
use Rattle.std.specs.Str.{bytes_eq}
use Rattle.sds_outside.specs.declared.keeping.Edit.{Edit}
use Rattle.sds_types.specs.declared.batch.OutBatch.{OutBatch}
use Rattle.sds_types.specs.declared.config.Config.{Config}
use Rattle.sds_types.specs.declared.registration.Opening.{Opening}
use Rattle.sds_types.specs.declared.registration.Stage.TheVariants.{Waiting}
use Rattle.sds_types.specs.declared.row.Row.{Row}
use Rattle.sds_trade.specs.rules.Captured.{Done}
use Rattle.sds_trade.specs.rules.Steps.{new_row, table_of}
use Rattle.sds_history.specs.history.Acks.{same_standing}
use Rattle.sds_history.specs.history.Acts.{Act, State}
use Rattle.sds_history.specs.history.Acts.Act.{Opened, Joined, Confirmed, Wrote, Routed, Loaded, Erred, Acked}
use Rattle.sds_history.specs.history.Changes.{run_after}
use Rattle.sds_history.specs.history.Lanes.{lane_of}
use Rattle.sds_history.specs.history.Openings.{closed_for, given_to, is_given_to, is_opening_of}
use Rattle.sds_history.specs.history.Records.{Record, batch_record, count_record, lane_record, opening_record, peer_record, writer_record}
use Rattle.sds_history.specs.history.RowRecords.{change_record, row_record}
use Rattle.sds_history.specs.history.Runs.{dones_of}
use Rattle.sds_history.specs.history.States.{state_after}
use Rattle.sds_history.specs.history.Writers.{writer_of}
use Rattle.sds_records.specs.Parts.{drop_edit, put_edit}

-- the edits that put records
abbrev pub puts_of : List Record → List Edit
puts_of records = map put_edit records

-- PEERS: the one that joins
abbrev pub peer_edits : Act → List Edit
peer_edits (Joined kept) = put_edit (peer_record kept) ∷ []
peer_edits act = []

-- OPENINGS, as they are after the act: the new one; those of a child, which are given to it; those
-- that were given to the peer and are closed
abbrev pub given_openings : Bool → List Opening → List Opening
given_openings child openings = if child then openings else []

abbrev pub new_openings : Act → List Opening → List Opening
new_openings (Opened group external token) openings =
    record { group = group; external = external; token = token; stage = Waiting } ∷ []
new_openings (Joined kept) openings = given_openings kept.child
    (map (given_to kept.peer) (filter (is_opening_of kept.peer) openings))
new_openings (Confirmed peer) openings = map (closed_for peer)
    (filter (λ (opening : Opening). is_given_to peer opening.stage) openings)
new_openings act openings = []

abbrev pub opening_edits : State → Act → List Edit
opening_edits before act = puts_of (map opening_record (new_openings act before.openings))

-- ROWS: of each step first the old row's record is dropped, unless the new row's has its key, and
-- then the new row's record is put
abbrev pub record_at : Config → ℕ → Row → Record
record_at config table row = row_record config (record { table = table; row = row })

abbrev pub drop_unless : Option Record → Record → List Edit
drop_unless None old = drop_edit old ∷ []
drop_unless (Some new) old = if bytes_eq new.key old.key then [] else drop_edit old ∷ []

abbrev pub put_if : Option Record → List Edit
put_if new = option_map_or (λ (kept : Record). put_edit kept ∷ []) new []

abbrev pub exchange_edits : Option Record → Option Record → List Edit
exchange_edits old new = option_map_or (drop_unless new) old [] ++ put_if new

abbrev pub step_edits : Config → Done → List Edit
step_edits config done = exchange_edits
    (option_map (record_at config (table_of done.step)) done.old)
    (option_map (record_at config (table_of done.step)) (new_row done.step))

-- the steps that an act makes
abbrev pub made_steps : Config → State → Act → List Done
made_steps config state act = dones_of (run_after config state [] act).end

abbrev pub row_edits : Config → List Done → List Edit
row_edits config dones = flat_map (step_edits config) dones

-- CHANGES: those that the act captured
abbrev pub captured_edits : Config → State → State → List Edit
captured_edits config before after =
    puts_of (map (change_record config) (drop (length before.changes) after.changes))

abbrev pub change_edits : Config → State → State → Act → List Edit
change_edits config before after (Wrote writer number rows) = captured_edits config before after
change_edits config before after (Loaded channel batch) = captured_edits config before after
change_edits config before after act = []

-- WRITERS: what is kept of the one that wrote
abbrev pub writer_edits : State → Act → List Edit
writer_edits after (Wrote writer number rows) =
    put_if (option_map writer_record (writer_of after.writers writer))
writer_edits after act = []

-- BATCHES: those that a routing run made; those whose standing acks changed
abbrev pub stands_anew : OutBatch × OutBatch → Bool
stands_anew at = not (same_standing at.0.standing at.1.standing)

abbrev pub changed_batches : State → State → List OutBatch
changed_batches before after = map (λ (at : OutBatch × OutBatch). at.1)
    (filter stands_anew (zip before.batches after.batches))

abbrev pub batch_edits : Config → State → State → Act → List Edit
batch_edits config before after Routed =
    puts_of (map (batch_record config) (drop (length before.batches) after.batches))
batch_edits config before after (Acked from acks) =
    puts_of (map (batch_record config) (changed_batches before after))
batch_edits config before after act = []

-- LANES: that of the batch that was loaded or that broke a rule
abbrev pub lane_edits : Config → State → Act → List Edit
lane_edits config after (Loaded channel batch) =
    put_edit (lane_record config (lane_of after.lanes batch.from channel)) ∷ []
lane_edits config after (Erred from channel error) =
    put_edit (lane_record config (lane_of after.lanes from channel)) ∷ []
lane_edits config after act = []

-- all of them, by the states before and after the act and the steps that it made
abbrev pub edits_between : Config → State → State → Act → List Done → List Edit
edits_between config before after act steps = peer_edits act ++ (opening_edits before act
    ++ (row_edits config steps ++ (change_edits config before after act
    ++ (writer_edits after act ++ (batch_edits config before after act
    ++ (lane_edits config after act ++ put_edit (count_record after.counts) ∷ []))))))

abbrev pub edits_of : Config → State → Act → List Edit
edits_of config state act =
    edits_between config state (state_after config state act) act (made_steps config state act)

use Rattle.std.proofs.Common.{◌≡◌, ◌∷◌, [], ◌++◌, map, ap, ◌∙◌}
use Rattle.sds_history.specs.history.Image.{count_records}
use Rattle.sds_history.specs.history.Records as stated
use Rattle.sds_history.specs.history.RowRecords.{change_record, row_record}
use Rattle.sds_image.specs.Pairs.{kept_pair, pairs}
use Rattle.sds_image.proofs.Gathering.{all_parts}
use Rattle.sds_image.proofs.records.gathered.Goals as goal

pub returns : goal.returns
returns c =
    let state = c.args.state.now in
    let config = c.args.config.now in
    let me : c.push_part.new.all.items ≡ kept_pair (stated.me_record state.me) ∷ [] = c.in_ok-push_part.ensures ∙ ap (λ xs. xs ++ kept_pair (stated.me_record state.me) ∷ []) c.new-all.ensures.items in
    let peers : c.push_peers.new.all.items ≡ c.push_counts.new.all.items ++ pairs (map stated.peer_record state.peers) =
    c.in_ok-push_peers.ensures ∙ ap (λ xs. c.push_counts.new.all.items ++ pairs (map stated.peer_record xs)) (c.deref.ensures.value ∙ c.inner.ensures) in
    let openings : c.push_openings.new.all.items ≡ c.push_peers.new.all.items ++ pairs (map stated.opening_record state.openings) =
    c.in_ok-push_openings.ensures ∙ ap (λ xs. c.push_peers.new.all.items ++ pairs (map stated.opening_record xs)) (c.deref-2.ensures.value ∙ c.inner-2.ensures) in
    let writers : c.push_writers.new.all.items ≡ c.push_openings.new.all.items ++ pairs (map stated.writer_record state.writers) =
    c.in_ok-push_writers.ensures ∙ ap (λ xs. c.push_openings.new.all.items ++ pairs (map stated.writer_record xs)) (c.deref-3.ensures.value ∙ c.inner-3.ensures) in
    let changes : c.push_changes.new.all.items ≡ c.push_tables.new.all.items ++ pairs (map (change_record config) state.changes) =
    c.in_ok-push_changes.ensures ∙ ap (λ xs. c.push_tables.new.all.items ++ pairs (map (change_record config) xs)) (c.deref-4.ensures.value ∙ c.inner-4.ensures) in
    let batches : c.push_batches.new.all.items ≡ c.push_changes.new.all.items ++ pairs (map (stated.batch_record config) state.batches) =
    c.in_ok-push_batches.ensures ∙ ap (λ xs. c.push_changes.new.all.items ++ pairs (map (stated.batch_record config) xs)) (c.deref-5.ensures.value ∙ c.inner-5.ensures) in
    let lanes : c.push_lanes.new.all.items ≡ c.push_batches.new.all.items ++ pairs (map (stated.lane_record config) state.lanes) =
    c.in_ok-push_lanes.ensures ∙ ap (λ xs. c.push_batches.new.all.items ++ pairs (map (stated.lane_record config) xs)) (c.deref-6.ensures.value ∙ c.inner-6.ensures) in
    all_parts (stated.me_record state.me) (count_records state.counts) (map stated.peer_record state.peers) (map stated.opening_record state.openings)
    (map stated.writer_record state.writers) (map (row_record config) state.tables.rows) (map (change_record config) state.changes)
    (map (stated.batch_record config) state.batches) (map (stated.lane_record config) state.lanes)
    _ _ _ _ _ _ _ _ _ me c.in_ok-push_counts.ensures peers openings writers c.in_ok-push_tables.ensures changes batches lanes

-- The edits of each act by the state before it alone.
use Rattle.std.proofs.Common.{◌≡◌, ℕ, suc, ◌+◌, List, [], ◌∷◌, ◌++◌, length, drop, map, Option, None, Some, refl, sym, ap, ◌∙◌, append_assoc}
use Rattle.std.specs.Prelude.{is_some, option_map}
use Rattle.std.specs.List.{cons_option, enumerate_from, filter_map}
use Rattle.std.proofs.lemmas.List.{length-map}
use Rattle.std.proofs.lemmas.List.FromFn.{length-enumerate_from}
use Rattle.std.proofs.Math.Nat.{add-zero}
use Rattle.std.proofs.Math.Seq.{drop-append_seam}
use Rattle.sds_outside.specs.declared.keeping.Edit.{Edit}
use Rattle.sds_types.specs.declared.config.Config.{Config}
use Rattle.sds_types.specs.declared.counts.WriterLast.{WriterLast}
use Rattle.sds_types.specs.declared.row.Change.{Change}
use Rattle.sds_types.specs.declared.tx_row.TxRow.{TxRow}
use Rattle.sds_trade.specs.rules.Captured.{Done, captured_channel, change_in, change_of, numbered_change}
use Rattle.sds_history.specs.history.Acts.{Act, State}
use Rattle.sds_history.specs.history.Acts.Act.{Wrote, Routed, Loaded, Erred}
use Rattle.sds_history.specs.history.Changes.{run_after}
use Rattle.sds_history.specs.history.Lanes.{lane_of}
use Rattle.sds_history.specs.history.Made.{next_batches}
use Rattle.sds_history.specs.history.Records.{batch_record, lane_record, writer_record}
use Rattle.sds_history.specs.history.RowRecords.{change_record}
use Rattle.sds_history.specs.history.Runs.{Run, captured_in, dones_of, source_of}
use Rattle.sds_imagelaws.specs.ActEdits.{EditsOfErrors, EditsOfLoads, EditsOfRoutes, EditsOfWrites, count_edit, loaded_lane}
use Rattle.sds_records.specs.Parts.{put_edit}
use Rattle.sds_imagelaws.specs.Edits.{made_steps, put_if, puts_of, row_edits}
use Rattle.sds_imagelaws.proofs.BatchSteps.{found_passes, lane_found, lane_itself, quiet_all}
use Rattle.sds_imagelaws.proofs.PartSteps.{writer_found}

-- HOW MANY CHANGES a run captures doesn't depend on their numbers
same_count : (config : Config) (group : List ℕ) (tx other : ℕ) (source : Option (List ℕ)) (dones : List Done)
    → length (filter_map (change_of config group tx source) dones) ≡ length (filter_map (change_of config group other source) dones)
same_count config group tx other source [] = refl
same_count config group tx other source (done ∷ dones) =
    on (captured_channel config group (is_some source) done.step) (filter_map (change_of config group tx source) dones)
    (filter_map (change_of config group other source) dones) (same_count config group tx other source dones)
  where
    on : (found : Option ℕ) (xs ys : List Change) → length xs ≡ length ys
        → length (cons_option (option_map (change_in tx source done) found) xs) ≡ length (cons_option (option_map (change_in other source done) found) ys)
    on None xs ys same = same
    on (Some channel) xs ys same = ap (λ n. suc n) same

pub numbered_count : (first : ℕ) (changes : List Change) → length (map numbered_change (enumerate_from first changes)) ≡ length changes
numbered_count first changes = length-map (enumerate_from first changes) numbered_change ∙ length-enumerate_from first changes

captured_count : (config : Config) (state : State) (first tx : ℕ) (run : Run)
    → length (captured_in config state 0 0 run) ≡ length (captured_in config state first tx run)
captured_count config state first tx run =
    numbered_count 0 (filter_map (change_of config state.me.group 0 (source_of run.act)) (dones_of run.end))
    ∙ (same_count config state.me.group 0 tx (source_of run.act) (dones_of run.end)
    ∙ sym (numbered_count first (filter_map (change_of config state.me.group tx (source_of run.act)) (dones_of run.end))))

-- A RUN'S EDITS, and those after them
run_with : (config : Config) (rows : List Edit) (changes captured : List Change) (last : List Edit)
    → rows ++ (puts_of (map (change_record config) (drop (length changes) (changes ++ captured))) ++ last)
    ≡ (rows ++ puts_of (map (change_record config) captured)) ++ last
run_with config rows changes captured last =
    ap (λ list. rows ++ (puts_of (map (change_record config) list) ++ last)) (drop-append_seam changes captured)
    ∙ sym (append_assoc rows (puts_of (map (change_record config) captured)) last)

-- what a run has captured whose first change has this number, and the edits of a write and of a load by it
abbrev numbered_by : Config → State → Act → ℕ → List Change
numbered_by config state act first = captured_in config state first (state.counts.last_tx + 1) (run_after config state [] act)

abbrev rows_and_changes : Config → State → Act → ℕ → List Edit
rows_and_changes config state act first =
    row_edits config (made_steps config state act) ++ puts_of (map (change_record config) (numbered_by config state act first))

abbrev write_by : Config → State → List ℕ → ℕ → List TxRow → ℕ → List Edit
write_by config state writer number rows last = let act = Wrote writer number rows in
    rows_and_changes config state act (last + 1)
    ++ put_edit (writer_record (record { writer = writer; number = number; first = last + 1; count = length (numbered_by config state act (last + 1)) }))
    ∷ (count_edit config state act ∷ [])

pub edits_of_writes : EditsOfWrites
edits_of_writes config state writer number rows =
    let act = Wrote writer number rows in
    let run = run_after config state [] act in
    let last = state.counts.last_change + 0 in
    let captured = numbered_by config state act (last + 1) in
    let found : WriterLast = record { writer = writer; number = number; first = last + 1; count = length (captured_in config state 0 0 run) } in
    ap (λ kept. row_edits config (made_steps config state act) ++ (puts_of (map (change_record config) (drop (length state.changes) (state.changes ++ captured)))
    ++ (put_if (option_map writer_record kept) ++ count_edit config state act ∷ []))) (writer_found state.writers found)
    ∙ (run_with config (row_edits config (made_steps config state act)) state.changes captured (put_edit (writer_record found) ∷ (count_edit config state act ∷ []))
    ∙ (ap (λ n. rows_and_changes config state act (last + 1) ++ put_edit (writer_record (record found { count = n })) ∷ (count_edit config state act ∷ []))
    (captured_count config state (last + 1) (state.counts.last_tx + 1) run)
    ∙ ap (write_by config state writer number rows) (add-zero state.counts.last_change)))

pub edits_of_loads : EditsOfLoads
edits_of_loads config state channel batch =
    let act = Loaded channel batch in
    let last = state.counts.last_change + 0 in
    let captured = numbered_by config state act (last + 1) in
    let new = loaded_lane config state channel batch in
    ap (λ lane. row_edits config (made_steps config state act) ++ (puts_of (map (change_record config) (drop (length state.changes) (state.changes ++ captured)))
    ++ put_edit (lane_record config lane) ∷ (count_edit config state act ∷ [])))
    (lane_found config batch.from channel state.lanes new (lane_itself config batch.from channel))
    ∙ (run_with config (row_edits config (made_steps config state act)) state.changes captured (put_edit (lane_record config new) ∷ (count_edit config state act ∷ []))
    ∙ ap (λ n. rows_and_changes config state act (n + 1) ++ put_edit (lane_record config new) ∷ (count_edit config state act ∷ []))
    (add-zero state.counts.last_change))

pub edits_of_errors : EditsOfErrors
edits_of_errors config state from channel error =
    ap (λ lane. put_edit (lane_record config lane) ∷ (count_edit config state (Erred from channel error) ∷ []))
    (lane_found config from channel state.lanes (record (lane_of state.lanes from channel) { error = Some error }) (found_passes config from channel state.lanes))

pub edits_of_routes : EditsOfRoutes
edits_of_routes config state =
    let made = next_batches config state (state.counts.last_batch + 0 + 1) [] in
    ap (λ batches. puts_of (map (batch_record config) (drop (length state.batches) batches)) ++ count_edit config state Routed ∷ [])
    (quiet_all (state.batches ++ made) (Routed ∷ []) (state.batches ++ made) (λ peer. refl))
    ∙ (ap (λ batches. puts_of (map (batch_record config) batches) ++ count_edit config state Routed ∷ []) (drop-append_seam state.batches made)
    ∙ ap (λ n. puts_of (map (batch_record config) (next_batches config state (n + 1) [])) ++ count_edit config state Routed ∷ []) (add-zero state.counts.last_batch))

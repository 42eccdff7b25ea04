-- The numbers that acts leave have their widths: ids are counted, rows are told by the calls.
use Rattle.std.proofs.Common.{◌≡◌, ℕ, suc, ◌+◌, ◌<◌, ◌≤◌, ◌^◌, ◌&&◌, ◌||◌, Bool, true, false, cond, List, [], ◌∷◌, ◌++◌, length, map, Option, None, Some, Result, Ok, Err, refl, sym, subst, arith, All, get_or, filter}
use Rattle.std.specs.Prelude.{IfSome, nat_le, nat_lt}
use Rattle.std.specs.List.{cons_option, enumerate_from, filter_map, list_all, list_any}
use Rattle.std.specs.Option.{option_map_or}
use Rattle.std.specs.Str.{bytes_eq}
use Rattle.std.proofs.lemmas.List.Elements.{All-append, All-cons, All-nil}
use Rattle.std.proofs.lemmas.List.FromFn.{length-enumerate_from}
use Rattle.std.proofs.lemmas.List.Sums.{AllPass-from_list_all}
use Rattle.sds_value.specs.declared.table.TableDef.{TableDef}
use Rattle.sds_types.specs.Limits.{most_channels, most_count, most_write_rows}
use Rattle.sds_types.specs.declared.ack.Ack.{Ack}
use Rattle.sds_types.specs.declared.batch.OutBatch.{OutBatch}
use Rattle.sds_types.specs.declared.batch.Standing.{Standing}
use Rattle.sds_types.specs.declared.batch.Standing.TheVariants as standing
use Rattle.sds_types.specs.declared.config.Config.{Config}
use Rattle.sds_types.specs.declared.conflict.Resolution.{Resolution}
use Rattle.sds_types.specs.declared.conflict.Resolution.TheVariants.{Apply, SkipRow, SkipBatch, Broken}
use Rattle.sds_types.specs.declared.counts.WriterLast.{WriterLast}
use Rattle.sds_types.specs.declared.lane.LaneError.{LaneError}
use Rattle.sds_types.specs.declared.lane.LaneIn.{LaneIn}
use Rattle.sds_types.specs.declared.load_answer.LoadAnswer.{LoadAnswer}
use Rattle.sds_types.specs.declared.load_answer.LoadAnswer.TheVariants as answer
use Rattle.sds_types.specs.declared.load_answer.PeerRefusal.TheVariants as refused
use Rattle.sds_types.specs.declared.load_row.LoadRow.{LoadRow}
use Rattle.sds_types.specs.declared.prepared.Body.{Body}
use Rattle.sds_types.specs.declared.prepared.Body.TheVariants as body
use Rattle.sds_types.specs.declared.prepared.Prepared.{Prepared}
use Rattle.sds_types.specs.declared.row.RowStep.{RowStep}
use Rattle.sds_types.specs.declared.row.TableRow.{TableRow}
use Rattle.sds_types.specs.declared.tx_row.TxRow.{TxRow}
use Rattle.sds_types.specs.declared.write_answer.WriteRefusal.{WriteRefusal}
use Rattle.sds_types.specs.declared.write_answer.WriteRefusal.TheVariants.{TooManyRows}
use Rattle.sds_types.specs.declared.write_answer.Written.{Written}
use Rattle.sds_trade.proofs.Lists.{all_head, all_tail}
use Rattle.sds_trade.specs.rules.Captured.{Done, change_of, overflows}
use Rattle.sds_trade.specs.rules.Outcomes.{batch_judge, by_body, by_channel, with_number}
use Rattle.sds_trade.specs.rules.OwnWrites.{own_judge}
use Rattle.sds_trade.specs.rules.Runs.{RunEnd, by_step_rules, done_of, run, with_done}
use Rattle.sds_trade.specs.rules.Runs.RunEnd.{Made, Ignored, Refused}
use Rattle.sds_trade.specs.rules.Sound.{IsSound}
use Rattle.sds_trade.specs.rules.Steps.{rows_after}
use Rattle.sds_history.specs.history.Acts.{Act, State}
use Rattle.sds_history.specs.history.Acts.Act.{Opened, Joined, Confirmed, Wrote, Routed, Loaded, Erred, Acked}
use Rattle.sds_history.specs.history.Changes.{run_after, waiting_after}
use Rattle.sds_history.specs.history.Lanes.{is_ignored, lane_key, lane_of}
use Rattle.sds_history.specs.history.Loads.{channel_answer, ended_answer, error_answer, keeps_error, knows_sender, load_act, load_by, load_of, next_load, outcome_answer}
use Rattle.sds_history.specs.history.Made.{out_batch}
use Rattle.sds_history.specs.history.Runs.{captured_in, dones_of, last_change_after}
use Rattle.sds_history.specs.history.SoundParts.{error_is_within, is_batch, is_lane_of, is_standing, most_rule}
use Rattle.sds_history.specs.history.SoundStates.{IsSoundState, error_is_later, is_counted, is_counted_batch, is_counted_writer, is_kept, is_peer_of, is_sound_lane}
use Rattle.sds_history.specs.history.Standings.{acks_from, acks_in, erred_by, is_acked, is_error_of, is_ok_for, last_error, with_standing}
use Rattle.sds_history.specs.history.States.{state_after}
use Rattle.sds_history.specs.history.Writers.{writer_key, writer_of}
use Rattle.sds_history.specs.history.Writes.{next_write, numbered_answer, waiting_in, write_act, write_by}
use Rattle.sds_records.specs.Told.{IsHeldBatch, IsHeldError, IsHeldLane, IsHeldStanding, IsHeldWriter, IsNarrow, IsWide}
use Rattle.sds_nodelaws.specs.Calls.{Call, act_of}
use Rattle.sds_nodelaws.specs.Calls.Call.{Write, Route, Load, TakeAcks, Open, Register, Join, Confirm}
use Rattle.sds_nodelaws.proofs.CallActs.{acks_is, confirm_is, join_is, open_is, register_is, route_is, write_is}
use Rattle.sds_nodelaws.proofs.Held.{mapped}
use Rattle.sds_nodelaws.proofs.KeyedLists.{item_all}
use Rattle.sds_nodelaws.proofs.Lists.{all_flat, and_left, and_right, filter_all, from_le, from_lt, from_not_lt, map_all}
use Rattle.sds_nodelaws.proofs.Made.{nothing, same_act, was_within}
use Rattle.sds_nodelaws.proofs.NodeFacts.{added, peers_in, run_batches}
use Rattle.sds_nodelaws.proofs.SoundActs.{calls_keep_states_sound}
use Rattle.sds_imagelaws.specs.Reading.{AreHeld}
use Rattle.sds_imagelaws.specs.Widths.{ActsKeepWidths, IsHeldAck, IsHeldBody, IsHeldCall}
use Rattle.sds_imagelaws.proofs.ActEdits.{numbered_count}
use Rattle.sds_imagelaws.proofs.PartSteps.{counted_small}
use Rattle.sds_imagelaws.proofs.SoundFits.{kept_small, small_by, writer_fits}

-- WHAT ISN'T COUNTED: how many changes a write has, and the rows of errors
abbrev CountIsNarrow : WriterLast → Type 0
CountIsNarrow last = IsNarrow last.count

abbrev RowIsNarrow : Standing → Type 0
RowIsNarrow (standing.Erred row rule) = IsNarrow row
RowIsNarrow standing.New = Unit {0}
RowIsNarrow standing.Acked = Unit {0}

abbrev StandsNarrow : OutBatch → Type 0
StandsNarrow batch = RowIsNarrow batch.standing

abbrev ErrorIsNarrow : LaneIn → Type 0
ErrorIsNarrow lane = IfSome lane.error (λ (error : LaneError). IsNarrow error.row)

record AreNarrow (state : State) : Type 0 where
  writers : All CountIsNarrow state.writers
  batches : All StandsNarrow state.batches
  lanes : All ErrorIsNarrow state.lanes

were_narrow : (state : State) → AreHeld state → AreNarrow state
were_narrow state held = record {
  writers = mapped IsHeldWriter CountIsNarrow state.writers (λ l is. is.1.1) held.writers;
  batches = mapped IsHeldBatch StandsNarrow state.batches (λ b is. row b.standing is.1.1.0) held.batches;
  lanes = mapped IsHeldLane ErrorIsNarrow state.lanes (λ l is. error_row l.error is.1.1) held.lanes;
}
  where
    row : (s : Standing) → IsHeldStanding s → RowIsNarrow s
    row standing.New is = tt
    row standing.Acked is = tt
    row (standing.Erred number rule) is = is.0

    error_row : (error : Option LaneError) → IfSome error IsHeldError → IfSome error (λ (e : LaneError). IsNarrow e.row)
    error_row None is = tt
    error_row (Some error) is = is.1

-- WHAT IS COUNTED of a sound state has its widths
module _ (config : Config) (sound : IsSound config) (state : State) (are : IsSoundState config state) where
  narrow_channel : (channel : ℕ) → nat_lt channel (length config.channels) ≡ true → IsNarrow channel
  narrow_channel channel is = few_places channel (length config.channels) (from_lt channel (length config.channels) is) sound.channels.few
    where
      few_places : (n few : ℕ) → n < few → few ≤ most_channels → n < 2 ^ 32
      few_places n few less low = omega (arith, less, low)

  wide_count : (n : ℕ) → nat_le n most_count ≡ true → IsWide n
  wide_count n is = small_by n most_count (omega arith) is

  writer_held : (last : WriterLast) → is_counted_writer state.counts last ≡ true → CountIsNarrow last → IsHeldWriter last
  writer_held last is narrow = let fit = writer_fits config sound state are last is in (fit.number, (fit.first, narrow))

  standing_held : (s : Standing) → is_standing s ≡ true → RowIsNarrow s → IsHeldStanding s
  standing_held standing.New is row = tt
  standing_held standing.Acked is row = tt
  standing_held (standing.Erred row rule) is narrow = (narrow, few_rules rule (from_le rule most_rule (and_right (nat_le 1 rule) (nat_le rule most_rule) is)))
    where
      few_rules : (n : ℕ) → n ≤ most_rule → n < 256
      few_rules n few = omega (arith, few)

  batch_held : (batch : OutBatch) → is_batch config batch ≡ true → is_counted_batch state batch ≡ true → StandsNarrow batch → IsHeldBatch batch
  batch_held batch fits counted row =
      let goes = and_right (is_counted state.counts.last_batch batch.id) (is_peer_of state batch.peer && list_all (is_kept state) batch.changes) counted in (
        counted_small state.counts.last_batch batch.id are.counts.last_batch
            (and_left (is_counted state.counts.last_batch batch.id) (is_peer_of state batch.peer && list_all (is_kept state) batch.changes) counted),
        (
          narrow_channel batch.channel (and_left (nat_lt batch.channel (length config.channels)) (is_standing batch.standing) fits),
          (
            standing_held batch.standing (and_right (nat_lt batch.channel (length config.channels)) (is_standing batch.standing) fits) row,
            mapped (λ (n : ℕ). is_kept state n ≡ true) IsWide batch.changes (λ n kept. kept_small config sound state are n kept)
                (AllPass-from_list_all (is_kept state) batch.changes (and_right (is_peer_of state batch.peer) (list_all (is_kept state) batch.changes) goes)),
          ),
        ),
      )

  error_held : (error : Option LaneError) → option_map_or (λ (e : LaneError). nat_le e.batch most_count) error true ≡ true
      → IfSome error (λ (e : LaneError). IsNarrow e.row) → IfSome error IsHeldError
  error_held None within row = tt
  error_held (Some error) within row = (wide_count error.batch within, row)

  lane_held : (lane : LaneIn) → is_sound_lane config state lane ≡ true → ErrorIsNarrow lane → IsHeldLane lane
  lane_held lane is row =
      let own = and_left (is_lane_of config lane) (is_peer_of state lane.peer && error_is_later lane) is in
      let numbers = and_right (nat_lt lane.channel (length config.channels)) (nat_le lane.highest most_count && error_is_within lane) own in (
        narrow_channel lane.channel (and_left (nat_lt lane.channel (length config.channels)) (nat_le lane.highest most_count && error_is_within lane) own),
        (
          wide_count lane.highest (and_left (nat_le lane.highest most_count) (error_is_within lane) numbers),
          error_held lane.error (and_right (nat_le lane.highest most_count) (error_is_within lane) numbers) row,
        ),
      )

  all_held : AreNarrow state → AreHeld state
  all_held narrow = record {
    writers = λ k d within. writer_held (get_or state.writers k d)
        (AllPass-from_list_all (is_counted_writer state.counts) state.writers are.writers k d within) (narrow.writers k d within);
    batches = λ k d within. batch_held (get_or state.batches k d)
        (AllPass-from_list_all (is_batch config) state.batches are.batches k d within)
        (AllPass-from_list_all (is_counted_batch state) state.batches are.sent k d within) (narrow.batches k d within);
    lanes = λ k d within. lane_held (get_or state.lanes k d)
        (AllPass-from_list_all (is_sound_lane config state) state.lanes are.lanes k d within) (narrow.lanes k d within);
  }

-- A RUN of numbered rows ends with at most as many steps as rows, or at the number of a row
module _ (P : ℕ → Type 0) where
  abbrev EndsSo : ℕ → RunEnd → Type 0
  EndsSo count (Made dones rows) = length dones ≤ count
  EndsSo count Ignored = Unit {0}
  EndsSo count (Refused number rule) = P number

  row_more : (count : ℕ) (end : RunEnd) → EndsSo count end → EndsSo (suc count) end
  row_more count (Made dones rows) few = omega (arith, few)
  row_more count Ignored is = tt
  row_more count (Refused number rule) is = is

  step_more : (count : ℕ) (done : Done) (end : RunEnd) → EndsSo count end → EndsSo (suc count) (with_done done end)
  step_more count done (Made dones rows) few = omega (arith, few)
  step_more count done Ignored is = tt
  step_more count done (Refused number rule) is = is

  run_ends : {R : Type 0} (defs : List TableDef) (overflow : RowStep → Bool) (judge : List TableRow → R → Resolution) (list : List (ℕ × R))
      → All (λ (at : ℕ × R). P at.0) list → (rows : List TableRow) → EndsSo (length list) (run defs overflow judge rows list)
  run_ends defs overflow judge [] each rows = omega arith
  run_ends {R} defs overflow judge (next ∷ later) each rows =
      on (by_step_rules defs overflow rows (judge rows next.1))
      (λ from. run_ends defs overflow judge later (all_tail (λ (at : ℕ × R). P at.0) next later each) from)
    where
      on : (r : Resolution) → ((from : List TableRow) → EndsSo (length later) (run defs overflow judge from later)) → EndsSo (suc (length later)) (elim r [
        | Apply step ↦ with_done (done_of defs rows step) (run defs overflow judge (rows_after defs rows step) later)
        | SkipRow ↦ run defs overflow judge rows later
        | SkipBatch ↦ Ignored
        | Broken rule ↦ Refused next.0 rule
      ])
      on (Apply step) rest =
          step_more (length later) (done_of defs rows step) (run defs overflow judge (rows_after defs rows step) later) (rest (rows_after defs rows step))
      on SkipRow rest = row_more (length later) (run defs overflow judge rows later) (rest rows)
      on SkipBatch rest = tt
      on (Broken rule) rest = all_head (λ (at : ℕ × R). P at.0) next later each

  end_few : (count : ℕ) (end : RunEnd) → EndsSo count end → length (dones_of (Some end)) ≤ count
  end_few count (Made dones rows) few = few
  end_few count Ignored is = omega arith
  end_few count (Refused number rule) is = omega arith

-- WRITES capture at most as many changes as they have rows
few_kept : {X Y : Type 0} (f : X → Option Y) (xs : List X) → length (filter_map f xs) ≤ length xs
few_kept f [] = omega arith
few_kept {Y = Y} f (x ∷ xs) = on (f x) (few_kept f xs)
  where
    on : (o : Option Y) → length (filter_map f xs) ≤ length xs → length (cons_option o (filter_map f xs)) ≤ suc (length xs)
    on None few = omega (arith, few)
    on (Some y) few = omega (arith, few)

write_count : (config : Config) (state : State) (writer : List ℕ) (number : ℕ) (rows : List TxRow) → length rows ≤ most_write_rows
    → IsNarrow (length (captured_in config state 0 0 (run_after config state [] (Wrote writer number rows))))
write_count config state writer number rows few =
    let end = (run_after config state [] (Wrote writer number rows)).end in
    let group = state.me.group in
    narrow (length (captured_in config state 0 0 (run_after config state [] (Wrote writer number rows)))) (length (filter_map (change_of config group 0 None) (dones_of end)))
    (length (dones_of end)) (length (enumerate_from 1 rows)) (length rows)
    (numbered_count 0 (filter_map (change_of config group 0 None) (dones_of end)))
    (few_kept (change_of config group 0 None) (dones_of end))
    (end_few (λ n. Unit {0}) (length (enumerate_from 1 rows)) _
    (run_ends (λ n. Unit {0}) config.tables (overflows config group false (waiting_after config state [])) (own_judge config.tables) (enumerate_from 1 rows) (λ k d within. tt) state.tables))
    (length-enumerate_from 1 rows) few
  where
    narrow : (captured found done numbered all : ℕ) → captured ≡ found → found ≤ done → done ≤ numbered → numbered ≡ all → all ≤ most_write_rows → captured < 2 ^ 32
    narrow captured found done numbered all is few less same most = omega (arith, is, few, less, same, most)

-- BATCHES. What acks tell of errors, where their rows are of 32 bits, and new batches
row_told : (acks : List Ack) (before : Standing) → All IsHeldAck acks → RowIsNarrow before → RowIsNarrow (last_error acks before)
row_told [] before are is = is
row_told (ack ∷ acks) before are is = on ack.error (all_head IsHeldAck ack acks are)
  where
    on : (error : Option (ℕ × ℕ)) → IfSome error (λ (e : ℕ × ℕ). IsNarrow e.0) → RowIsNarrow (erred_by error before)
    on None narrow = is
    on (Some error) narrow = narrow

row_stands : (batches : List OutBatch) (acts : List Act) (batch : OutBatch) → All IsHeldAck (acks_from acts batch.peer) → StandsNarrow batch
    → StandsNarrow (with_standing batches acts batch)
row_stands batches acts batch are is = on (is_acked batch.standing || list_any (is_ok_for batches batch) (acks_from acts batch.peer))
  where
    on : (t : Bool) → RowIsNarrow (cond t standing.Acked (last_error (filter (is_error_of batch) (acks_from acts batch.peer)) batch.standing))
    on true = tt
    on false = row_told (filter (is_error_of batch) (acks_from acts batch.peer)) batch.standing
        (filter_all IsHeldAck (is_error_of batch) (acks_from acts batch.peer) are) is

new_stand : (config : Config) (state : State) (act : Act) → All StandsNarrow (added config state act)
new_stand config state Routed = map_all StandsNarrow (out_batch (peers_in state)) (run_batches config state) (λ k d within. tt)
new_stand config state (Opened group external token) = All-nil StandsNarrow
new_stand config state (Joined kept) = All-nil StandsNarrow
new_stand config state (Confirmed peer) = All-nil StandsNarrow
new_stand config state (Wrote writer number rows) = All-nil StandsNarrow
new_stand config state (Loaded channel batch) = All-nil StandsNarrow
new_stand config state (Erred from channel error) = All-nil StandsNarrow
new_stand config state (Acked from acks) = All-nil StandsNarrow

-- ACTS. What holds of the numbers of an act
abbrev Numbers : Act → Type 0
Numbers (Wrote writer number rows) = length rows ≤ most_write_rows
Numbers (Erred from channel error) = IsNarrow error.row
Numbers (Acked from acks) = All IsHeldAck acks
Numbers act = Unit {0}

acks_narrow : (act : Act) (peer : List ℕ) → Numbers act → All IsHeldAck (acks_in peer act)
acks_narrow (Acked from acks) peer are = on (bytes_eq from peer)
  where
    on : (b : Bool) → All IsHeldAck (cond b acks [])
    on true = are
    on false = All-nil IsHeldAck
acks_narrow (Opened group external token) peer are = All-nil IsHeldAck
acks_narrow (Joined kept) peer are = All-nil IsHeldAck
acks_narrow (Confirmed node) peer are = All-nil IsHeldAck
acks_narrow (Wrote writer number rows) peer are = All-nil IsHeldAck
acks_narrow Routed peer are = All-nil IsHeldAck
acks_narrow (Loaded channel batch) peer are = All-nil IsHeldAck
acks_narrow (Erred from channel error) peer are = All-nil IsHeldAck

batches_stand : (config : Config) (state : State) (act : Act) → Numbers act → All StandsNarrow state.batches → All StandsNarrow (state_after config state act).batches
batches_stand config state act are before =
    let all = state.batches ++ added config state act in
    map_all StandsNarrow (with_standing all (act ∷ [])) all
    (mapped StandsNarrow (λ (b : OutBatch). StandsNarrow (with_standing all (act ∷ []) b)) all
    (λ b is. row_stands all (act ∷ []) b
    (all_flat IsHeldAck (acks_in b.peer) (act ∷ [])
    (All-cons (λ (a : Act). All IsHeldAck (acks_in b.peer a)) act [] (acks_narrow act b.peer are) (All-nil (λ (a : Act). All IsHeldAck (acks_in b.peer a))))) is)
    (All-append StandsNarrow state.batches (added config state act) before (new_stand config state act)))

writers_narrow : (config : Config) (state : State) (act : Act) → Numbers act → All CountIsNarrow state.writers → All CountIsNarrow (state_after config state act).writers
writers_narrow config state (Wrote writer number rows) few are =
    item_all CountIsNarrow writer_key (record {
      writer = writer;
      number = number;
      first = last_change_after config state [] + 1;
      count = length (captured_in config state 0 0 (run_after config state [] (Wrote writer number rows)));
    }) state.writers (write_count config state writer number rows few) are
writers_narrow config state (Opened group external token) few are = are
writers_narrow config state (Joined kept) few are = are
writers_narrow config state (Confirmed peer) few are = are
writers_narrow config state Routed few are = are
writers_narrow config state (Loaded channel batch) few are = are
writers_narrow config state (Erred from channel error) few are = are
writers_narrow config state (Acked from acks) few are = are

lanes_narrow : (config : Config) (state : State) (act : Act) → Numbers act → All ErrorIsNarrow state.lanes → All ErrorIsNarrow (state_after config state act).lanes
lanes_narrow config state (Loaded channel batch) narrow are =
    item_all ErrorIsNarrow (lane_key config) (record {
      peer = batch.from;
      channel = channel;
      highest = batch.batch;
      ignored = Some (is_ignored (run_after config state [] (Loaded channel batch)).end);
      error = None;
    }) state.lanes tt are
lanes_narrow config state (Erred from channel error) narrow are =
    item_all ErrorIsNarrow (lane_key config) (record (lane_of state.lanes from channel) { error = Some error }) state.lanes narrow are
lanes_narrow config state (Opened group external token) narrow are = are
lanes_narrow config state (Joined kept) narrow are = are
lanes_narrow config state (Confirmed peer) narrow are = are
lanes_narrow config state (Wrote writer number rows) narrow are = are
lanes_narrow config state Routed narrow are = are
lanes_narrow config state (Acked from acks) narrow are = are

acts_narrow : (config : Config) (state : State) (act : Act) → Numbers act → AreNarrow state → AreNarrow (state_after config state act)
acts_narrow config state act numbers before = record {
  writers = writers_narrow config state act numbers before.writers;
  batches = batches_stand config state act numbers before.batches;
  lanes = lanes_narrow config state act numbers before.lanes;
}

-- LOADS are refused at a row of the batch
abbrev AnswerIsNarrow : LoadAnswer → Type 0
AnswerIsNarrow (answer.Erred row rule) = IsNarrow row
AnswerIsNarrow (answer.Loaded place) = Unit {0}
AnswerIsNarrow (answer.Ignored place) = Unit {0}
AnswerIsNarrow answer.Again = Unit {0}
AnswerIsNarrow (answer.Held held row rule) = Unit {0}

ended_narrow : (state : State) (count : ℕ) (end : RunEnd) → EndsSo IsNarrow count end → AnswerIsNarrow (ended_answer state end)
ended_narrow state count (Made dones rows) is = tt
ended_narrow state count Ignored is = tt
ended_narrow state count (Refused number rule) is = is

module _ (config : Config) (state : State) (from : List ℕ) (batch : Prepared) (held : IsHeldBody batch.body) where
  body_narrow : (made : Body) → IsHeldBody made
      → AnswerIsNarrow (ended_answer state (by_body config state.me.group (waiting_in state) state.tables batch made))
  body_narrow (body.Broken number rule) narrow = narrow
  body_narrow (body.Rows rows) narrow =
      ended_narrow state (length (map with_number rows)) _
      (run_ends IsNarrow config.tables (overflows config state.me.group true (waiting_in state)) (batch_judge config batch) (map with_number rows)
      (map_all (λ (at : ℕ × LoadRow). IsNarrow at.0) with_number rows narrow) state.tables)

  outcome_narrow : (channel : Option ℕ)
      → AnswerIsNarrow (ended_answer state (by_channel config state.me.group (waiting_in state) state.tables batch channel))
  outcome_narrow None = omega arith
  outcome_narrow (Some channel) = body_narrow batch.body held

  error_narrow : (error : Option LaneError) → AnswerIsNarrow (error_answer config state batch error)
  error_narrow None = outcome_narrow batch.channel
  error_narrow (Some error) = on (nat_lt error.batch batch.batch)
    where
      on : (b : Bool) → AnswerIsNarrow (cond b (answer.Held error.batch error.row error.rule) (outcome_answer config state batch))
      on true = tt
      on false = outcome_narrow batch.channel

  channel_narrow : (channel : Option ℕ) → AnswerIsNarrow (channel_answer config state from batch channel)
  channel_narrow None = omega arith
  channel_narrow (Some channel) = on (nat_le batch.batch (lane_of state.lanes from channel).highest)
    where
      on : (b : Bool) → AnswerIsNarrow (cond b answer.Again (error_answer config state batch (lane_of state.lanes from channel).error))
      on true = tt
      on false = error_narrow (lane_of state.lanes from channel).error

  act_narrow : (channel : ℕ) (told : LoadAnswer) (act : Act) → AnswerIsNarrow told → load_by state from batch channel told ≡ Some act → Numbers act
  act_narrow channel (answer.Loaded place) act narrow made = subst Numbers (same_act (Loaded channel batch) act made) tt
  act_narrow channel (answer.Ignored place) act narrow made = subst Numbers (same_act (Loaded channel batch) act made) tt
  act_narrow channel answer.Again act narrow made = nothing act made
  act_narrow channel (answer.Held held row rule) act narrow made = nothing act made
  act_narrow channel (answer.Erred row rule) act narrow made =
      on (keeps_error (lane_of state.lanes from channel) (record { batch = batch.batch; row = row; rule = rule })) made
    where
      on : (b : Bool) → cond b None (Some (Erred from channel (record { batch = batch.batch; row = row; rule = rule }))) ≡ Some act → Numbers act
      on true made = nothing act made
      on false made = subst Numbers (same_act (Erred from channel (record { batch = batch.batch; row = row; rule = rule })) act made) narrow

  load_narrow : (act : Act) → load_act config state from batch ≡ Some act → Numbers act
  load_narrow act is =
      on batch.channel (knows_sender state from batch) (channel_answer config state from batch batch.channel) (channel_narrow batch.channel)
      (was_within config state (next_load config state from batch) act is)
    where
      on : (channel : Option ℕ) (knows : Bool) (told : LoadAnswer) → AnswerIsNarrow told
          → load_of state from batch channel (cond knows (Ok told) (Err refused.UnknownNode)) ≡ Some act → Numbers act
      on None knows told narrow made = nothing act made
      on (Some channel) true told narrow made = act_narrow channel told act narrow made
      on (Some channel) false told narrow made = nothing act made

-- WRITES that are made have at most as many rows as a write may have
write_few : (config : Config) (state : State) (writer : List ℕ) (number : ℕ) (rows : List TxRow) (act : Act) → write_act config state writer number rows ≡ Some act
    → length rows ≤ most_write_rows
write_few config state writer number rows act is =
    on (nat_lt most_write_rows (length rows)) refl (numbered_answer config state writer number rows (writer_of state.writers writer))
    (was_within config state (next_write config state writer number rows) act is)
  where
    on : (b : Bool) → nat_lt most_write_rows (length rows) ≡ b → (told : Result Written WriteRefusal)
        → write_by (Wrote writer number rows) (cond b (Err TooManyRows) told) ≡ Some act → length rows ≤ most_write_rows
    on true is told made = nothing act made
    on false is told made = from_not_lt most_write_rows (length rows) is

-- ALL CALLS
act_numbers : (config : Config) (state : State) (call : Call) (act : Act) → IsHeldCall call → act_of config state call ≡ Some act → Numbers act
act_numbers config state (Write writer number rows) act held is =
    subst Numbers (sym (write_is config state writer number rows act is)) (write_few config state writer number rows act is)
act_numbers config state Route act held is = subst Numbers (sym (route_is config state act is)) tt
act_numbers config state (Load from batch) act held is = load_narrow config state from batch held act is
act_numbers config state (TakeAcks from acks) act held is = subst Numbers (sym (acks_is config state from acks act is)) held
act_numbers config state (Open group external noise) act held is = subst Numbers (sym (open_is config state group external noise act is)) tt
act_numbers config state (Register asks) act held is = subst Numbers (sym (register_is config state asks act is).is) tt
act_numbers config state (Join other token) act held is = subst Numbers (sym (join_is config state other token act is).is) tt
act_numbers config state (Confirm peer) act held is = subst Numbers (sym (confirm_is config state peer act is)) tt

pub acts_keep_widths : ActsKeepWidths
acts_keep_widths config state call act sound are held asked numbers is =
    all_held config sound (state_after config state act) (calls_keep_states_sound config sound state are call asked act is)
    (acts_narrow config state act (act_numbers config state call act numbers is) (were_narrow state held))

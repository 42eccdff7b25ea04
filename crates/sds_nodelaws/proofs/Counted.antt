-- Counters never fall, and what is numbered is numbered on.
use Rattle.std.proofs.Common.{◌≡◌, ℕ, zero, suc, ◌+◌, ◌≤◌, List, [], ◌∷◌, ◌++◌, length, map, Option, None, Some, refl, sym, ap, subst, ◌∙◌, arith, filter_map, option_map, append_assoc, append-nil}
use Rattle.std.specs.Prelude.{is_some}
use Rattle.std.specs.List.{cons_option, enumerate_from, range_with_len}
use Rattle.std.proofs.lemmas.List.{length-append, length-map, map-append}
use Rattle.std.proofs.lemmas.List.FromFn.{length-enumerate_from}
use Rattle.sds_value.specs.declared.row.Peer.{Peer}
use Rattle.sds_types.specs.declared.batch.NewBatch.{NewBatch}
use Rattle.sds_types.specs.declared.batch.OutBatch.{OutBatch}
use Rattle.sds_types.specs.declared.config.Config.{Config}
use Rattle.sds_types.specs.declared.row.Change.{Change}
use Rattle.sds_trade.proofs.ChangeLaws.{numbers_are_consecutive}
use Rattle.sds_trade.specs.rules.Batches.{batches_of, numbered_batch, routed_changes}
use Rattle.sds_trade.specs.rules.Captured.{Done, captured_channel, change_in, change_of, numbered_change}
use Rattle.sds_history.specs.history.Acts.{Act, State}
use Rattle.sds_history.specs.history.Acts.Act.{Opened, Joined, Confirmed, Wrote, Routed, Loaded, Erred, Acked}
use Rattle.sds_history.specs.history.Changes.{changes_after, run_after, runs_after, unrouted_after}
use Rattle.sds_history.specs.history.Made.{batches_by, made_after, next_batches, out_batch, peers_at}
use Rattle.sds_history.specs.history.Runs.{Run, captured_count, captured_in, dones_of, last_change_after, last_tx_after, mark_after, mark_by, source_of, tables_after, tx_in}
use Rattle.sds_history.specs.history.Standings.{with_standing}
use Rattle.sds_nodelaws.specs.Counters.{BatchesCountOn, ChangesCountOn, CountersNeverFall, IsMarked, MarkStaysWithin, batch_ids, change_ids}
use Rattle.sds_nodelaws.proofs.Tests.{at_most}

-- NUMBERS
more : (n m : ℕ) → n ≤ n + m
more n m = omega arith

more_after : (a n m : ℕ) → a + n ≤ a + (n + m)
more_after a n m = omega arith

one_more : (n m : ℕ) → n + m ≤ n + suc m
one_more n m = omega arith

same_most : (n : ℕ) → n ≤ n
same_most n = omega arith

-- THE MARK
marked_by : (act : Act) (last mark : ℕ) → mark ≤ last → mark_by act last mark ≤ last
marked_by Routed last mark within = same_most last
marked_by (Opened group external token) last mark within = within
marked_by (Joined kept) last mark within = within
marked_by (Confirmed peer) last mark within = within
marked_by (Wrote writer number rows) last mark within = within
marked_by (Loaded channel batch) last mark within = within
marked_by (Erred from channel error) last mark within = within
marked_by (Acked from acks) last mark within = within

mark_rises : (act : Act) (last mark : ℕ) → mark ≤ last → mark ≤ mark_by act last mark
mark_rises Routed last mark within = within
mark_rises (Opened group external token) last mark within = same_most mark
mark_rises (Joined kept) last mark within = same_most mark
mark_rises (Confirmed peer) last mark within = same_most mark
mark_rises (Wrote writer number rows) last mark within = same_most mark
mark_rises (Loaded channel batch) last mark within = same_most mark
mark_rises (Erred from channel error) last mark within = same_most mark
mark_rises (Acked from acks) last mark within = same_most mark

first_mark : (n : ℕ) (m : ℕ) → m ≤ n → m ≤ n + 0
first_mark n m within = omega (arith, within)

pub mark_within : (config : Config) (opening : State) (runs : List Run) → IsMarked opening → mark_after config opening runs ≤ last_change_after config opening runs
mark_within config opening [] marked = first_mark opening.counts.last_change opening.counts.routed marked
mark_within config opening (run ∷ older) marked =
    at_most (mark_after config opening (run ∷ older)) (last_change_after config opening older) (last_change_after config opening (run ∷ older))
    (marked_by run.act (last_change_after config opening older) (mark_after config opening older) (mark_within config opening older marked))
    (more_after opening.counts.last_change (captured_count config opening older) (length (captured_in config opening 0 0 run)))

pub mark_stays_within : MarkStaysWithin
mark_stays_within config history marked =
    mark_within config history.opening (runs_after config history.opening history.acts) marked

-- BATCHES
made_rises : (config : Config) (opening : State) (act : Act) (older : List Run) (made : List OutBatch)
    → length made ≤ length (batches_by config opening act older made)
made_rises config opening Routed older made =
    subst (λ n. length made ≤ n) (sym (length-append made (next_batches config opening (opening.counts.last_batch + length made + 1) older)))
    (more (length made) (length (next_batches config opening (opening.counts.last_batch + length made + 1) older)))
made_rises config opening (Opened group external token) older made = same_most (length made)
made_rises config opening (Joined kept) older made = same_most (length made)
made_rises config opening (Confirmed peer) older made = same_most (length made)
made_rises config opening (Wrote writer number rows) older made = same_most (length made)
made_rises config opening (Loaded channel batch) older made = same_most (length made)
made_rises config opening (Erred from channel error) older made = same_most (length made)
made_rises config opening (Acked from acks) older made = same_most (length made)

added : (a n m : ℕ) → n ≤ m → a + n ≤ a + m
added a n m less = omega (arith, less)

pub counters_never_fall : CountersNeverFall
counters_never_fall config history act marked =
    let opening : State = history.opening in
    let runs : List Run = runs_after config opening history.acts in
    let run : Run = run_after config opening runs act in
    record {
      acts = one_more opening.counts.acts (length runs);
      last_change = more_after opening.counts.last_change (captured_count config opening runs) (length (captured_in config opening 0 0 run));
      last_batch = added opening.counts.last_batch (length (made_after config opening runs)) (length (made_after config opening (run ∷ runs)))
          (made_rises config opening act runs (made_after config opening runs));
      last_tx = more (last_tx_after opening runs) (tx_in act);
      routed = mark_rises act (last_change_after config opening runs) (mark_after config opening runs) (mark_within config opening runs marked);
    }

-- RANGES
next_number : (a m : ℕ) → a + suc m ≡ (a + 1) + m
next_number a m = omega arith

no_more : (a : ℕ) → a + 0 ≡ a
no_more a = omega arith

pub ranges_append : (a n m : ℕ) → range_with_len a n ++ range_with_len (a + n) m ≡ range_with_len a (n + m)
ranges_append a zero m = ap (λ k. range_with_len k m) (no_more a) ∙ ap (λ k. range_with_len a k) (none_first m)
  where
    none_first : (k : ℕ) → k ≡ zero + k
    none_first k = omega arith
ranges_append a (suc n) m =
    ap (λ k. a ∷ (range_with_len (a + 1) n ++ range_with_len k m)) (next_number a n)
    ∙ (ap (λ ns. a ∷ ns) (ranges_append (a + 1) n m) ∙ ap (λ k. range_with_len a k) (suc_first n m))
  where
    suc_first : (k l : ℕ) → suc (k + l) ≡ suc k + l
    suc_first k l = omega arith

-- CHANGES. How many a run captures doesn't depend on its numbers
same_count : (config : Config) (group : List ℕ) (tx other : ℕ) (source : Option (List ℕ)) (dones : List Done)
    → length (filter_map (change_of config group tx source) dones) ≡ length (filter_map (change_of config group other source) dones)
same_count config group tx other source [] = refl
same_count config group tx other source (done ∷ dones) =
    one_on (captured_channel config group (is_some source) done.step)
    (filter_map (change_of config group tx source) dones) (filter_map (change_of config group other source) dones)
    (same_count config group tx other source dones)
  where
    one_on : (found : Option ℕ) (xs ys : List Change) → length xs ≡ length ys
        → length (cons_option (option_map (change_in tx source done) found) xs) ≡ length (cons_option (option_map (change_in other source done) found) ys)
    one_on None xs ys same = same
    one_on (Some channel) xs ys same = ap (λ n. suc n) same

numbered_count : (first : ℕ) (changes : List Change) → length (map numbered_change (enumerate_from first changes)) ≡ length changes
numbered_count first changes = length-map (enumerate_from first changes) numbered_change ∙ length-enumerate_from first changes

captured_length : (config : Config) (opening : State) (first tx : ℕ) (run : Run)
    → length (captured_in config opening first tx run) ≡ length (captured_in config opening 0 0 run)
captured_length config opening first tx run =
    numbered_count first (filter_map (change_of config opening.me.group tx (source_of run.act)) (dones_of run.end))
    ∙ (same_count config opening.me.group tx 0 (source_of run.act) (dones_of run.end)
    ∙ sym (numbered_count 0 (filter_map (change_of config opening.me.group 0 (source_of run.act)) (dones_of run.end))))

pub captured_ids : (config : Config) (opening : State) (first tx : ℕ) (run : Run)
    → change_ids (captured_in config opening first tx run) ≡ range_with_len first (length (captured_in config opening 0 0 run))
captured_ids config opening first tx run =
    numbers_are_consecutive config opening.me.group first tx (source_of run.act) (dones_of run.end)
    ∙ ap (λ n. range_with_len first n) (captured_length config opening first tx run)

start : (a n : ℕ) → (a + n) + 1 ≡ (a + 1) + n
start a n = omega arith

pub ids_after : (config : Config) (opening : State) (runs : List Run)
    → change_ids (changes_after config opening runs)
    ≡ change_ids opening.changes ++ range_with_len (opening.counts.last_change + 1) (captured_count config opening runs)
ids_after config opening [] = sym (append-nil (change_ids opening.changes))
ids_after config opening (run ∷ older) =
    let last : ℕ = opening.counts.last_change in
    let count : ℕ = captured_count config opening older in
    let new : ℕ = length (captured_in config opening 0 0 run) in
    map-append (λ (change : Change). change.id) (changes_after config opening older)
    (captured_in config opening (last_change_after config opening older + 1) (last_tx_after opening older + 1) run)
    ∙ (ap (λ ids. ids ++ change_ids (captured_in config opening (last_change_after config opening older + 1) (last_tx_after opening older + 1) run))
    (ids_after config opening older)
    ∙ (ap (λ ids. (change_ids opening.changes ++ range_with_len (last + 1) count) ++ ids)
    (captured_ids config opening (last_change_after config opening older + 1) (last_tx_after opening older + 1) run
    ∙ ap (λ k. range_with_len k new) (start last count))
    ∙ (append_assoc (change_ids opening.changes) (range_with_len (last + 1) count) (range_with_len ((last + 1) + count) new)
    ∙ ap (λ ids. change_ids opening.changes ++ ids) (ranges_append (last + 1) count new))))

pub changes_count_on : ChangesCountOn
changes_count_on config history =
    let runs : List Run = runs_after config history.opening history.acts in
    (captured_count config history.opening runs, (ids_after config history.opening runs, refl))

-- what acks say of batches leaves their numbers
acked_ids : (all : List OutBatch) (acts : List Act) (batches : List OutBatch) → batch_ids (map (with_standing all acts) batches) ≡ batch_ids batches
acked_ids all acts [] = refl
acked_ids all acts (batch ∷ batches) = ap (λ ids. batch.id ∷ ids) (acked_ids all acts batches)

batch_numbers : (first : ℕ) (batches : List NewBatch) → map (λ (b : NewBatch). b.id) (map numbered_batch (enumerate_from first batches))
    ≡ range_with_len first (length (map numbered_batch (enumerate_from first batches)))
batch_numbers first [] = refl
batch_numbers first (batch ∷ batches) = ap (λ ids. first ∷ ids) (batch_numbers (first + 1) batches)

out_ids : (peers : List Peer) (batches : List NewBatch) → batch_ids (map (out_batch peers) batches) ≡ map (λ (b : NewBatch). b.id) batches
out_ids peers [] = refl
out_ids peers (batch ∷ batches) = ap (λ ids. batch.id ∷ ids) (out_ids peers batches)

pub next_ids : (config : Config) (opening : State) (first : ℕ) (runs : List Run)
    → batch_ids (next_batches config opening first runs) ≡ range_with_len first (length (next_batches config opening first runs))
next_ids config opening first runs =
    let peers : List Peer = peers_at opening runs in
    let new : List NewBatch = batches_of config first (routed_changes config opening.me (tables_after opening runs) peers (unrouted_after config opening runs)) in
    out_ids peers new ∙ (numbered ∙ ap (λ n. range_with_len first n) (sym (length-map new (out_batch peers))))
  where
    numbered : map (λ (b : NewBatch). b.id) (batches_of config first
        (routed_changes config opening.me (tables_after opening runs) (peers_at opening runs) (unrouted_after config opening runs)))
        ≡ range_with_len first (length (batches_of config first
        (routed_changes config opening.me (tables_after opening runs) (peers_at opening runs) (unrouted_after config opening runs))))
    numbered = batch_numbers first _

first_next : (last made : ℕ) → last + made + 1 ≡ (last + 1) + made
first_next last made = omega arith

made_by : (config : Config) (opening : State) (act : Act) (older : List Run) (made : List OutBatch)
    → batch_ids made ≡ range_with_len (opening.counts.last_batch + 1) (length made)
    → batch_ids (batches_by config opening act older made)
    ≡ range_with_len (opening.counts.last_batch + 1) (length (batches_by config opening act older made))
made_by config opening Routed older made same =
    let last : ℕ = opening.counts.last_batch in
    let new : List OutBatch = next_batches config opening (last + length made + 1) older in
    map-append (λ (batch : OutBatch). batch.id) made new
    ∙ (ap (λ ids. ids ++ batch_ids new) same
    ∙ (ap (λ ids. range_with_len (last + 1) (length made) ++ ids)
    (next_ids config opening (last + length made + 1) older ∙ ap (λ k. range_with_len k (length new)) (first_next last (length made)))
    ∙ (ranges_append (last + 1) (length made) (length new) ∙ ap (λ n. range_with_len (last + 1) n) (sym (length-append made new)))))
made_by config opening (Opened group external token) older made same = same
made_by config opening (Joined kept) older made same = same
made_by config opening (Confirmed peer) older made same = same
made_by config opening (Wrote writer number rows) older made same = same
made_by config opening (Loaded channel batch) older made same = same
made_by config opening (Erred from channel error) older made same = same
made_by config opening (Acked from acks) older made same = same

pub made_ids : (config : Config) (opening : State) (runs : List Run)
    → batch_ids (made_after config opening runs) ≡ range_with_len (opening.counts.last_batch + 1) (length (made_after config opening runs))
made_ids config opening [] = refl
made_ids config opening (run ∷ older) = made_by config opening run.act older (made_after config opening older) (made_ids config opening older)

pub batches_count_on : BatchesCountOn
batches_count_on config history =
    let opening : State = history.opening in
    let runs : List Run = runs_after config opening history.acts in
    let made : List OutBatch = made_after config opening runs in (
      length made,
      (
        acked_ids (opening.batches ++ made) history.acts (opening.batches ++ made)
            ∙ (map-append (λ (batch : OutBatch). batch.id) opening.batches made
            ∙ ap (λ ids. batch_ids opening.batches ++ ids) (made_ids config opening runs)),
        refl,
      ),
    )

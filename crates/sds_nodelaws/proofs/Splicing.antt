-- A history may be cut in two: what a node has follows from what it had and its acts since.
use Rattle.std.proofs.Common.{◌≡◌, ℕ, zero, suc, ◌+◌, ◌-◌, ◌<◌, ◌≤◌, Bool, true, false, cond, List, [], ◌∷◌, ◌++◌, length, map, Option, None, Some, refl, sym, ap, subst, ◌∙◌, arith, true≢false, filter, ◌||◌, ◌&&◌, ◌==◌, All, append_assoc, append-nil, not}
use Rattle.std.specs.List.{list_any, range_with_len}
use Rattle.std.specs.Prelude.{is_some, nat_le}
use Rattle.std.specs.Str.{bytes_eq}
use Rattle.std.proofs.lemmas.Bool.Decides.{nat_tests}
use Rattle.std.proofs.lemmas.List.{length-append, map-append}
use Rattle.std.proofs.lemmas.List.Elements.{All-nil, All-cons, All-append, filter-append}
use Rattle.std.proofs.lemmas.List.Folds.{list_any-append}
use Rattle.sds_value.specs.declared.row.Peer.{Peer}
use Rattle.sds_types.specs.declared.ack.Ack.{Ack}
use Rattle.sds_types.specs.declared.batch.OutBatch.{OutBatch}
use Rattle.sds_types.specs.declared.batch.Standing.{Standing}
use Rattle.sds_types.specs.declared.batch.Standing.TheVariants as standing
use Rattle.sds_types.specs.declared.config.Config.{Config}
use Rattle.sds_types.specs.declared.counts.Counts.{Counts}
use Rattle.sds_types.specs.declared.counts.WriterLast.{WriterLast}
use Rattle.sds_types.specs.declared.peer.KeptPeer.{KeptPeer}
use Rattle.sds_types.specs.declared.lane.LaneIn.{LaneIn}
use Rattle.sds_types.specs.declared.registration.Opening.{Opening}
use Rattle.sds_types.specs.declared.row.Change.{Change}
use Rattle.sds_types.specs.declared.row.TableRow.{TableRow}
use Rattle.sds_trade.proofs.Lists.{all_head, all_tail}
use Rattle.sds_trade.specs.rules.Batches.{batches_of, routed_changes}
use Rattle.sds_trade.specs.rules.Runs.{RunEnd}
use Rattle.sds_history.specs.history.Acts.{Act, History, State}
use Rattle.sds_history.specs.history.Acts.Act.{Opened, Joined, Confirmed, Wrote, Routed, Loaded, Erred, Acked}
use Rattle.sds_history.specs.history.Changes.{changes_after, run_after, run_end_of, runs_after, unrouted_after, waiting_after}
use Rattle.sds_history.specs.history.Lanes.{lanes_after, lanes_by}
use Rattle.sds_history.specs.history.Made.{batches_by, made_after, next_batches, out_batch}
use Rattle.sds_history.specs.history.Peers.{peers_after}
use Rattle.sds_history.specs.history.Runs.{Run, captured_count, captured_in, last_change_after, last_tx_after, mark_after, mark_by, rows_after_run, tables_after}
use Rattle.sds_history.specs.history.Standings.{acknowledged, acks_from, acks_in, erred_by, is_acked, is_error_of, is_ok_for, last_error, same_lane, standing_of, with_standing}
use Rattle.sds_history.specs.history.States.{state_after, state_of}
use Rattle.sds_history.specs.history.Writers.{writers_after, writers_by}
use Rattle.sds_history.specs.world.Calling.{with_act}
use Rattle.sds_nodelaws.specs.Calls.{Call, act_of, begun, called, called_all, with_made}
use Rattle.sds_nodelaws.specs.Counters.{batch_ids}
use Rattle.sds_nodelaws.specs.Splicing.{CallsStepOn, HistoriesSplice, after_made, reopened}
use Rattle.sds_nodelaws.proofs.Counted.{batches_count_on, next_ids}
use Rattle.sds_nodelaws.proofs.Held.{any_map, mapped}
use Rattle.sds_nodelaws.proofs.Made.{Follows, Names, made_follows}
use Rattle.sds_nodelaws.proofs.Tests.{at_most, or_cases, same_number}

-- NUMBERS
no_more : (n : ℕ) → n + 0 ≡ n
no_more n = omega arith

-- RUNS. Of a run only the group of the opening, the changes that wait and the rows matter
end_same : (config : Config) (a b : State) (waiting : ℕ) (rows : List TableRow) (act : Act) → a.me ≡ b.me
    → run_end_of config a waiting rows act ≡ run_end_of config b waiting rows act
end_same config a b waiting rows (Wrote writer number tx) same = ap (λ (me : Peer). run_end_of config (record a { me = me }) waiting rows (Wrote writer number tx)) same
end_same config a b waiting rows (Loaded channel batch) same = ap (λ (me : Peer). run_end_of config (record a { me = me }) waiting rows (Loaded channel batch)) same
end_same config a b waiting rows (Opened group external token) same = refl
end_same config a b waiting rows (Joined kept) same = refl
end_same config a b waiting rows (Confirmed peer) same = refl
end_same config a b waiting rows Routed same = refl
end_same config a b waiting rows (Erred from channel error) same = refl
end_same config a b waiting rows (Acked from acks) same = refl

run_same : (config : Config) (history : History) (act : Act)
    → run_after config (state_of config history) [] act
    ≡ run_after config history.opening (runs_after config history.opening history.acts) act
run_same config history act =
    let o : State = history.opening in
    let runs : List Run = runs_after config o history.acts in
    let s : State = state_of config history in
    ap (λ (n : ℕ). record { act = act; end = run_end_of config s (n - mark_after config o runs) (tables_after o runs) act }) (no_more (last_change_after config o runs))
    ∙ ap (λ (e : Option RunEnd). record { act = act; end = e }) (end_same config s o (waiting_after config o runs) (tables_after o runs) act refl)

runs_acts : (config : Config) (opening : State) (acts : List Act) → map (λ (run : Run). run.act) (runs_after config opening acts) ≡ acts
runs_acts config opening [] = refl
runs_acts config opening (act ∷ acts) = ap (λ more. act ∷ more) (runs_acts config opening acts)

-- BATCHES. Those that an act makes follow from the state before it
next_same : (config : Config) (history : History) (first : ℕ)
    → next_batches config (state_of config history) first []
    ≡ next_batches config history.opening first (runs_after config history.opening history.acts)
next_same config history first =
    let o : State = history.opening in
    let runs : List Run = runs_after config o history.acts in
    ap (λ (made : List Act). let peers : List Peer = map (λ (kept : KeptPeer). kept.peer) (peers_after o.peers made) in map (out_batch peers)
    (batches_of config first (routed_changes config o.me (tables_after o runs) peers (unrouted_after config o runs)))) (sym (runs_acts config o history.acts))

first_same : (last made : ℕ) → last + made + 0 + 1 ≡ last + made + 1
first_same last made = omega arith

-- what an act adds to the batches
abbrev added : Config → History → Act → List OutBatch
added config history act = batches_by config (state_of config history) act [] []

made_splits : (config : Config) (history : History) (act : Act)
    → made_after config history.opening (run_after config history.opening (runs_after config history.opening history.acts) act
    ∷ runs_after config history.opening history.acts)
    ≡ made_after config history.opening (runs_after config history.opening history.acts) ++ added config history act
made_splits config history Routed =
    let o : State = history.opening in
    let runs : List Run = runs_after config o history.acts in
    let made : List OutBatch = made_after config o runs in
    ap (λ (new : List OutBatch). made ++ new)
    (sym (next_same config history (o.counts.last_batch + length made + 1))
    ∙ ap (λ (n : ℕ). next_batches config (state_of config history) n []) (sym (first_same o.counts.last_batch (length made))))
made_splits config history (Opened group external token) = sym (append-nil (made_after config history.opening (runs_after config history.opening history.acts)))
made_splits config history (Joined kept) = sym (append-nil (made_after config history.opening (runs_after config history.opening history.acts)))
made_splits config history (Confirmed peer) = sym (append-nil (made_after config history.opening (runs_after config history.opening history.acts)))
made_splits config history (Wrote writer number rows) = sym (append-nil (made_after config history.opening (runs_after config history.opening history.acts)))
made_splits config history (Loaded channel batch) = sym (append-nil (made_after config history.opening (runs_after config history.opening history.acts)))
made_splits config history (Erred from channel error) = sym (append-nil (made_after config history.opening (runs_after config history.opening history.acts)))
made_splits config history (Acked from acks) = sym (append-nil (made_after config history.opening (runs_after config history.opening history.acts)))

-- they have later numbers
abbrev After : ℕ → OutBatch → Type 0
After last batch = last < batch.id

abbrev Within : ℕ → Ack → Type 0
Within last ack = ack.batch ≤ last

pub numbered_after : (last first n : ℕ) (batches : List OutBatch) → last < first → map (λ (b : OutBatch). b.id) batches ≡ range_with_len first n → All (After last) batches
numbered_after last first n [] less same = All-nil (After last)
numbered_after last first zero (batch ∷ batches) less same = absurd (true≢false (ap (λ l. elim l [ [] ↦ false | k ∷ ks ↦ true ]) same))
numbered_after last first (suc n) (batch ∷ batches) less same =
    All-cons (After last) batch batches (subst (λ k. last < k) (sym (ap (λ l. elim l [ [] ↦ batch.id | k ∷ ks ↦ k ]) same)) less)
    (numbered_after last (first + 1) n batches (more last first less) (ap (λ l. elim l [ [] ↦ [] | k ∷ ks ↦ ks ]) same))
  where
    more : (a b : ℕ) → a < b → a < b + 1
    more a b is = omega (arith, is)

added_after : (config : Config) (history : History) (act : Act) → All (After (state_of config history).counts.last_batch) (added config history act)
added_after config history Routed =
    let s : State = state_of config history in
    numbered_after s.counts.last_batch (s.counts.last_batch + 0 + 1) (length (next_batches config s (s.counts.last_batch + 0 + 1) []))
    (next_batches config s (s.counts.last_batch + 0 + 1) []) (less s.counts.last_batch) (next_ids config s (s.counts.last_batch + 0 + 1) [])
  where
    less : (a : ℕ) → a < a + 0 + 1
    less a = omega arith
added_after config history (Opened group external token) = All-nil (After (state_of config history).counts.last_batch)
added_after config history (Joined kept) = All-nil (After (state_of config history).counts.last_batch)
added_after config history (Confirmed peer) = All-nil (After (state_of config history).counts.last_batch)
added_after config history (Wrote writer number rows) = All-nil (After (state_of config history).counts.last_batch)
added_after config history (Loaded channel batch) = All-nil (After (state_of config history).counts.last_batch)
added_after config history (Erred from channel error) = All-nil (After (state_of config history).counts.last_batch)
added_after config history (Acked from acks) = All-nil (After (state_of config history).counts.last_batch)

-- TESTS
no_ack_of : (last id number : ℕ) → last < id → number ≤ last → (id == number) ≡ false
no_ack_of last id number after within = grind (arith, nat_tests, after, within)

no_error_of : (last id number : ℕ) → last < id → number ≤ last → (number == id) ≡ false
no_error_of last id number after within = grind (arith, nat_tests, after, within)

no_ok_of : (last id number : ℕ) → last < id → number ≤ last → nat_le id number ≡ false
no_ok_of last id number after within = grind (arith, nat_tests, after, within)

and_false : (a : Bool) → (a && false) ≡ false
and_false true = refl
and_false false = refl

or_false : (a : Bool) → (a || false) ≡ a
or_false true = refl
or_false false = refl

-- an ack of an earlier batch says nothing of those that are made later
none_later : (last : ℕ) (batch : OutBatch) (ack : Ack) (new : List OutBatch) → Within last ack → All (After last) new
    → list_any (λ (other : OutBatch). other.id == ack.batch && same_lane batch other) new ≡ false
none_later last batch ack [] within after = refl
none_later last batch ack (other ∷ new) within after =
    ap (λ t. (t && same_lane batch other) || list_any (λ (o : OutBatch). o.id == ack.batch && same_lane batch o) new)
    (no_ack_of last other.id ack.batch (all_head (After last) other new after) within)
    ∙ none_later last batch ack new within (all_tail (After last) other new after)

ok_before : (last : ℕ) (old new : List OutBatch) (batch : OutBatch) (ack : Ack) → All (After last) new → Within last ack
    → is_ok_for (old ++ new) batch ack ≡ is_ok_for old batch ack
ok_before last old new batch ack after within =
    ap (λ t. not (is_some ack.error) && (nat_le batch.id ack.batch && t))
    (list_any-append (λ (other : OutBatch). other.id == ack.batch && same_lane batch other) old new
    ∙ (ap (λ t. list_any (λ (other : OutBatch). other.id == ack.batch && same_lane batch other) old || t) (none_later last batch ack new within after)
    ∙ or_false (list_any (λ (other : OutBatch). other.id == ack.batch && same_lane batch other) old)))

oks_before : (last : ℕ) (old new : List OutBatch) (batch : OutBatch) (acks : List Ack) → All (After last) new → All (Within last) acks
    → list_any (is_ok_for (old ++ new) batch) acks ≡ list_any (is_ok_for old batch) acks
oks_before last old new batch [] after within = refl
oks_before last old new batch (ack ∷ acks) after within =
    ap (λ t. t || list_any (is_ok_for (old ++ new) batch) acks) (ok_before last old new batch ack after (all_head (Within last) ack acks within))
    ∙ ap (λ t. is_ok_for old batch ack || t) (oks_before last old new batch acks after (all_tail (Within last) ack acks within))

no_oks : (last : ℕ) (batches : List OutBatch) (batch : OutBatch) (acks : List Ack) → After last batch → All (Within last) acks
    → list_any (is_ok_for batches batch) acks ≡ false
no_oks last batches batch [] after within = refl
no_oks last batches batch (ack ∷ acks) after within =
    ap (λ t. (not (is_some ack.error) && (t && list_any (λ (other : OutBatch). other.id == ack.batch && same_lane batch other) batches))
    || list_any (is_ok_for batches batch) acks) (no_ok_of last batch.id ack.batch after (all_head (Within last) ack acks within))
    ∙ (ap (λ t. t || list_any (is_ok_for batches batch) acks) (and_false (not (is_some ack.error)))
    ∙ no_oks last batches batch acks after (all_tail (Within last) ack acks within))

no_errors : (last : ℕ) (batch : OutBatch) (acks : List Ack) → After last batch → All (Within last) acks → filter (is_error_of batch) acks ≡ []
no_errors last batch [] after within = refl
no_errors last batch (ack ∷ acks) after within =
    ap (λ t. cond t (ack ∷ filter (is_error_of batch) acks) (filter (is_error_of batch) acks))
    (ap (λ t. is_some ack.error && t) (no_error_of last batch.id ack.batch after (all_head (Within last) ack acks within)) ∙ and_false (is_some ack.error))
    ∙ no_errors last batch acks after (all_tail (Within last) ack acks within)

-- what acks said of batches before changes nothing in what an ack says of them
ok_told : (old new told : List OutBatch) (acts : List Act) (batch : OutBatch) (ack : Ack)
    → is_ok_for (map (with_standing told acts) old ++ new) (with_standing told acts batch) ack ≡ is_ok_for (old ++ new) batch ack
ok_told old new told acts batch ack =
    ap (λ t. not (is_some ack.error) && (nat_le batch.id ack.batch && t))
    (list_any-append (λ (other : OutBatch). other.id == ack.batch && same_lane batch other) (map (with_standing told acts) old) new
    ∙ (ap (λ t. t || list_any (λ (other : OutBatch). other.id == ack.batch && same_lane batch other) new)
    (any_map (λ (other : OutBatch). other.id == ack.batch && same_lane batch other) (with_standing told acts) old)
    ∙ sym (list_any-append (λ (other : OutBatch). other.id == ack.batch && same_lane batch other) old new)))

oks_told : (old new told : List OutBatch) (acts : List Act) (batch : OutBatch) (acks : List Ack)
    → list_any (is_ok_for (map (with_standing told acts) old ++ new) (with_standing told acts batch)) acks ≡ list_any (is_ok_for (old ++ new) batch) acks
oks_told old new told acts batch [] = refl
oks_told old new told acts batch (ack ∷ acks) =
    ap (λ t. t || list_any (is_ok_for (map (with_standing told acts) old ++ new) (with_standing told acts batch)) acks) (ok_told old new told acts batch ack)
    ∙ ap (λ t. is_ok_for (old ++ new) batch ack || t) (oks_told old new told acts batch acks)

ok_told_new : (old new told : List OutBatch) (acts : List Act) (batch : OutBatch) (acks : List Ack)
    → list_any (is_ok_for (map (with_standing told acts) old ++ new) batch) acks ≡ list_any (is_ok_for (old ++ new) batch) acks
ok_told_new old new told acts batch [] = refl
ok_told_new old new told acts batch (ack ∷ acks) =
    ap (λ t. (not (is_some ack.error) && (nat_le batch.id ack.batch && t)) || list_any (is_ok_for (map (with_standing told acts) old ++ new) batch) acks)
    (list_any-append (λ (other : OutBatch). other.id == ack.batch && same_lane batch other) (map (with_standing told acts) old) new
    ∙ (ap (λ t. t || list_any (λ (other : OutBatch). other.id == ack.batch && same_lane batch other) new)
    (any_map (λ (other : OutBatch). other.id == ack.batch && same_lane batch other) (with_standing told acts) old)
    ∙ sym (list_any-append (λ (other : OutBatch). other.id == ack.batch && same_lane batch other) old new)))
    ∙ ap (λ t. is_ok_for (old ++ new) batch ack || t) (ok_told_new old new told acts batch acks)

-- STANDINGS. What acks say one after another
error_stays : (batch : OutBatch) (ack : Ack) (error : Option (ℕ × ℕ)) (a b : Standing) → ack.error ≡ error → (is_some ack.error && ack.batch == batch.id) ≡ true
    → erred_by error a ≡ erred_by error b
error_stays batch ack None a b same is = absurd (true≢false (sym is ∙ ap (λ e. is_some e && ack.batch == batch.id) same))
error_stays batch ack (Some error) a b same is = refl

errors_on : (batch : OutBatch) (ack : Ack) (later older : List Ack) (before : Standing) (t : Bool) → is_error_of batch ack ≡ t
    → last_error (later ++ older) before ≡ last_error later (last_error older before)
    → last_error (cond t (ack ∷ later) later ++ older) before ≡ last_error (cond t (ack ∷ later) later) (last_error older before)
errors_on batch ack later older before true is rest = error_stays batch ack ack.error before (last_error older before) refl is
errors_on batch ack later older before false is rest = rest

errors_split : (batch : OutBatch) (later older : List Ack) (before : Standing)
    → last_error (filter (is_error_of batch) later ++ older) before ≡ last_error (filter (is_error_of batch) later) (last_error older before)
errors_split batch [] older before = refl
errors_split batch (ack ∷ later) older before =
    errors_on batch ack (filter (is_error_of batch) later) older before (is_error_of batch ack) refl (errors_split batch later older before)

pub not_ok : (acks : List Ack) (before : Standing) → is_acked before ≡ false → is_acked (last_error acks before) ≡ false
not_ok [] before isnt = isnt
not_ok (ack ∷ acks) before isnt = not_erred ack.error
  where
    not_erred : (error : Option (ℕ × ℕ)) → is_acked (erred_by error before) ≡ false
    not_erred None = isnt
    not_erred (Some error) = refl

-- an OK, or the last error, told at once or one after another
told_on : (batch : OutBatch) (new old : List Ack) (before : Standing) (acked newer older : Bool) → is_acked before ≡ acked
    → cond (acked || (newer || older)) standing.Acked (last_error (filter (is_error_of batch) new ++ old) before)
    ≡ (let s : Standing = cond (acked || older) standing.Acked (last_error old before) in
    cond (is_acked s || newer) standing.Acked (last_error (filter (is_error_of batch) new) s))
told_on batch new old before true newer older is = refl
told_on batch new old before false true true is = refl
told_on batch new old before false false true is = refl
told_on batch new old before false true false is = ap (λ t. cond (t || true) standing.Acked (last_error (filter (is_error_of batch) new) (last_error old before))) (sym (not_ok old before is))
told_on batch new old before false false false is =
    errors_split batch new old before
    ∙ ap (λ t. cond (t || false) standing.Acked (last_error (filter (is_error_of batch) new) (last_error old before))) (sym (not_ok old before is))

-- a batch that stood before the act
old_same : (last : ℕ) (old new : List OutBatch) (acts : List Act) (act : Act) (batch : OutBatch) → All (After last) new
    → All (Within last) (acks_from acts batch.peer)
    → standing_of (old ++ new) (act ∷ acts) batch
    ≡ standing_of (map (with_standing old acts) old ++ new) (act ∷ []) (with_standing old acts batch)
old_same last old new acts act batch after within =
    let newer : List Ack = acks_in batch.peer act in
    let older : List Ack = acks_from acts batch.peer in
    let s : Standing = standing_of old acts batch in
    ap (λ t. cond (is_acked batch.standing || t) standing.Acked (last_error (filter (is_error_of batch) (newer ++ older)) batch.standing))
    (list_any-append (is_ok_for (old ++ new) batch) newer older
    ∙ ap (λ t. list_any (is_ok_for (old ++ new) batch) newer || t) (oks_before last old new batch older after within))
    ∙ (ap (λ es. cond (is_acked batch.standing || (list_any (is_ok_for (old ++ new) batch) newer || list_any (is_ok_for old batch) older)) standing.Acked
    (last_error es batch.standing)) (filter-append (is_error_of batch) newer older)
    ∙ (told_on batch newer (filter (is_error_of batch) older) batch.standing (is_acked batch.standing) (list_any (is_ok_for (old ++ new) batch) newer)
    (list_any (is_ok_for old batch) older) refl
    ∙ (ap (λ t. cond (is_acked s || t) standing.Acked (last_error (filter (is_error_of batch) newer) s)) (sym (oks_told old new old acts batch newer))
    ∙ ap (λ said. cond (is_acked s || list_any (is_ok_for (map (with_standing old acts) old ++ new) (with_standing old acts batch)) said) standing.Acked
    (last_error (filter (is_error_of batch) said) s)) (sym (append-nil newer)))))

-- a batch that the act made
new_same : (last : ℕ) (old new : List OutBatch) (acts : List Act) (act : Act) (batch : OutBatch) → After last batch
    → All (Within last) (acks_from acts batch.peer)
    → standing_of (old ++ new) (act ∷ acts) batch ≡ standing_of (map (with_standing old acts) old ++ new) (act ∷ []) batch
new_same last old new acts act batch after within =
    let newer : List Ack = acks_in batch.peer act in
    let older : List Ack = acks_from acts batch.peer in
    ap (λ t. cond (is_acked batch.standing || t) standing.Acked (last_error (filter (is_error_of batch) (newer ++ older)) batch.standing))
    (list_any-append (is_ok_for (old ++ new) batch) newer older
    ∙ (ap (λ t. list_any (is_ok_for (old ++ new) batch) newer || t) (no_oks last (old ++ new) batch older after within)
    ∙ (or_false (list_any (is_ok_for (old ++ new) batch) newer) ∙ sym (ok_told_new old new old acts batch newer))))
    ∙ (ap (λ es. cond (is_acked batch.standing || list_any (is_ok_for (map (with_standing old acts) old ++ new) batch) newer) standing.Acked
    (last_error es batch.standing))
    (filter-append (is_error_of batch) newer older
    ∙ (ap (λ es. filter (is_error_of batch) newer ++ es) (no_errors last batch older after within) ∙ append-nil (filter (is_error_of batch) newer)))
    ∙ ap (λ said. cond (is_acked batch.standing || list_any (is_ok_for (map (with_standing old acts) old ++ new) batch) said) standing.Acked
    (last_error (filter (is_error_of batch) said) batch.standing)) (sym (append-nil newer)))

-- every ack that acts took is of a batch with at most this number
abbrev pub AcksWithin : ℕ → List Act → Type 0
AcksWithin last acts = (peer : List ℕ) → All (Within last) (acks_from acts peer)

olds_same : (last : ℕ) (old new : List OutBatch) (acts : List Act) (act : Act) (batches : List OutBatch) → All (After last) new → AcksWithin last acts
    → map (with_standing (old ++ new) (act ∷ acts)) batches
    ≡ map (with_standing (map (with_standing old acts) old ++ new) (act ∷ [])) (map (with_standing old acts) batches)
olds_same last old new acts act [] after within = refl
olds_same last old new acts act (batch ∷ batches) after within =
    ap (λ (s : Standing). record batch { standing = s } ∷ map (with_standing (old ++ new) (act ∷ acts)) batches) (old_same last old new acts act batch after (within batch.peer))
    ∙ ap (λ (bs : List OutBatch). record batch { standing = standing_of (map (with_standing old acts) old ++ new) (act ∷ []) (with_standing old acts batch) } ∷ bs)
    (olds_same last old new acts act batches after within)

news_same : (last : ℕ) (old new : List OutBatch) (acts : List Act) (act : Act) (batches : List OutBatch) → All (After last) batches → AcksWithin last acts
    → map (with_standing (old ++ new) (act ∷ acts)) batches ≡ map (with_standing (map (with_standing old acts) old ++ new) (act ∷ [])) batches
news_same last old new acts act [] after within = refl
news_same last old new acts act (batch ∷ batches) after within =
    ap (λ (s : Standing). record batch { standing = s } ∷ map (with_standing (old ++ new) (act ∷ acts)) batches)
    (new_same last old new acts act batch (all_head (After last) batch batches after) (within batch.peer))
    ∙ ap (λ (bs : List OutBatch). record batch { standing = standing_of (map (with_standing old acts) old ++ new) (act ∷ []) batch } ∷ bs)
    (news_same last old new acts act batches (all_tail (After last) batch batches after) within)

pub acknowledged_same : (last : ℕ) (old new : List OutBatch) (acts : List Act) (act : Act) → All (After last) new → AcksWithin last acts
    → acknowledged (old ++ new) (act ∷ acts) ≡ acknowledged (acknowledged old acts ++ new) (act ∷ [])
acknowledged_same last old new acts act after within =
    map-append (with_standing (old ++ new) (act ∷ acts)) old new
    ∙ (ap (λ bs. bs ++ map (with_standing (old ++ new) (act ∷ acts)) new) (olds_same last old new acts act old after within)
    ∙ (ap (λ bs. map (with_standing (acknowledged old acts ++ new) (act ∷ [])) (acknowledged old acts) ++ bs) (news_same last old new acts act new after within)
    ∙ sym (map-append (with_standing (acknowledged old acts ++ new) (act ∷ [])) (acknowledged old acts) new)))

-- STATES
same_counts : (a b : Counts) → a.acts ≡ b.acts → a.last_change ≡ b.last_change → a.last_batch ≡ b.last_batch → a.last_tx ≡ b.last_tx
    → a.routed ≡ b.routed → a ≡ b
same_counts a b acts last_change last_batch last_tx routed =
    ap (λ n. record a { acts = n }) acts
    ∙ (ap (λ n. record a { acts = b.acts; last_change = n }) last_change
    ∙ (ap (λ n. record a { acts = b.acts; last_change = b.last_change; last_batch = n }) last_batch
    ∙ (ap (λ n. record a { acts = b.acts; last_change = b.last_change; last_batch = b.last_batch; last_tx = n }) last_tx
    ∙ ap (λ n. record b { routed = n }) routed)))

same_state : (a b : State) → a.me ≡ b.me → a.counts ≡ b.counts → a.peers ≡ b.peers → a.openings ≡ b.openings → a.writers ≡ b.writers
    → a.tables ≡ b.tables → a.changes ≡ b.changes → a.batches ≡ b.batches → a.lanes ≡ b.lanes → a ≡ b
same_state a b me counts peers openings writers tables changes batches lanes =
    ap (λ (x : Peer). record a { me = x }) me
    ∙ (ap (λ (x : Counts). record a { me = b.me; counts = x }) counts
    ∙ (ap (λ (x : List KeptPeer). record a { me = b.me; counts = b.counts; peers = x }) peers
    ∙ (ap (λ (x : List Opening). record a { me = b.me; counts = b.counts; peers = b.peers; openings = x }) openings
    ∙ (ap (λ (x : List WriterLast). record b { writers = x; tables = a.tables; changes = a.changes; batches = a.batches; lanes = a.lanes }) writers
    ∙ (ap (λ (x : List TableRow). record b { tables = x; changes = a.changes; batches = a.batches; lanes = a.lanes }) tables
    ∙ (ap (λ (x : List Change). record b { changes = x; batches = a.batches; lanes = a.lanes }) changes
    ∙ (ap (λ (x : List OutBatch). record b { batches = x; lanes = a.lanes }) batches
    ∙ ap (λ (x : List LaneIn). record b { lanes = x }) lanes)))))))

one_more : (a n : ℕ) → a + suc n ≡ (a + n) + suc zero
one_more a n = omega arith

captured_more : (a n m : ℕ) → a + (n + m) ≡ (a + n) + (0 + m)
captured_more a n m = omega arith

made_more : (a n m : ℕ) → a + (n + m) ≡ (a + n) + m
made_more a n m = omega arith

counts_same : (config : Config) (history : History) (act : Act)
    → (state_of config (with_act history act)).counts ≡ (state_after config (state_of config history) act).counts
counts_same config history act =
    let o : State = history.opening in
    let runs : List Run = runs_after config o history.acts in
    let run : Run = run_after config o runs act in
    let s : State = state_of config history in
    let made : List OutBatch = made_after config o runs in
    same_counts (state_of config (with_act history act)).counts (state_after config s act).counts
    (one_more o.counts.acts (length runs))
    (captured_more o.counts.last_change (captured_count config o runs) (length (captured_in config o 0 0 run))
    ∙ ap (λ (r : Run). s.counts.last_change + (0 + length (captured_in config o 0 0 r))) (sym (run_same config history act)))
    (ap (λ (bs : List OutBatch). o.counts.last_batch + length bs) (made_splits config history act)
    ∙ (ap (λ n. o.counts.last_batch + n) (length-append made (added config history act))
    ∙ made_more o.counts.last_batch (length made) (length (added config history act))))
    refl
    (ap (λ n. mark_by act n (mark_after config o runs)) (sym (no_more (last_change_after config o runs))))

pub one_act : (config : Config) (history : History) (act : Act) → AcksWithin (state_of config history).counts.last_batch history.acts
    → state_of config (with_act history act) ≡ state_after config (state_of config history) act
one_act config history act within =
    let o : State = history.opening in
    let runs : List Run = runs_after config o history.acts in
    let run : Run = run_after config o runs act in
    let s : State = state_of config history in
    let made : List OutBatch = made_after config o runs in
    same_state (state_of config (with_act history act)) (state_after config s act)
    refl (counts_same config history act) refl refl
    (ap (λ (r : Run). writers_by act (last_change_after config o runs + 1) (length (captured_in config o 0 0 r)) (writers_after config o runs)) (sym (run_same config history act))
    ∙ ap (λ (n : ℕ). writers_by act (n + 1) (length (captured_in config o 0 0 (run_after config s [] act))) (writers_after config o runs))
    (sym (no_more (last_change_after config o runs))))
    (ap (λ (r : Run). rows_after_run (tables_after o runs) r.end) (sym (run_same config history act)))
    (ap (λ (r : Run). changes_after config o runs ++ captured_in config o (last_change_after config o runs + 1) (last_tx_after o runs + 1) r) (sym (run_same config history act))
    ∙ ap (λ (n : ℕ). changes_after config o runs ++ captured_in config o (n + 1) (last_tx_after o runs + 1) (run_after config s [] act))
    (sym (no_more (last_change_after config o runs))))
    (ap (λ (bs : List OutBatch). acknowledged bs (act ∷ history.acts))
    (ap (λ (bs : List OutBatch). o.batches ++ bs) (made_splits config history act) ∙ sym (append_assoc o.batches made (added config history act)))
    ∙ acknowledged_same s.counts.last_batch (o.batches ++ made) (added config history act) history.acts act (added_after config history act) within)
    (ap (λ (r : Run). lanes_by config act r.end (lanes_after config o runs)) (sym (run_same config history act)))

-- CALLS. The acks of calls name batches that were made
abbrev pub IdsWithin : State → Type 0
IdsWithin state = All (λ (id : ℕ). id ≤ state.counts.last_batch) (batch_ids state.batches)

range_within : (a n : ℕ) → All (λ (k : ℕ). k ≤ a + n) (range_with_len (a + 1) n)
range_within a zero = All-nil (λ (k : ℕ). k ≤ a + zero)
range_within a (suc n) =
    All-cons (λ (k : ℕ). k ≤ a + suc n) (a + 1) (range_with_len ((a + 1) + 1) n) (first a n)
    (mapped (λ (k : ℕ). k ≤ (a + 1) + n) (λ (k : ℕ). k ≤ a + suc n) (range_with_len ((a + 1) + 1) n) (λ k less. later a n k less) (range_within (a + 1) n))
  where
    first : (b m : ℕ) → b + 1 ≤ b + suc m
    first b m = omega arith

    later : (b m k : ℕ) → k ≤ (b + 1) + m → k ≤ b + suc m
    later b m k less = omega (arith, less)

ids_within : (config : Config) (history : History) → IdsWithin history.opening → IdsWithin (state_of config history)
ids_within config history before =
    let (made, counted) = batches_count_on config history in
    let last : ℕ = history.opening.counts.last_batch in
    subst (All (λ (id : ℕ). id ≤ (state_of config history).counts.last_batch)) (sym counted.0)
    (subst (λ n. All (λ (id : ℕ). id ≤ n) (batch_ids history.opening.batches ++ range_with_len (last + 1) made)) (sym counted.1)
    (All-append (λ (id : ℕ). id ≤ last + made) (batch_ids history.opening.batches) (range_with_len (last + 1) made)
    (mapped (λ (id : ℕ). id ≤ last) (λ (id : ℕ). id ≤ last + made) (batch_ids history.opening.batches) (λ id less. more last made id less) before)
    (range_within last made)))
  where
    more : (a n k : ℕ) → k ≤ a → k ≤ a + n
    more a n k less = omega (arith, less)

named_within : (batches : List OutBatch) (from : List ℕ) (ack : Ack) (last : ℕ) → All (λ (id : ℕ). id ≤ last) (batch_ids batches)
    → list_any (λ (batch : OutBatch). batch.id == ack.batch && bytes_eq batch.peer from) batches ≡ true → Within last ack
named_within [] from ack last within is = absurd (true≢false (sym is))
named_within (batch ∷ batches) from ack last within is =
    or_cases (batch.id == ack.batch && bytes_eq batch.peer from)
    (list_any (λ (other : OutBatch). other.id == ack.batch && bytes_eq other.peer from) batches) is
    (λ here. subst (λ n. n ≤ last) (same_number batch.id ack.batch (first_of (batch.id == ack.batch) (bytes_eq batch.peer from) here))
    (all_head (λ (id : ℕ). id ≤ last) batch.id (batch_ids batches) within))
    (λ rest. named_within batches from ack last (all_tail (λ (id : ℕ). id ≤ last) batch.id (batch_ids batches) within) rest)
  where
    first_of : (a b : Bool) → (a && b) ≡ true → a ≡ true
    first_of true b both = refl
    first_of false b both = both

-- what holds of a history whose acts are made by calls
pub record Numbered (config : Config) (history : History) : Type 0 where
  pub opening : IdsWithin history.opening
  pub acks : AcksWithin (state_of config history).counts.last_batch history.acts

last_rises : (config : Config) (history : History) (act : Act)
    → (state_of config history).counts.last_batch ≤ (state_of config (with_act history act)).counts.last_batch
last_rises config history act =
    let o : State = history.opening in
    let made : List OutBatch = made_after config o (runs_after config o history.acts) in
    subst (λ (bs : List OutBatch). o.counts.last_batch + length made ≤ o.counts.last_batch + length bs) (sym (made_splits config history act))
    (subst (λ n. o.counts.last_batch + length made ≤ o.counts.last_batch + n) (sym (length-append made (added config history act)))
    (more o.counts.last_batch (length made) (length (added config history act))))
  where
    more : (a n m : ℕ) → a + n ≤ a + (n + m)
    more a n m = omega arith

acks_of_act : (config : Config) (state : State) (act : Act) (peer : List ℕ) → IdsWithin state → Follows state act
    → All (Within state.counts.last_batch) (acks_in peer act)
acks_of_act config state (Acked from acks) peer within follows = if_on (bytes_eq from peer)
  where
    named : All (Within state.counts.last_batch) acks
    named = mapped (Names state from) (Within state.counts.last_batch) acks (λ ack is. named_within state.batches from ack state.counts.last_batch within is) follows

    if_on : (b : Bool) → All (Within state.counts.last_batch) (cond b acks [])
    if_on true = named
    if_on false = All-nil (Within state.counts.last_batch)
acks_of_act config state (Opened group external token) peer within follows = All-nil (Within state.counts.last_batch)
acks_of_act config state (Joined kept) peer within follows = All-nil (Within state.counts.last_batch)
acks_of_act config state (Confirmed id) peer within follows = All-nil (Within state.counts.last_batch)
acks_of_act config state (Wrote writer number rows) peer within follows = All-nil (Within state.counts.last_batch)
acks_of_act config state Routed peer within follows = All-nil (Within state.counts.last_batch)
acks_of_act config state (Loaded channel batch) peer within follows = All-nil (Within state.counts.last_batch)
acks_of_act config state (Erred from channel error) peer within follows = All-nil (Within state.counts.last_batch)

numbered_more : (config : Config) (history : History) (act : Act) → Follows (state_of config history) act → Numbered config history
    → Numbered config (with_act history act)
numbered_more config history act follows before =
    let last : ℕ = (state_of config history).counts.last_batch in
    let now : ℕ = (state_of config (with_act history act)).counts.last_batch in
    record {
      opening = before.opening;
      acks = λ peer. mapped (Within last) (Within now) (acks_in peer act ++ acks_from history.acts peer)
          (λ ack less. at_most ack.batch last now less (last_rises config history act))
          (All-append (Within last) (acks_in peer act) (acks_from history.acts peer)
          (acks_of_act config (state_of config history) act peer (ids_within config history before.opening) follows) (before.acks peer));
    }

numbered_on : (config : Config) (history : History) (call : Call) (made : Option Act) → act_of config (state_of config history) call ≡ made
    → Numbered config history → Numbered config (with_made history made)
numbered_on config history call None is before = before
numbered_on config history call (Some act) is before =
    numbered_more config history act (made_follows config (state_of config history) call act is) before

pub all_numbered : (config : Config) (opening : State) (calls : List Call) → IdsWithin opening
    → Numbered config (called_all config (reopened opening) calls)
all_numbered config opening [] within = record { opening = within; acks = λ peer. All-nil (Within (opening.counts.last_batch + 0)) }
all_numbered config opening (call ∷ older) within =
    let before : History = called_all config (reopened opening) older in
    numbered_on config before call (act_of config (state_of config before) call) refl (all_numbered config opening older within)

-- LAWS
steps_on : (config : Config) (history : History) (made : Option Act) → Numbered config history
    → state_of config (with_made history made) ≡ after_made config (state_of config history) made
steps_on config history None numbered = refl
steps_on config history (Some act) numbered = one_act config history act numbered.acks

pub none_made : (me : Peer) → IdsWithin (begun me).opening
none_made me = All-nil (λ (id : ℕ). id ≤ 0)

pub calls_step_on : CallsStepOn
calls_step_on config me older call =
    let before : History = called_all config (begun me) older in
    steps_on config before (act_of config (state_of config before) call) (all_numbered config (begun me).opening older (none_made me))

-- two nodes with one state go on alike
goes_on : (config : Config) (a b : History) (call : Call) → Numbered config a → Numbered config b → state_of config a ≡ state_of config b
    → state_of config (called config a call) ≡ state_of config (called config b call)
goes_on config a b call first second same =
    steps_on config a (act_of config (state_of config a) call) first
    ∙ (ap (λ (s : State). after_made config s (act_of config s call)) same
    ∙ sym (steps_on config b (act_of config (state_of config b) call) second))

-- a node that is opened again has what it had
unsaid_on : (before : Standing) → cond (is_acked before || false) standing.Acked before ≡ before
unsaid_on standing.New = refl
unsaid_on standing.Acked = refl
unsaid_on (standing.Erred row rule) = refl

unsaid : (all batches : List OutBatch) → map (with_standing all []) batches ≡ batches
unsaid all [] = refl
unsaid all (batch ∷ batches) =
    ap (λ (s : Standing). record batch { standing = s } ∷ map (with_standing all []) batches) (unsaid_on batch.standing)
    ∙ ap (λ (bs : List OutBatch). batch ∷ bs) (unsaid all batches)

reopened_same : (config : Config) (state : State) → state_of config (reopened state) ≡ state
reopened_same config state =
    same_state (state_of config (reopened state)) state refl
    (same_counts (state_of config (reopened state)).counts state.counts (no_more state.counts.acts) (no_more state.counts.last_change)
    (no_more state.counts.last_batch) refl refl)
    refl refl refl refl refl (unsaid (state.batches ++ []) (state.batches ++ []) ∙ append-nil state.batches) refl

pub histories_splice : HistoriesSplice
histories_splice config me older [] = reopened_same config (state_of config (called_all config (begun me) older))
histories_splice config me older (call ∷ newer) =
    let state : State = state_of config (called_all config (begun me) older) in
    goes_on config (called_all config (reopened state) newer) (called_all config (begun me) (newer ++ older)) call
    (all_numbered config state newer
    (ids_within config (called_all config (begun me) older) (opening_within config me older)))
    (all_numbered config (begun me).opening (newer ++ older) (none_made me))
    (histories_splice config me older newer)
  where
    opening_within : (c : Config) (p : Peer) (calls : List Call) → IdsWithin (called_all c (begun p) calls).opening
    opening_within c p calls = (all_numbered c (begun p).opening calls (none_made p)).opening

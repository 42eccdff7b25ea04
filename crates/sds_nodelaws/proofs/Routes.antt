-- In every history each change that was routed stands in one batch to each peer that it was for at its run.
use Rattle.std.proofs.Common.{◌≡◌, ◌≢◌, ℕ, zero, suc, ◌+◌, ◌<◌, ◌≤◌, Bool, true, false, cond, List, [], ◌∷◌, ◌++◌, length, map, Option, None, Some, refl, sym, ap, subst, ◌∙◌, arith, true≢false, filter, filter_map, find, option_map, ◌||◌, ◌==◌, All, AllPairs, append_assoc, append-nil}
use Rattle.std.specs.List.{cons_option, enumerate_from, flat_map, range_with_len}
use Rattle.std.specs.Option.{option_map_or}
use Rattle.std.specs.Prelude.{is_some, nat_lt, option_and_then, slice_get}
use Rattle.std.proofs.lemmas.Bool.Decides.{nat_tests}
use Rattle.std.proofs.lemmas.List.{map-append}
use Rattle.std.proofs.lemmas.List.Concat.{flat_map-cons}
use Rattle.std.proofs.lemmas.List.Elements.{All-nil, All-cons, All-append, All-filter, All-map, filter-append}
use Rattle.std.proofs.lemmas.List.Kept.{AllPairs-cons, AllPairs-filter}
use Rattle.sds_value.specs.declared.row.Peer.{Peer}
use Rattle.sds_types.specs.declared.batch.OutBatch.{OutBatch}
use Rattle.sds_types.specs.declared.channel.ChannelDef.{ChannelDef}
use Rattle.sds_types.specs.declared.config.Config.{Config}
use Rattle.sds_types.specs.declared.row.Change.{Change}
use Rattle.sds_types.specs.declared.row.RowStep.{RowStep}
use Rattle.sds_types.specs.declared.row.TableRow.{TableRow}
use Rattle.sds_types.specs.declared.trigger.TriggerDef.{TriggerDef}
use Rattle.sds_trade.proofs.CutLaw.{cut_is_a_cut}
use Rattle.sds_trade.proofs.Lists.{all_head, all_tail}
use Rattle.sds_trade.specs.rules.Batches.{batches_of, channels_in_order, lane_batches, lane_changes, peers_named, routed_changes}
use Rattle.sds_trade.specs.rules.Captured.{Done, captured_channel, captures, change_in, change_of, numbered_change, trigger_on}
use Rattle.sds_trade.specs.rules.Cuts.{changes_in, cut}
use Rattle.sds_trade.specs.rules.Named.{targets_of}
use Rattle.sds_trade.specs.rules.Sound.{IsSound}
use Rattle.sds_trade.specs.rules.Steps.{table_of}
use Rattle.sds_trade.specs.sound.Sections.{IsChannel}
use Rattle.sds_trade.specs.sound.Triggers.{IsTrigger}
use Rattle.sds_history.specs.history.Acts.{Act, State}
use Rattle.sds_history.specs.history.Acts.Act.{Opened, Joined, Confirmed, Wrote, Routed, Loaded, Erred, Acked}
use Rattle.sds_history.specs.history.Changes.{changes_after, runs_after, unrouted_after}
use Rattle.sds_history.specs.history.Made.{made_after, next_batches, out_batch, peers_at}
use Rattle.sds_history.specs.history.Runs.{Run, captured_count, captured_in, dones_of, last_change_after, last_tx_after, mark_after, source_of, tables_after}
use Rattle.sds_history.specs.history.Standings.{with_standing}
use Rattle.sds_history.specs.history.States.{new_state}
use Rattle.sds_history.specs.world.RoutedOnce.{all_routed, holders_of, holds, named_after, routed_change}
use Rattle.sds_nodelaws.specs.Counters.{change_ids}
use Rattle.sds_nodelaws.specs.Routing.{RoutedInOneBatch}
use Rattle.sds_nodelaws.proofs.Channels.{At, numbered_all, sorted_all}
use Rattle.sds_nodelaws.proofs.Counted.{ids_after, mark_within}
use Rattle.sds_nodelaws.proofs.Held.{Apart, all_of, flat_same, has_id, held, held_flat, held_numbered, held_pieces, in_lane, lane_filter, mapped}
use Rattle.sds_nodelaws.proofs.Routing.{Among, IsInOrder, out_holds, run_names}
use Rattle.sds_nodelaws.proofs.Targets.{one_if, range_above}
use Rattle.sds_nodelaws.proofs.Tests.{at_most, other_number}

-- NUMBERS. Changes that are numbered in a row are apart, and within the last number
above_all : (a : ℕ) (changes : List Change) (n : ℕ) → change_ids changes ≡ range_with_len (a + 1) n → All (λ (c : Change). a < c.id) changes
above_all a changes n same = unmapped a changes (subst (All (λ (k : ℕ). a + 1 ≤ k)) (sym same) (range_above (a + 1) n))
  where
    more : (b k : ℕ) → b + 1 ≤ k → b < k
    more b k least = omega (arith, least)

    unmapped : (b : ℕ) (cs : List Change) → All (λ (k : ℕ). b + 1 ≤ k) (change_ids cs) → All (λ (c : Change). b < c.id) cs
    unmapped b [] are = All-nil (λ (c : Change). b < c.id)
    unmapped b (c ∷ cs) are =
        All-cons (λ (d : Change). b < d.id) c cs (more b c.id (all_head (λ (k : ℕ). b + 1 ≤ k) c.id (change_ids cs) are))
        (unmapped b cs (all_tail (λ (k : ℕ). b + 1 ≤ k) c.id (change_ids cs) are))

other_id : (a b : ℕ) → a < b → a ≢ b
other_id a b less same = absurd (omega (arith, less, same))

abbrev head_or : ℕ → List ℕ → ℕ
head_or other [] = other
head_or other (n ∷ ns) = n

abbrev tail_of : List ℕ → List ℕ
tail_of [] = []
tail_of (n ∷ ns) = ns

apart_in_row : (a : ℕ) (changes : List Change) (n : ℕ) → change_ids changes ≡ range_with_len a n → AllPairs Apart changes
apart_in_row a [] n same = λ i j d less within. absurd (omega (arith, within))
apart_in_row a (change ∷ changes) zero same = absurd (true≢false (ap (λ l. elim l [ [] ↦ false | k ∷ ks ↦ true ]) same))
apart_in_row a (change ∷ changes) (suc n) same =
    let first : change.id ≡ a = ap (head_or change.id) same in
    let rest : change_ids changes ≡ range_with_len (a + 1) n = ap tail_of same in
    AllPairs-cons Apart change changes
    (mapped (λ (c : Change). a < c.id) (Apart change) changes (λ c less. subst (λ k. k ≢ c.id) (sym first) (other_id a c.id less)) (above_all a changes n rest))
    (apart_in_row (a + 1) changes n rest)

range_below : (a n : ℕ) → All (λ (k : ℕ). k < a + n) (range_with_len a n)
range_below a zero = All-nil (λ (k : ℕ). k < a + zero)
range_below a (suc n) =
    All-cons (λ (k : ℕ). k < a + suc n) a (range_with_len (a + 1) n) (first a n)
    (mapped (λ (k : ℕ). k < (a + 1) + n) (λ (k : ℕ). k < a + suc n) (range_with_len (a + 1) n) (λ k less. later a n k less) (range_below (a + 1) n))
  where
    first : (b m : ℕ) → b < b + suc m
    first b m = omega arith

    later : (b m k : ℕ) → k < (b + 1) + m → k < b + suc m
    later b m k less = omega (arith, less)

below_all : (changes : List Change) (a n : ℕ) → change_ids changes ≡ range_with_len a n → All (λ (c : Change). c.id < a + n) changes
below_all changes a n same = unmapped changes (subst (All (λ (k : ℕ). k < a + n)) (sym same) (range_below a n))
  where
    unmapped : (cs : List Change) → All (λ (k : ℕ). k < a + n) (change_ids cs) → All (λ (c : Change). c.id < a + n) cs
    unmapped [] are = All-nil (λ (c : Change). c.id < a + n)
    unmapped (c ∷ cs) are =
        All-cons (λ (d : Change). d.id < a + n) c cs (all_head (λ (k : ℕ). k < a + n) c.id (change_ids cs) are)
        (unmapped cs (all_tail (λ (k : ℕ). k < a + n) c.id (change_ids cs) are))

-- CHANNELS. A change goes in a channel that is there
found_all : {X : Type 0} (P : X → Type 0) (p : X → Bool) (xs : List X) (x : X) → All P xs → find p xs ≡ Some x → P x
found_all P p [] x are is = absurd (true≢false (sym (ap (λ o. elim o [ None ↦ false | Some y ↦ true ]) is)))
found_all P p (y ∷ xs) x are is = found_on P y xs x (p y) (find p xs) are is (λ rest. found_all P p xs x (all_tail P y xs are) rest)
  where
    found_on : {X : Type 0} (P : X → Type 0) (y : X) (xs : List X) (x : X) (b : Bool) (found : Option X) → All P (y ∷ xs)
        → cond b (Some y) found ≡ Some x → (found ≡ Some x → P x) → P x
    found_on P y xs x true found are is rest = subst P (ap (λ o. elim o [ None ↦ y | Some z ↦ z ]) is) (all_head P y xs are)
    found_on P y xs x false found are is rest = rest is

kept_all : {X Y : Type 0} (P : Y → Type 0) (h : X → Option Y) (xs : List X) → ((x : X) (y : Y) → h x ≡ Some y → P y) → All P (filter_map h xs)
kept_all P h [] each = All-nil P
kept_all P h (x ∷ xs) each = kept_on P (h x) (filter_map h xs) (each x) (kept_all P h xs each)
  where
    kept_on : {Y : Type 0} (P : Y → Type 0) (found : Option Y) (ys : List Y) → ((y : Y) → found ≡ Some y → P y) → All P ys → All P (cons_option found ys)
    kept_on P None ys each rest = rest
    kept_on P (Some y) ys each rest = All-cons P y ys (each y refl) rest

abbrev InRange : Config → Change → Type 0
InRange config change = change.channel < length config.channels

channel_on : (config : Config) (b : Bool) (at : ℕ × TriggerDef) (channel : ℕ) → IsTrigger config at.1
    → elim b [ true ↦ Some at.1.channel | false ↦ None ] ≡ Some channel → channel < length config.channels
channel_on config true at channel sound is = subst (λ c. c < length config.channels) (ap (λ o. elim o [ None ↦ channel | Some c ↦ c ]) is) sound.channel
channel_on config false at channel sound is = absurd (true≢false (sym (ap (λ o. elim o [ None ↦ false | Some c ↦ true ]) is)))

trigger_in : (config : Config) (group : List ℕ) (incoming : Bool) (step : RowStep) (channel : ℕ) (found : Option (ℕ × TriggerDef))
    → ((at : ℕ × TriggerDef) → found ≡ Some at → IsTrigger config at.1)
    → option_and_then (λ (at : ℕ × TriggerDef). elim (captures config group incoming step at) [ true ↦ Some at.1.channel | false ↦ None ]) found ≡ Some channel
    → channel < length config.channels
trigger_in config group incoming step channel None sound is = absurd (true≢false (sym (ap (λ o. elim o [ None ↦ false | Some c ↦ true ]) is)))
trigger_in config group incoming step channel (Some at) sound is = channel_on config (captures config group incoming step at) at channel (sound at refl) is

numbered_triggers : (config : Config) (n : ℕ) (triggers : List TriggerDef) → All (IsTrigger config) triggers
    → All (λ (at : ℕ × TriggerDef). IsTrigger config at.1) (enumerate_from n triggers)
numbered_triggers config n [] are = All-nil (λ (at : ℕ × TriggerDef). IsTrigger config at.1)
numbered_triggers config n (trigger ∷ triggers) are =
    All-cons (λ (at : ℕ × TriggerDef). IsTrigger config at.1) (n, trigger) (enumerate_from (n + 1) triggers) (all_head (IsTrigger config) trigger triggers are)
    (numbered_triggers config (n + 1) triggers (all_tail (IsTrigger config) trigger triggers are))

captured_range : (config : Config) (group : List ℕ) (incoming : Bool) (step : RowStep) (channel : ℕ) → IsSound config
    → captured_channel config group incoming step ≡ Some channel → channel < length config.channels
captured_range config group incoming step channel sound is =
    trigger_in config group incoming step channel (trigger_on config (table_of step))
    (λ at found. found_all (λ (a : ℕ × TriggerDef). IsTrigger config a.1) (λ (a : ℕ × TriggerDef). a.1.source_table == table_of step)
    (enumerate_from 0 config.triggers) at (numbered_triggers config 0 config.triggers sound.triggers.each) found) is

change_on : (config : Config) (tx : ℕ) (source : Option (List ℕ)) (done : Done) (found : Option ℕ) (change : Change)
    → ((channel : ℕ) → found ≡ Some channel → channel < length config.channels) → option_map (change_in tx source done) found ≡ Some change
    → InRange config change
change_on config tx source done None change range is = absurd (true≢false (sym (ap (λ o. elim o [ None ↦ false | Some c ↦ true ]) is)))
change_on config tx source done (Some channel) change range is =
    subst (InRange config) (ap (λ o. elim o [ None ↦ change | Some c ↦ c ]) is) (range channel refl)

numbered_range : (config : Config) (first : ℕ) (changes : List Change) → All (InRange config) changes
    → All (InRange config) (map numbered_change (enumerate_from first changes))
numbered_range config first [] are = All-nil (InRange config)
numbered_range config first (change ∷ changes) are =
    All-cons (InRange config) (numbered_change (first, change)) (map numbered_change (enumerate_from (first + 1) changes))
    (all_head (InRange config) change changes are) (numbered_range config (first + 1) changes (all_tail (InRange config) change changes are))

captured_all : (config : Config) (opening : State) (first tx : ℕ) (run : Run) → IsSound config → All (InRange config) (captured_in config opening first tx run)
captured_all config opening first tx run sound =
    numbered_range config first (filter_map (change_of config opening.me.group tx (source_of run.act)) (dones_of run.end))
    (kept_all (InRange config) (change_of config opening.me.group tx (source_of run.act)) (dones_of run.end)
    (λ done change is. change_on config tx (source_of run.act) done (captured_channel config opening.me.group (is_some (source_of run.act)) done.step) change
    (λ channel found. captured_range config opening.me.group (is_some (source_of run.act)) done.step channel sound found) is))

all_in_range : (config : Config) (me : Peer) (runs : List Run) → IsSound config → All (InRange config) (changes_after config (new_state me) runs)
all_in_range config me [] sound = All-nil (InRange config)
all_in_range config me (run ∷ older) sound =
    All-append (InRange config) (changes_after config (new_state me) older)
    (captured_in config (new_state me) (last_change_after config (new_state me) older + 1) (last_tx_after (new_state me) older + 1) run)
    (all_in_range config me older sound)
    (captured_all config (new_state me) (last_change_after config (new_state me) older + 1) (last_tx_after (new_state me) older + 1) run sound)

-- UNROUTED. Those that a run takes
record AreTaken (config : Config) (me : Peer) (runs : List Run) : Type 0 where
  apart : AllPairs Apart (unrouted_after config (new_state me) runs)
  range : All (InRange config) (unrouted_after config (new_state me) runs)
  above : All (λ (c : Change). mark_after config (new_state me) runs < c.id) (unrouted_after config (new_state me) runs)
  below : All (λ (c : Change). c.id ≤ last_change_after config (new_state me) runs) (unrouted_after config (new_state me) runs)

above_mark : (mark : ℕ) (changes : List Change) → All (λ (c : Change). mark < c.id) (filter (λ (c : Change). nat_lt mark c.id) changes)
above_mark mark [] = All-nil (λ (c : Change). mark < c.id)
above_mark mark (change ∷ changes) = above_on mark change (filter (λ (c : Change). nat_lt mark c.id) changes) (nat_lt mark change.id) refl (above_mark mark changes)
  where
    less : (a b : ℕ) → nat_lt a b ≡ true → a < b
    less a b is = grind (arith, nat_tests)

    above_on : (m : ℕ) (c : Change) (cs : List Change) (b : Bool) → nat_lt m c.id ≡ b → All (λ (d : Change). m < d.id) cs
        → All (λ (d : Change). m < d.id) (cond b (c ∷ cs) cs)
    above_on m c cs true is rest = All-cons (λ (d : Change). m < d.id) c cs (less m c.id is) rest
    above_on m c cs false is rest = rest

within_last : (k n : ℕ) → k < 0 + 1 + n → k ≤ 0 + n
within_last k n less = omega (arith, less)

taken : (config : Config) (me : Peer) (runs : List Run) → IsSound config → AreTaken config me runs
taken config me runs sound =
    let ids : change_ids (changes_after config (new_state me) runs) ≡ range_with_len (0 + 1) (captured_count config (new_state me) runs) =
    ids_after config (new_state me) runs in
    let test : Change → Bool = λ (c : Change). nat_lt (mark_after config (new_state me) runs) c.id in
    record {
      apart = AllPairs-filter Apart test (changes_after config (new_state me) runs)
          (apart_in_row (0 + 1) (changes_after config (new_state me) runs) (captured_count config (new_state me) runs) ids);
      range = All-filter test (InRange config) (changes_after config (new_state me) runs) (all_in_range config me runs sound);
      above = above_mark (mark_after config (new_state me) runs) (changes_after config (new_state me) runs);
      below = All-filter test (λ (c : Change). c.id ≤ last_change_after config (new_state me) runs) (changes_after config (new_state me) runs)
          (mapped (λ (c : Change). c.id < 0 + 1 + captured_count config (new_state me) runs)
          (λ (c : Change). c.id ≤ last_change_after config (new_state me) runs) (changes_after config (new_state me) runs)
          (λ c less. within_last c.id (captured_count config (new_state me) runs) less)
          (below_all (changes_after config (new_state me) runs) (0 + 1) (captured_count config (new_state me) runs) ids));
    }

-- NONE. A run's batches hold no change that it didn't take
none_of : (id : ℕ) (changes : List Change) → All (λ (c : Change). c.id ≢ id) changes → has_id id changes ≡ false
none_of id [] apart = refl
none_of id (change ∷ changes) apart =
    ap (λ b. b || has_id id changes) (other_number id change.id (λ same. all_head (λ (c : Change). c.id ≢ id) change changes apart (sym same)))
    ∙ none_of id changes (all_tail (λ (c : Change). c.id ≢ id) change changes apart)

abbrev no_peers : {X : Type 0} → X → List ℕ
no_peers x = []

nothing_flat : {X : Type 0} (xs : List X) → flat_map no_peers xs ≡ []
nothing_flat [] = refl
nothing_flat (x ∷ xs) = flat_map-cons no_peers x xs ∙ nothing_flat xs

lane_none : (targets : Change → List ℕ) (changes : List Change) (id : ℕ) (at : At) (peer : ℕ) → AllPairs Apart changes → All (λ (c : Change). c.id ≢ id) changes
    → 1 ≤ at.1.max_batch_size → held id (lane_batches (map (λ (c : Change). (c, targets c)) changes) at peer) ≡ []
lane_none targets changes id at peer apart none some =
    let lane : List Change = lane_changes (map (λ (c : Change). (c, targets c)) changes) at.0 peer in
    let is_lane : lane ≡ filter (in_lane targets at.0 peer) changes = lane_filter targets at.0 peer changes in
    let joined : changes_in (cut at.1.batch_algorithm at.1.max_batch_size lane) ≡ lane = (cut_is_a_cut at.1.batch_algorithm at.1.max_batch_size lane some).1 in
    held_pieces id at.0 peer (cut at.1.batch_algorithm at.1.max_batch_size lane)
    (subst (AllPairs Apart) (sym (joined ∙ is_lane)) (AllPairs-filter Apart (in_lane targets at.0 peer) changes apart))
    ∙ ap (λ b. one_if b peer) (ap (has_id id) (joined ∙ is_lane)
    ∙ none_of id (filter (in_lane targets at.0 peer) changes) (All-filter (in_lane targets at.0 peer) (λ (c : Change). c.id ≢ id) changes none))

channel_none : (targets : Change → List ℕ) (changes : List Change) (id : ℕ) (at : At) (peers : List ℕ) → AllPairs Apart changes
    → All (λ (c : Change). c.id ≢ id) changes → 1 ≤ at.1.max_batch_size
    → held id (flat_map (lane_batches (map (λ (c : Change). (c, targets c)) changes) at) peers) ≡ []
channel_none targets changes id at peers apart none some =
    held_flat id (lane_batches (map (λ (c : Change). (c, targets c)) changes) at) peers
    ∙ (flat_same (λ (p : ℕ). held id (lane_batches (map (λ (c : Change). (c, targets c)) changes) at p)) no_peers peers
    (all_of (λ (p : ℕ). held id (lane_batches (map (λ (c : Change). (c, targets c)) changes) at p) ≡ []) peers
    (λ p. lane_none targets changes id at p apart none some)) ∙ nothing_flat peers)

run_none : (config : Config) (me : Peer) (rows : List TableRow) (peers : List Peer) (first : ℕ) (changes : List Change) (id : ℕ) → IsInOrder config
    → AllPairs Apart changes → All (λ (c : Change). c.id ≢ id) changes
    → holders_of (map (out_batch peers) (batches_of config first (routed_changes config me rows peers changes))) id ≡ []
run_none config me rows peers first changes id sound apart none =
    let targets : Change → List ℕ = targets_of config me rows peers in
    let routed : List (Change × List ℕ) = map (λ (c : Change). (c, targets c)) changes in
    let n : ℕ = peers_named routed in
    out_holds peers id (batches_of config first routed)
    ∙ ap (map (λ place. option_map_or (λ (peer : Peer). peer.id) (slice_get peers place) []))
    (held_numbered id first (flat_map (λ (at : At). flat_map (lane_batches routed at) (range_with_len 0 n)) (channels_in_order config))
    ∙ (held_flat id (λ (at : At). flat_map (lane_batches routed at) (range_with_len 0 n)) (channels_in_order config)
    ∙ (flat_same (λ (at : At). held id (flat_map (lane_batches routed at) (range_with_len 0 n))) no_peers (channels_in_order config)
    (sorted_all (λ (at : At). held id (flat_map (lane_batches routed at) (range_with_len 0 n)) ≡ []) (enumerate_from 0 config.channels)
    (mapped (λ (at : At). 1 ≤ at.1.max_batch_size) (λ (at : At). held id (flat_map (lane_batches routed at) (range_with_len 0 n)) ≡ [])
    (enumerate_from 0 config.channels) (λ at some. channel_none targets changes id at (range_with_len 0 n) apart none some)
    (numbered_all (λ (def : ChannelDef). 1 ≤ def.max_batch_size) 0 config.channels sound.some)))
    ∙ nothing_flat (channels_in_order config))))

-- HOLDERS
holders_append : (xs ys : List OutBatch) (id : ℕ) → holders_of (xs ++ ys) id ≡ holders_of xs id ++ holders_of ys id
holders_append xs ys id =
    ap (map (λ (b : OutBatch). b.peer)) (filter-append (holds id) xs ys) ∙ map-append (λ (b : OutBatch). b.peer) (filter (holds id) xs) (filter (holds id) ys)

stands_on : (all : List OutBatch) (acts : List Act) (batch : OutBatch) (b : Bool) (xs ys : List OutBatch)
    → map (λ (o : OutBatch). o.peer) xs ≡ map (λ (o : OutBatch). o.peer) ys
    → map (λ (o : OutBatch). o.peer) (cond b (with_standing all acts batch ∷ xs) xs) ≡ map (λ (o : OutBatch). o.peer) (cond b (batch ∷ ys) ys)
stands_on all acts batch true xs ys same = ap (λ l. batch.peer ∷ l) same
stands_on all acts batch false xs ys same = same

holders_stand : (all : List OutBatch) (acts : List Act) (batches : List OutBatch) (id : ℕ) → holders_of (map (with_standing all acts) batches) id ≡ holders_of batches id
holders_stand all acts [] id = refl
holders_stand all acts (batch ∷ batches) id =
    stands_on all acts batch (holds id batch) (filter (holds id) (map (with_standing all acts) batches)) (filter (holds id) batches) (holders_stand all acts batches id)

-- EVERY RUN. Nothing past the mark is held, and each routed change is held as it was for
in_order : (config : Config) → IsSound config → IsInOrder config
in_order config sound = record {
  some = mapped IsChannel (λ (def : ChannelDef). 1 ≤ def.max_batch_size) config.channels (λ def is. is.size) sound.channels.each;
  apart = sound.channels.apart;
}

record IsRouted (config : Config) (me : Peer) (runs : List Run) : Type 0 where
  past : (id : ℕ) → mark_after config (new_state me) runs < id → holders_of (made_after config (new_state me) runs) id ≡ []
  held : All (λ (at : ℕ × List (List ℕ)). holders_of (made_after config (new_state me) runs) at.0 ≡ at.1) (all_routed config (new_state me) runs)
  marked : All (λ (at : ℕ × List (List ℕ)). at.0 ≤ mark_after config (new_state me) runs) (all_routed config (new_state me) runs)

among_from : (P : Change → Type 0) (all before changes : List Change) → all ≡ before ++ changes → ((change : Change) → Among all change → P change) → All P changes
among_from P all before [] same each = All-nil P
among_from P all before (change ∷ changes) same each =
    All-cons P change changes (each change (record { before = before; later = changes; same = same }))
    (among_from P all (before ++ change ∷ []) changes (same ∙ sym (append_assoc before (change ∷ []) changes)) each)

both_all : {X : Type 0} (P Q R : X → Type 0) (xs : List X) → ((x : X) → P x → Q x → R x) → All P xs → All Q xs → All R xs
both_all P Q R xs each first second k d within = each _ (first k d within) (second k d within)

last_part : (Q : Change → Type 0) (xs : List Change) (change : Change) (later : List Change) → All Q (xs ++ change ∷ later) → All Q (change ∷ later)
last_part Q [] change later are = are
last_part Q (x ∷ xs) change later are = last_part Q xs change later (all_tail Q x (xs ++ change ∷ later) are)

among_all : (Q : Change → Type 0) (all : List Change) (change : Change) → Among all change → All Q all → Q change
among_all Q all change among are =
    all_head Q change among.later (last_part Q among.before change among.later (subst (All Q) among.same are))

past_last : (mark last id : ℕ) → mark ≤ last → last < id → mark < id
past_last mark last id within less = omega (arith, within, less)

past_each : (last id c : ℕ) → c ≤ last → last < id → c ≢ id
past_each last id c within less same = absurd (omega (arith, within, less, same))

before_each : (mark id c : ℕ) → id ≤ mark → mark < c → c ≢ id
before_each mark id c within less same = absurd (omega (arith, within, less, same))

none_marked : (me : Peer) → 0 ≤ 0
none_marked me = omega arith

routed_step : (config : Config) (me : Peer) (run : Run) (older : List Run) → IsSound config → run.act ≡ Routed → IsRouted config me older
    → (marks : mark_after config (new_state me) (run ∷ older) ≡ last_change_after config (new_state me) older)
    → (made : made_after config (new_state me) (run ∷ older) ≡ made_after config (new_state me) older
    ++ next_batches config (new_state me) (0 + length (made_after config (new_state me) older) + 1) older)
    → (routes : all_routed config (new_state me) (run ∷ older) ≡ all_routed config (new_state me) older
    ++ map (routed_change config (new_state me) older) (unrouted_after config (new_state me) older))
    → IsRouted config me (run ∷ older)
routed_step config me run older sound act before marks made routes =
    let opening : State = new_state me in
    let first : ℕ = 0 + length (made_after config opening older) + 1 in
    let new : List OutBatch = next_batches config opening first older in
    let old : List OutBatch = made_after config opening older in
    let changes : List Change = unrouted_after config opening older in
    let are : AreTaken config me older = taken config me older sound in
    let within : mark_after config opening older ≤ last_change_after config opening older = mark_within config opening older (none_marked me) in
    let holders : (id : ℕ) → holders_of (made_after config opening (run ∷ older)) id ≡ holders_of old id ++ holders_of new id =
    λ id. ap (λ bs. holders_of bs id) made ∙ holders_append old new id in
    let none : (id : ℕ) → All (λ (c : Change). c.id ≢ id) changes → holders_of new id ≡ [] =
    λ id apart. run_none config me (tables_after opening older) (peers_at opening older) first changes id (in_order config sound) are.apart apart in
    let one : (change : Change) → Among changes change → holders_of (made_after config opening (run ∷ older)) change.id
    ≡ named_after config opening older change = λ change among.
    holders change.id
    ∙ (ap (λ l. l ++ holders_of new change.id)
    (before.past change.id (among_all (λ (c : Change). mark_after config opening older < c.id) changes change among are.above))
    ∙ run_names config me (tables_after opening older) (peers_at opening older) first changes change (in_order config sound) are.apart among
    (among_all (InRange config) changes change among are.range)) in
    record {
      past = λ id less. holders id
          ∙ (ap (λ l. l ++ holders_of new id) (before.past id (past_last (mark_after config opening older) (last_change_after config opening older) id within
          (subst (λ m. m < id) marks less)))
          ∙ none id (mapped (λ (c : Change). c.id ≤ last_change_after config opening older) (λ (c : Change). c.id ≢ id) changes
          (λ c most. past_each (last_change_after config opening older) id c.id most (subst (λ m. m < id) marks less)) are.below));
      held = subst (All (λ (at : ℕ × List (List ℕ)). holders_of (made_after config opening (run ∷ older)) at.0 ≡ at.1)) (sym routes)
          (All-append (λ (at : ℕ × List (List ℕ)). holders_of (made_after config opening (run ∷ older)) at.0 ≡ at.1)
          (all_routed config opening older) (map (routed_change config opening older) changes)
          (both_all (λ (at : ℕ × List (List ℕ)). holders_of old at.0 ≡ at.1) (λ (at : ℕ × List (List ℕ)). at.0 ≤ mark_after config opening older)
          (λ (at : ℕ × List (List ℕ)). holders_of (made_after config opening (run ∷ older)) at.0 ≡ at.1) (all_routed config opening older)
          (λ at is most. holders at.0 ∙ (ap (λ l. l ++ holders_of new at.0) is
          ∙ (ap (λ l. at.1 ++ l) (none at.0 (mapped (λ (c : Change). mark_after config opening older < c.id) (λ (c : Change). c.id ≢ at.0) changes
          (λ c less. before_each (mark_after config opening older) at.0 c.id most less) are.above)) ∙ append-nil at.1)))
          before.held before.marked)
          (All-map (λ (at : ℕ × List (List ℕ)). holders_of (made_after config opening (run ∷ older)) at.0 ≡ at.1) (routed_change config opening older) changes
          (among_from (λ (c : Change). holders_of (made_after config opening (run ∷ older)) c.id ≡ named_after config opening older c) changes [] changes refl one)));
      marked = subst (All (λ (at : ℕ × List (List ℕ)). at.0 ≤ mark_after config opening (run ∷ older))) (sym routes)
          (All-append (λ (at : ℕ × List (List ℕ)). at.0 ≤ mark_after config opening (run ∷ older))
          (all_routed config opening older) (map (routed_change config opening older) changes)
          (mapped (λ (at : ℕ × List (List ℕ)). at.0 ≤ mark_after config opening older) (λ (at : ℕ × List (List ℕ)). at.0 ≤ mark_after config opening (run ∷ older))
          (all_routed config opening older)
          (λ at most. subst (λ m. at.0 ≤ m) (sym marks) (at_most at.0 (mark_after config opening older) (last_change_after config opening older) most within))
          before.marked)
          (All-map (λ (at : ℕ × List (List ℕ)). at.0 ≤ mark_after config opening (run ∷ older)) (routed_change config opening older) changes
          (mapped (λ (c : Change). c.id ≤ last_change_after config opening older) (λ (c : Change). c.id ≤ mark_after config opening (run ∷ older)) changes
          (λ c most. subst (λ m. c.id ≤ m) (sym marks) most) are.below)));
    }

plain_step : (config : Config) (me : Peer) (run : Run) (older : List Run) → IsRouted config me older
    → mark_after config (new_state me) (run ∷ older) ≡ mark_after config (new_state me) older
    → made_after config (new_state me) (run ∷ older) ≡ made_after config (new_state me) older
    → all_routed config (new_state me) (run ∷ older) ≡ all_routed config (new_state me) older → IsRouted config me (run ∷ older)
plain_step config me run older before marks made routes = record {
  past = λ id less. ap (λ bs. holders_of bs id) made ∙ before.past id (subst (λ m. m < id) marks less);
  held = subst (All (λ (at : ℕ × List (List ℕ)). holders_of (made_after config (new_state me) (run ∷ older)) at.0 ≡ at.1)) (sym routes)
      (subst (λ bs. All (λ (at : ℕ × List (List ℕ)). holders_of bs at.0 ≡ at.1) (all_routed config (new_state me) older)) (sym made) before.held);
  marked = subst (All (λ (at : ℕ × List (List ℕ)). at.0 ≤ mark_after config (new_state me) (run ∷ older))) (sym routes)
      (subst (λ m. All (λ (at : ℕ × List (List ℕ)). at.0 ≤ m) (all_routed config (new_state me) older)) (sym marks) before.marked);
}

abbrev act_run : Act → Run → Run
act_run act run = record run { act = act }

one_run : (config : Config) (me : Peer) (act : Act) (run : Run) (older : List Run) → IsSound config → IsRouted config me older
    → IsRouted config me (act_run act run ∷ older)
one_run config me Routed run older sound before = routed_step config me (act_run Routed run) older sound refl before refl refl refl
one_run config me (Opened group external token) run older sound before =
    plain_step config me (act_run (Opened group external token) run) older before refl refl (append-nil (all_routed config (new_state me) older))
one_run config me (Joined kept) run older sound before =
    plain_step config me (act_run (Joined kept) run) older before refl refl (append-nil (all_routed config (new_state me) older))
one_run config me (Confirmed peer) run older sound before =
    plain_step config me (act_run (Confirmed peer) run) older before refl refl (append-nil (all_routed config (new_state me) older))
one_run config me (Wrote writer number rows) run older sound before =
    plain_step config me (act_run (Wrote writer number rows) run) older before refl refl (append-nil (all_routed config (new_state me) older))
one_run config me (Loaded channel batch) run older sound before =
    plain_step config me (act_run (Loaded channel batch) run) older before refl refl (append-nil (all_routed config (new_state me) older))
one_run config me (Erred from channel error) run older sound before =
    plain_step config me (act_run (Erred from channel error) run) older before refl refl (append-nil (all_routed config (new_state me) older))
one_run config me (Acked from acks) run older sound before =
    plain_step config me (act_run (Acked from acks) run) older before refl refl (append-nil (all_routed config (new_state me) older))

all_runs : (config : Config) (me : Peer) (runs : List Run) → IsSound config → IsRouted config me runs
all_runs config me [] sound = record {
  past = λ id less. refl;
  held = All-nil (λ (at : ℕ × List (List ℕ)). holders_of (made_after config (new_state me) []) at.0 ≡ at.1);
  marked = All-nil (λ (at : ℕ × List (List ℕ)). at.0 ≤ mark_after config (new_state me) []);
}
all_runs config me (run ∷ older) sound = one_run config me run.act run older sound (all_runs config me older sound)

pub routed_in_one_batch : RoutedInOneBatch
routed_in_one_batch config sound me acts faults =
    let opening : State = new_state me in
    let runs : List Run = runs_after config opening acts in
    mapped (λ (at : ℕ × List (List ℕ)). holders_of (made_after config opening runs) at.0 ≡ at.1)
    (λ (at : ℕ × List (List ℕ)). holders_of (map (with_standing (made_after config opening runs) acts) (made_after config opening runs)) at.0 ≡ at.1)
    (all_routed config opening runs)
    (λ at is. holders_stand (made_after config opening runs) acts (made_after config opening runs) at.0 ∙ is)
    (all_runs config me runs sound).held

-- The counters of a sound state after an act, and the numbers of its changes.
use Rattle.std.proofs.Common.{◌≡◌, ℕ, ◌+◌, ◌-◌, ◌<◌, ◌≤◌, ◌==◌, Bool, true, false, List, [], ◌∷◌, ◌++◌, length, map, Option, None, Some, refl, sym, ap, subst, ◌∙◌, arith, ◌||◌, All, filter_map, option_map}
use Rattle.std.specs.List.{cons_option, enumerate_from, list_all, list_any, range_with_len}
use Rattle.std.specs.Prelude.{is_some, nat_le, nat_lt}
use Rattle.std.proofs.lemmas.List.Elements.{All-nil, All-cons, All-append}
use Rattle.std.proofs.lemmas.List.Folds.{list_any-append}
use Rattle.std.proofs.lemmas.List.Sums.{AllPass-from_list_all, list_all-from_AllPass}
use Rattle.sds_types.specs.Limits.{most_count}
use Rattle.sds_types.specs.declared.config.Config.{Config}
use Rattle.sds_types.specs.declared.counts.Counts.{Counts}
use Rattle.sds_types.specs.declared.row.Change.{Change}
use Rattle.sds_trade.proofs.Lists.{all_head, all_tail}
use Rattle.sds_trade.specs.rules.Captured.{Done, captured_channel, change_in, change_of, changes_of, numbered_change}
use Rattle.sds_history.specs.history.Acts.{Act, State}
use Rattle.sds_history.specs.history.Acts.Act.{Opened, Joined, Confirmed, Wrote, Routed, Loaded, Erred, Acked}
use Rattle.sds_history.specs.history.Changes.{run_after, runs_after}
use Rattle.sds_history.specs.history.Counters.{is_past}
use Rattle.sds_history.specs.history.Runs.{Run, captured_in, dones_of, last_change_after}
use Rattle.sds_history.specs.history.SoundParts.{AreCounts, AscendByNumber}
use Rattle.sds_history.specs.history.SoundStates.{is_counted, is_counted_change, is_kept, unrouted_numbers}
use Rattle.sds_history.specs.history.States.{state_after}
use Rattle.sds_nodelaws.proofs.CallActs.{first_false}
use Rattle.sds_nodelaws.proofs.Counted.{captured_ids, mark_within, ranges_append}
use Rattle.sds_nodelaws.proofs.Held.{equal_itself, mapped}
use Rattle.sds_nodelaws.proofs.KeyedLists.{numbers_go_on}
use Rattle.sds_nodelaws.proofs.Lists.{and_both, and_left, and_right, any_true, from_le, from_not_lt, in_all, is_le, least_in_range, map_all, most_in_range, second_false, unmap_all}
use Rattle.sds_nodelaws.proofs.Tests.{or_left, or_right}

-- COUNTERS
pub counts_fit : (config : Config) (state : State) (act : Act) → AreCounts state.counts → is_past (state_after config state act).counts ≡ false
    → AreCounts (state_after config state act).counts
counts_fit config state act are isnt =
    let now : Counts = (state_after config state act).counts in
    let changes : (nat_lt most_count now.last_change || (nat_lt most_count now.last_batch || nat_lt most_count now.last_tx)) ≡ false =
    second_false (nat_lt most_count now.acts) (nat_lt most_count now.last_change || (nat_lt most_count now.last_batch || nat_lt most_count now.last_tx)) isnt in
    let batches : (nat_lt most_count now.last_batch || nat_lt most_count now.last_tx) ≡ false =
    second_false (nat_lt most_count now.last_change) (nat_lt most_count now.last_batch || nat_lt most_count now.last_tx) changes in
    record {
      acts = from_not_lt most_count now.acts
          (first_false (nat_lt most_count now.acts) (nat_lt most_count now.last_change || (nat_lt most_count now.last_batch || nat_lt most_count now.last_tx)) isnt);
      last_change = from_not_lt most_count now.last_change
          (first_false (nat_lt most_count now.last_change) (nat_lt most_count now.last_batch || nat_lt most_count now.last_tx) changes);
      last_batch = from_not_lt most_count now.last_batch (first_false (nat_lt most_count now.last_batch) (nat_lt most_count now.last_tx) batches);
      last_tx = from_not_lt most_count now.last_tx (second_false (nat_lt most_count now.last_batch) (nat_lt most_count now.last_tx) batches);
      routed = mark_within config state (runs_after config state (act ∷ [])) are.routed;
      none = λ zero. absurd (one_made state.counts.acts zero);
    }
  where
    one_made : (n : ℕ) → n + 1 ≡ 0 → ⊥
    one_made n none = omega (arith, none)

-- CHANGES. What holds of each change that steps become
numbered_each : (P : Change → Type 0) → ((change : Change) (id : ℕ) → P change → P (record change { id = id })) → (first : ℕ) (changes : List Change)
    → All P changes → All P (map numbered_change (enumerate_from first changes))
numbered_each P any first [] are = All-nil P
numbered_each P any first (change ∷ changes) are =
    All-cons P (numbered_change (first, change)) (map numbered_change (enumerate_from (first + 1) changes)) (any change first (all_head P change changes are))
    (numbered_each P any (first + 1) changes (all_tail P change changes are))

abbrev pub Becomes : (Change → Type 0) → Config → List ℕ → ℕ → Option (List ℕ) → Done → Type 0
Becomes P config group tx source done =
    (channel : ℕ) → captured_channel config group (is_some source) done.step ≡ Some channel → P (change_in tx source done channel)

captured_each : (P : Change → Type 0) (config : Config) (group : List ℕ) (tx : ℕ) (source : Option (List ℕ)) (dones : List Done)
    → All (Becomes P config group tx source) dones → All P (filter_map (change_of config group tx source) dones)
captured_each P config group tx source [] are = All-nil P
captured_each P config group tx source (done ∷ dones) are =
    on (captured_channel config group (is_some source) done.step) refl
    (captured_each P config group tx source dones (all_tail (Becomes P config group tx source) done dones are))
  where
    on : (found : Option ℕ) → captured_channel config group (is_some source) done.step ≡ found → All P (filter_map (change_of config group tx source) dones)
        → All P (cons_option (option_map (change_in tx source done) found) (filter_map (change_of config group tx source) dones))
    on None is rest = rest
    on (Some channel) is rest =
        All-cons P (change_in tx source done channel) (filter_map (change_of config group tx source) dones)
        (all_head (Becomes P config group tx source) done dones are channel is) rest

pub changes_each : (P : Change → Type 0) → ((change : Change) (id : ℕ) → P change → P (record change { id = id }))
    → (config : Config) (group : List ℕ) (first tx : ℕ) (source : Option (List ℕ)) (dones : List Done)
    → All (Becomes P config group tx source) dones → All P (changes_of config group first tx source dones)
changes_each P any config group first tx source dones are =
    numbered_each P any first (filter_map (change_of config group tx source) dones) (captured_each P config group tx source dones are)

-- those of an act
abbrev pub run_of : Config → State → Act → Run
run_of config state act = run_after config state [] act

abbrev pub captured : Config → State → Act → List Change
captured config state act = captured_in config state (last_change_after config state [] + 1) (state.counts.last_tx + 1) (run_of config state act)

abbrev how_many : Config → State → Act → ℕ
how_many config state act = length (captured_in config state 0 0 (run_of config state act))

none_more : (n : ℕ) → n + 0 ≡ n
none_more n = omega arith

next_ids : (config : Config) (state : State) (act : Act)
    → map (λ (c : Change). c.id) (captured config state act) ≡ range_with_len (state.counts.last_change + 1) (how_many config state act)
next_ids config state act =
    captured_ids config state (last_change_after config state [] + 1) (state.counts.last_tx + 1) (run_of config state act)
    ∙ ap (λ k. range_with_len (k + 1) (how_many config state act)) (none_more state.counts.last_change)

pub counted_id : (last id : ℕ) → is_counted last id ≡ true → id ≤ last
counted_id last id is = from_le id last (and_right (nat_le 1 id) (nat_le id last) is)

pub still_counted : (a b id : ℕ) → a ≤ b → is_counted a id ≡ true → is_counted b id ≡ true
still_counted a b id less is =
    and_both (nat_le 1 id) (nat_le id b) (and_left (nat_le 1 id) (nat_le id a) is) (is_le id b (below id a b (counted_id a id is) less))
  where
    below : (x y z : ℕ) → x ≤ y → y ≤ z → x ≤ z
    below x y z first second = omega (arith, first, second)

pub counted_is : (last id : ℕ) → 1 ≤ id → id ≤ last → is_counted last id ≡ true
counted_is last id some most = and_both (nat_le 1 id) (nat_le id last) (is_le 1 id some) (is_le id last most)

counted_within : (state : State) → list_all (is_counted_change state.counts) state.changes ≡ true → All (λ (c : Change). c.id ≤ state.counts.last_change) state.changes
counted_within state are =
    mapped (λ (c : Change). is_counted_change state.counts c ≡ true) (λ (c : Change). c.id ≤ state.counts.last_change) state.changes
    (λ c is. counted_id state.counts.last_change c.id (and_left (is_counted state.counts.last_change c.id) (is_counted state.counts.last_tx c.tx) is))
    (AllPass-from_list_all (is_counted_change state.counts) state.changes are)

pub changes_ascend : (config : Config) (state : State) (act : Act) → list_all (is_counted_change state.counts) state.changes ≡ true
    → AscendByNumber (λ (c : Change). c.id) state.changes → AscendByNumber (λ (c : Change). c.id) (state_after config state act).changes
changes_ascend config state act are ascend =
    numbers_go_on (λ (c : Change). c.id) state.changes (captured config state act) state.counts.last_change (how_many config state act) ascend
    (counted_within state are) (next_ids config state act)

-- the numbers of changes, and their transactions
abbrev IsOfTx : ℕ → Change → Type 0
IsOfTx tx change = change.tx ≡ tx

tx_each : (config : Config) (group : List ℕ) (first tx : ℕ) (source : Option (List ℕ)) (dones : List Done)
    → All (IsOfTx tx) (changes_of config group first tx source dones)
tx_each config group first tx source dones =
    changes_each (IsOfTx tx) (λ change id is. is) config group first tx source dones (λ k d within channel is. refl)

new_txs : (config : Config) (state : State) (act : Act)
    → All (λ (c : Change). is_counted (state_after config state act).counts.last_tx c.tx ≡ true) (captured config state act)
new_txs config state (Wrote writer number rows) =
    mapped (IsOfTx (state.counts.last_tx + 1)) (λ (c : Change). is_counted (state.counts.last_tx + 1) c.tx ≡ true) (captured config state (Wrote writer number rows))
    (λ c is. counted_tx state.counts.last_tx c.tx is)
    (tx_each config state.me.group (last_change_after config state [] + 1) (state.counts.last_tx + 1) None (dones_of (run_of config state (Wrote writer number rows)).end))
  where
    counted_tx : (last tx : ℕ) → tx ≡ last + 1 → is_counted (last + 1) tx ≡ true
    counted_tx last tx is = counted_is (last + 1) tx (omega (arith, is)) (omega (arith, is))
new_txs config state (Loaded channel batch) =
    mapped (IsOfTx (state.counts.last_tx + 1)) (λ (c : Change). is_counted (state.counts.last_tx + 1) c.tx ≡ true) (captured config state (Loaded channel batch))
    (λ c is. counted_tx state.counts.last_tx c.tx is)
    (tx_each config state.me.group (last_change_after config state [] + 1) (state.counts.last_tx + 1) (Some batch.from) (dones_of (run_of config state (Loaded channel batch)).end))
  where
    counted_tx : (last tx : ℕ) → tx ≡ last + 1 → is_counted (last + 1) tx ≡ true
    counted_tx last tx is = counted_is (last + 1) tx (omega (arith, is)) (omega (arith, is))
new_txs config state (Opened group external token) = All-nil (λ (c : Change). is_counted (state.counts.last_tx + 0) c.tx ≡ true)
new_txs config state (Joined kept) = All-nil (λ (c : Change). is_counted (state.counts.last_tx + 0) c.tx ≡ true)
new_txs config state (Confirmed peer) = All-nil (λ (c : Change). is_counted (state.counts.last_tx + 0) c.tx ≡ true)
new_txs config state Routed = All-nil (λ (c : Change). is_counted (state.counts.last_tx + 0) c.tx ≡ true)
new_txs config state (Erred from channel error) = All-nil (λ (c : Change). is_counted (state.counts.last_tx + 0) c.tx ≡ true)
new_txs config state (Acked from acks) = All-nil (λ (c : Change). is_counted (state.counts.last_tx + 0) c.tx ≡ true)

new_numbers : (config : Config) (state : State) (act : Act)
    → All (λ (c : Change). is_counted (state_after config state act).counts.last_change c.id ≡ true) (captured config state act)
new_numbers config state act =
    let last : ℕ = state.counts.last_change in
    let count : ℕ = how_many config state act in
    unmap_all (λ (k : ℕ). is_counted (last + (0 + count)) k ≡ true) (λ (c : Change). c.id) (captured config state act)
    (subst (All (λ (k : ℕ). is_counted (last + (0 + count)) k ≡ true)) (sym (next_ids config state act))
    (λ i d within. counted_is (last + (0 + count)) _ (some last _ (least_in_range (last + 1) count i d within)) (most last count _ (most_in_range (last + 1) count i d within))))
  where
    some : (a k : ℕ) → a + 1 ≤ k → 1 ≤ k
    some a k less = omega (arith, less)

    most : (a n k : ℕ) → k < (a + 1) + n → k ≤ a + (0 + n)
    most a n k less = omega (arith, less)

pub changes_counted : (config : Config) (state : State) (act : Act) → list_all (is_counted_change state.counts) state.changes ≡ true
    → list_all (is_counted_change (state_after config state act).counts) (state_after config state act).changes ≡ true
changes_counted config state act are =
    let now : Counts = (state_after config state act).counts in
    let new : List Change = captured config state act in
    list_all-from_AllPass (is_counted_change now) (state_after config state act).changes
    (All-append (λ (c : Change). is_counted_change now c ≡ true) state.changes new
    (mapped (λ (c : Change). is_counted_change state.counts c ≡ true) (λ (c : Change). is_counted_change now c ≡ true) state.changes
    (λ c is. and_both (is_counted now.last_change c.id) (is_counted now.last_tx c.tx)
    (still_counted state.counts.last_change now.last_change c.id (more state.counts.last_change _)
    (and_left (is_counted state.counts.last_change c.id) (is_counted state.counts.last_tx c.tx) is))
    (still_counted state.counts.last_tx now.last_tx c.tx (more state.counts.last_tx _)
    (and_right (is_counted state.counts.last_change c.id) (is_counted state.counts.last_tx c.tx) is)))
    (AllPass-from_list_all (is_counted_change state.counts) state.changes are))
    (λ k d within. and_both _ _ (new_numbers config state act k d within) (new_txs config state act k d within)))
  where
    more : (n m : ℕ) → n ≤ n + m
    more n m = omega arith

-- WHAT IS KEPT stays
pub change_stays : (config : Config) (state : State) (act : Act) (number : ℕ) → is_kept state number ≡ true → is_kept (state_after config state act) number ≡ true
change_stays config state act number is =
    list_any-append (λ (c : Change). c.id == number) state.changes (captured config state act)
    ∙ or_left (list_any (λ (c : Change). c.id == number) state.changes) (list_any (λ (c : Change). c.id == number) (captured config state act)) is

-- each change has its number
own_numbers : (changes : List Change) → All (λ (k : ℕ). list_any (λ (c : Change). c.id == k) changes ≡ true) (map (λ (c : Change). c.id) changes)
own_numbers changes =
    map_all (λ (k : ℕ). list_any (λ (c : Change). c.id == k) changes ≡ true) (λ (c : Change). c.id) changes
    (in_all (λ (c : Change). list_any (λ (d : Change). d.id == c.id) changes ≡ true) changes
    (λ c is. any_true (λ (d : Change). d.id == c.id) c changes is (equal_itself c.id)))

pub all_kept : (state : State) → All (λ (c : Change). is_kept state c.id ≡ true) state.changes
all_kept state = unmap_all (λ (k : ℕ). is_kept state k ≡ true) (λ (c : Change). c.id) state.changes (own_numbers state.changes)

new_kept : (config : Config) (state : State) (act : Act)
    → All (λ (k : ℕ). is_kept (state_after config state act) k ≡ true) (range_with_len (state.counts.last_change + 1) (how_many config state act))
new_kept config state act =
    subst (All (λ (k : ℕ). is_kept (state_after config state act) k ≡ true)) (next_ids config state act)
    (mapped (λ (k : ℕ). list_any (λ (c : Change). c.id == k) (captured config state act) ≡ true) (λ (k : ℕ). is_kept (state_after config state act) k ≡ true)
    (map (λ (c : Change). c.id) (captured config state act))
    (λ k is. list_any-append (λ (c : Change). c.id == k) state.changes (captured config state act)
    ∙ or_right (list_any (λ (c : Change). c.id == k) state.changes) (list_any (λ (c : Change). c.id == k) (captured config state act)) is)
    (own_numbers (captured config state act)))

-- those above a mark that stays
above_mark : (config : Config) (state : State) (act : Act) → state.counts.routed ≤ state.counts.last_change
    → list_all (is_kept state) (unrouted_numbers state.counts) ≡ true
    → list_all (is_kept (state_after config state act))
    (range_with_len (state.counts.routed + 1) (state.counts.last_change + (0 + how_many config state act) - state.counts.routed)) ≡ true
above_mark config state act marked are =
    let last : ℕ = state.counts.last_change in
    let mark : ℕ = state.counts.routed in
    let count : ℕ = how_many config state act in
    let now : State = state_after config state act in
    list_all-from_AllPass (is_kept now) (range_with_len (mark + 1) (last + (0 + count) - mark))
    (subst (All (λ (k : ℕ). is_kept now k ≡ true))
    (ap (λ k. range_with_len (mark + 1) (last - mark) ++ range_with_len k count) (sym (next mark last marked))
    ∙ (ranges_append (mark + 1) (last - mark) count ∙ ap (range_with_len (mark + 1)) (both mark last count marked)))
    (All-append (λ (k : ℕ). is_kept now k ≡ true) (range_with_len (mark + 1) (last - mark)) (range_with_len (last + 1) count)
    (mapped (λ (k : ℕ). is_kept state k ≡ true) (λ (k : ℕ). is_kept now k ≡ true) (range_with_len (mark + 1) (last - mark)) (λ k is. change_stays config state act k is)
    (AllPass-from_list_all (is_kept state) (unrouted_numbers state.counts) are))
    (new_kept config state act)))
  where
    next : (m l : ℕ) → m ≤ l → (m + 1) + (l - m) ≡ l + 1
    next m l less = omega (arith, less)

    both : (m l n : ℕ) → m ≤ l → (l - m) + n ≡ l + (0 + n) - m
    both m l n less = omega (arith, less)

pub unrouted_kept : (config : Config) (state : State) (act : Act) → state.counts.routed ≤ state.counts.last_change
    → list_all (is_kept state) (unrouted_numbers state.counts) ≡ true
    → list_all (is_kept (state_after config state act)) (unrouted_numbers (state_after config state act).counts) ≡ true
unrouted_kept config state Routed marked are = no_range (is_kept (state_after config state Routed)) _ _ (none_left state.counts.last_change)
  where
    none_left : (l : ℕ) → l + (0 + 0) - (l + 0) ≡ 0
    none_left l = omega arith

    no_range : (p : ℕ → Bool) (a n : ℕ) → n ≡ 0 → list_all p (range_with_len a n) ≡ true
    no_range p a n none = ap (λ k. list_all p (range_with_len a k)) none
unrouted_kept config state (Opened group external token) marked are = above_mark config state (Opened group external token) marked are
unrouted_kept config state (Joined kept) marked are = above_mark config state (Joined kept) marked are
unrouted_kept config state (Confirmed peer) marked are = above_mark config state (Confirmed peer) marked are
unrouted_kept config state (Wrote writer number rows) marked are = above_mark config state (Wrote writer number rows) marked are
unrouted_kept config state (Loaded channel batch) marked are = above_mark config state (Loaded channel batch) marked are
unrouted_kept config state (Erred from channel error) marked are = above_mark config state (Erred from channel error) marked are
unrouted_kept config state (Acked from acks) marked are = above_mark config state (Acked from acks) marked are

-- The batches of a sound state after an act.
use Rattle.std.proofs.Common.{◌≡◌, ℕ, ◌+◌, ◌<◌, ◌≤◌, ◌==◌, Bool, true, false, cond, List, [], ◌∷◌, ◌++◌, length, map, get_or, Option, None, Some, refl, sym, ap, subst, ◌∙◌, arith, true≢false, filter, not, ◌||◌, ◌&&◌, All, AllPairs}
use Rattle.std.specs.List.{list_all, list_any, range_with_len}
use Rattle.std.specs.Prelude.{nat_lt}
use Rattle.std.specs.Str.{bytes_eq}
use Rattle.std.proofs.lemmas.List.Elements.{All-nil, All-cons, All-append}
use Rattle.std.proofs.lemmas.List.Sums.{AllPass-from_list_all, list_all-from_AllPass}
use Rattle.sds_types.specs.declared.ack.Ack.{Ack}
use Rattle.sds_types.specs.declared.batch.NewBatch.{NewBatch}
use Rattle.sds_types.specs.declared.batch.OutBatch.{OutBatch}
use Rattle.sds_types.specs.declared.batch.Standing.{Standing}
use Rattle.sds_types.specs.declared.batch.Standing.TheVariants as standing
use Rattle.sds_types.specs.declared.config.Config.{Config}
use Rattle.sds_trade.proofs.Lists.{all_head, pairs_append}
use Rattle.sds_trade.specs.rules.Sound.{IsSound}
use Rattle.sds_history.specs.history.Acts.{Act, State}
use Rattle.sds_history.specs.history.Acts.Act.{Opened, Joined, Confirmed, Wrote, Routed, Loaded, Erred, Acked}
use Rattle.sds_history.specs.history.Changes.{runs_after}
use Rattle.sds_history.specs.history.Made.{out_batch}
use Rattle.sds_history.specs.history.SoundParts.{AscendByNumber, is_batch, is_standing}
use Rattle.sds_history.specs.history.SoundStates.{acks_ascend, is_counted, is_counted_batch, is_kept, is_peer_of}
use Rattle.sds_history.specs.history.Standings.{acks_from, acks_in, erred_by, is_acked, is_error_of, is_ok_for, last_error, same_lane, standing_of, with_standing}
use Rattle.sds_history.specs.history.States.{state_after}
use Rattle.sds_nodelaws.specs.Asked.{is_ack}
use Rattle.sds_nodelaws.proofs.Acknowledged.{Unacked, made_unacked, oks_before}
use Rattle.sds_nodelaws.proofs.Counted.{made_ids}
use Rattle.sds_nodelaws.proofs.Due.{Due, joins}
use Rattle.sds_nodelaws.proofs.Held.{mapped}
use Rattle.sds_nodelaws.proofs.Items.{equal}
use Rattle.sds_nodelaws.proofs.KeyedLists.{numbers_go_on, pairs_both, pairs_mapped}
use Rattle.sds_nodelaws.proofs.Lists.{all_flat, and_both, and_left, and_right, filter_all, is_lt_test, least_in_range, map_all, most_in_range, unmap_all}
use Rattle.sds_nodelaws.proofs.NodeFacts.{JoinsNew, Made, added, peers_in, run_batches, run_makes, run_peer, still_kept}
use Rattle.sds_nodelaws.proofs.SoundCounts.{all_kept, change_stays, counted_id, counted_is, still_counted}
use Rattle.sds_nodelaws.proofs.Splicing.{not_ok}
use Rattle.sds_nodelaws.proofs.Tests.{or_cases, or_left, or_right, same_number}

-- all batches, before acks say anything of them
abbrev batches_in : Config → State → Act → List OutBatch
batches_in config state act = state.batches ++ added config state act

abbrev told : Config → State → Act → OutBatch → OutBatch
told config state act batch = with_standing (batches_in config state act) (act ∷ []) batch

-- NUMBERS
new_numbers : (config : Config) (state : State) (act : Act)
    → map (λ (b : OutBatch). b.id) (added config state act) ≡ range_with_len (state.counts.last_batch + 1) (length (added config state act))
new_numbers config state act = made_ids config state (runs_after config state (act ∷ []))

id_within : (state : State) (batch : OutBatch) → is_counted_batch state batch ≡ true → batch.id ≤ state.counts.last_batch
id_within state batch is =
    counted_id state.counts.last_batch batch.id
    (and_left (is_counted state.counts.last_batch batch.id) (is_peer_of state batch.peer && list_all (is_kept state) batch.changes) is)

all_ascend : (config : Config) (state : State) (act : Act) → list_all (is_counted_batch state) state.batches ≡ true
    → AscendByNumber (λ (b : OutBatch). b.id) state.batches → AscendByNumber (λ (b : OutBatch). b.id) (batches_in config state act)
all_ascend config state act are ascend =
    numbers_go_on (λ (b : OutBatch). b.id) state.batches (added config state act) state.counts.last_batch (length (added config state act)) ascend
    (mapped (λ (b : OutBatch). is_counted_batch state b ≡ true) (λ (b : OutBatch). b.id ≤ state.counts.last_batch) state.batches (λ b is. id_within state b is)
    (AllPass-from_list_all (is_counted_batch state) state.batches are))
    (new_numbers config state act)

-- ACKS. No batch of a lane is acknowledged after one that isn't
abbrev InOrder : OutBatch → OutBatch → Type 0
InOrder a b = acks_ascend a b ≡ true

before_unacked : (a b : OutBatch) → Unacked b → InOrder a b
before_unacked a b isnt =
    or_right (not (same_lane a b)) (is_acked a.standing || not (is_acked b.standing)) (or_right (is_acked a.standing) (not (is_acked b.standing)) (ap not isnt))

all_in_order : (config : Config) (state : State) (act : Act) → AllPairs InOrder state.batches → AllPairs InOrder (batches_in config state act)
all_in_order config state act are =
    let none : All Unacked (added config state act) = made_unacked config state (runs_after config state (act ∷ [])) in
    pairs_append InOrder state.batches (added config state act) are
    (λ i j d below within. before_unacked (get_or (added config state act) i d) (get_or (added config state act) j d) (none j d within))
    (λ k d within. λ j e inside. before_unacked (get_or state.batches k d) (get_or (added config state act) j e) (none j e inside))

-- what acks make of a batch is acknowledged exactly where it was, or an OK says so
abbrev is_told : List OutBatch → List Act → OutBatch → Bool
is_told batches acts batch = is_acked batch.standing || list_any (is_ok_for batches batch) (acks_from acts batch.peer)

told_acked : (batches : List OutBatch) (acts : List Act) (batch : OutBatch) → is_told batches acts batch ≡ true → is_acked (standing_of batches acts batch) ≡ true
told_acked batches acts batch is =
    ap (λ t. is_acked (cond t standing.Acked (last_error (filter (is_error_of batch) (acks_from acts batch.peer)) batch.standing))) is

acked_told : (batches : List OutBatch) (acts : List Act) (batch : OutBatch) → is_acked (standing_of batches acts batch) ≡ true → is_told batches acts batch ≡ true
acked_told batches acts batch is = on (is_told batches acts batch) refl (is_acked batch.standing) refl is
  where
    on : (t : Bool) → is_told batches acts batch ≡ t → (a : Bool) → is_acked batch.standing ≡ a
        → is_acked (cond t standing.Acked (last_error (filter (is_error_of batch) (acks_from acts batch.peer)) batch.standing)) ≡ true → t ≡ true
    on true told a before after = refl
    on false told true before after =
        absurd (true≢false (sym (or_left (is_acked batch.standing) (list_any (is_ok_for batches batch) (acks_from acts batch.peer)) before) ∙ told))
    on false told false before after =
        absurd (true≢false (sym after ∙ not_ok (filter (is_error_of batch) (acks_from acts batch.peer)) batch.standing before))

same_lane_acked : (a b : OutBatch) → InOrder a b → same_lane a b ≡ true → is_acked b.standing ≡ true → is_acked a.standing ≡ true
same_lane_acked a b order lane acked =
    or_cases (not (same_lane a b)) (is_acked a.standing || not (is_acked b.standing)) order
    (λ apart. absurd (true≢false (sym apart ∙ ap not lane)))
    (λ rest. or_cases (is_acked a.standing) (not (is_acked b.standing)) rest (λ is. is) (λ isnt. absurd (true≢false (sym isnt ∙ ap not acked))))

told_in_order : (batches : List OutBatch) (acts : List Act) (a b : OutBatch) → a.id < b.id → InOrder a b
    → InOrder (with_standing batches acts a) (with_standing batches acts b)
told_in_order batches acts a b less order = on (same_lane a b) refl (is_acked (standing_of batches acts b)) refl
  where
    ok_first : same_lane a b ≡ true → list_any (is_ok_for batches b) (acks_from acts b.peer) ≡ true → list_any (is_ok_for batches a) (acks_from acts a.peer) ≡ true
    ok_first lane ok =
        let channel : a.channel ≡ b.channel = same_number a.channel b.channel (and_left (a.channel == b.channel) (bytes_eq a.peer b.peer) lane) in
        let peer : a.peer ≡ b.peer = equal a.peer b.peer (and_right (a.channel == b.channel) (bytes_eq a.peer b.peer) lane) in
        oks_before batches a b (acks_from acts a.peer) less channel peer (ap (λ p. list_any (is_ok_for batches b) (acks_from acts p)) peer ∙ ok)

    first : same_lane a b ≡ true → is_told batches acts b ≡ true → is_told batches acts a ≡ true
    first lane told =
        or_cases (is_acked b.standing) (list_any (is_ok_for batches b) (acks_from acts b.peer)) told
        (λ acked. or_left (is_acked a.standing) (list_any (is_ok_for batches a) (acks_from acts a.peer)) (same_lane_acked a b order lane acked))
        (λ ok. or_right (is_acked a.standing) (list_any (is_ok_for batches a) (acks_from acts a.peer)) (ok_first lane ok))

    on : (lane : Bool) → same_lane a b ≡ lane → (acked : Bool) → is_acked (standing_of batches acts b) ≡ acked
        → InOrder (with_standing batches acts a) (with_standing batches acts b)
    on false is acked after = or_left (not (same_lane a b)) _ (ap not is)
    on true is false after = before_unacked (with_standing batches acts a) (with_standing batches acts b) after
    on true is true after =
        or_right (not (same_lane a b)) (is_acked (standing_of batches acts a) || not (is_acked (standing_of batches acts b)))
        (or_left (is_acked (standing_of batches acts a)) (not (is_acked (standing_of batches acts b)))
        (told_acked batches acts a (first is (acked_told batches acts b after))))

pub batches_ascend : (config : Config) (state : State) (act : Act) → list_all (is_counted_batch state) state.batches ≡ true
    → AscendByNumber (λ (b : OutBatch). b.id) state.batches → AscendByNumber (λ (b : OutBatch). b.id) (state_after config state act).batches
batches_ascend config state act are ascend =
    pairs_mapped (λ (b : OutBatch). Unit {0}) (λ (a b : OutBatch). a.id < b.id) (λ (a b : OutBatch). a.id < b.id) (told config state act) (batches_in config state act)
    (λ k d within. tt) (all_ascend config state act are ascend) (λ a b _ _ less. less)

pub acks_in_order : (config : Config) (state : State) (act : Act) → list_all (is_counted_batch state) state.batches ≡ true
    → AscendByNumber (λ (b : OutBatch). b.id) state.batches → AllPairs InOrder state.batches → AllPairs InOrder (state_after config state act).batches
acks_in_order config state act are ascend order =
    pairs_mapped (λ (b : OutBatch). Unit {0}) (λ (a b : OutBatch). (a.id < b.id) × InOrder a b) InOrder (told config state act) (batches_in config state act)
    (λ k d within. tt)
    (pairs_both (λ (a b : OutBatch). a.id < b.id) InOrder (batches_in config state act) (all_ascend config state act are ascend) (all_in_order config state act order))
    (λ a b _ _ both. told_in_order (batches_in config state act) (act ∷ []) a b both.0 both.1)

-- STANDINGS
abbrev IsAck : Ack → Type 0
IsAck ack = is_ack ack ≡ true

error_stands : (acks : List Ack) (before : Standing) → All IsAck acks → is_standing before ≡ true → is_standing (last_error acks before) ≡ true
error_stands [] before are is = is
error_stands (ack ∷ acks) before are is = on ack.error (all_head IsAck ack acks are)
  where
    on : (error : Option (ℕ × ℕ)) → is_ack (record { batch = ack.batch; error = error }) ≡ true → is_standing (erred_by error before) ≡ true
    on None ok = is
    on (Some error) ok = ok

acks_are : (config : Config) (state : State) (act : Act) (peer : List ℕ) → Due config state act → All IsAck (acks_in peer act)
acks_are config state (Acked from acks) peer due = on (bytes_eq from peer)
  where
    on : (b : Bool) → All IsAck (cond b acks [])
    on true = AllPass-from_list_all is_ack acks due
    on false = All-nil IsAck
acks_are config state (Opened group external token) peer due = All-nil IsAck
acks_are config state (Joined kept) peer due = All-nil IsAck
acks_are config state (Confirmed node) peer due = All-nil IsAck
acks_are config state (Wrote writer number rows) peer due = All-nil IsAck
acks_are config state Routed peer due = All-nil IsAck
acks_are config state (Loaded channel batch) peer due = All-nil IsAck
acks_are config state (Erred from channel error) peer due = All-nil IsAck

standing_is : (batches : List OutBatch) (acts : List Act) (batch : OutBatch) → All IsAck (acks_from acts batch.peer) → is_standing batch.standing ≡ true
    → is_standing (standing_of batches acts batch) ≡ true
standing_is batches acts batch are is = on (is_told batches acts batch)
  where
    on : (t : Bool) → is_standing (cond t standing.Acked (last_error (filter (is_error_of batch) (acks_from acts batch.peer)) batch.standing)) ≡ true
    on true = refl
    on false = error_stands (filter (is_error_of batch) (acks_from acts batch.peer)) batch.standing (filter_all IsAck (is_error_of batch) (acks_from acts batch.peer) are) is

-- NEW BATCHES
abbrev Fits : Config → OutBatch → Type 0
Fits config batch = is_batch config batch ≡ true

new_fit : (config : Config) (state : State) (act : Act) → IsSound config → All (Fits config) (added config state act)
new_fit config state Routed sound =
    map_all (Fits config) (out_batch (peers_in state)) (run_batches config state)
    (mapped (Made (length (peers_in state)) (length config.channels) (λ (n : ℕ). Unit {0})) (λ (b : NewBatch). Fits config (out_batch (peers_in state) b)) (run_batches config state)
    (λ b made. and_both (nat_lt b.channel (length config.channels)) true (is_lt_test b.channel (length config.channels) made.1) refl)
    (run_makes config state (λ (n : ℕ). Unit {0}) sound (λ k d within. tt)))
new_fit config state (Opened group external token) sound = All-nil (Fits config)
new_fit config state (Joined kept) sound = All-nil (Fits config)
new_fit config state (Confirmed peer) sound = All-nil (Fits config)
new_fit config state (Wrote writer number rows) sound = All-nil (Fits config)
new_fit config state (Loaded channel batch) sound = All-nil (Fits config)
new_fit config state (Erred from channel error) sound = All-nil (Fits config)
new_fit config state (Acked from acks) sound = All-nil (Fits config)

pub batches_fit : (config : Config) (state : State) (act : Act) → IsSound config → Due config state act → list_all (is_batch config) state.batches ≡ true
    → list_all (is_batch config) (state_after config state act).batches ≡ true
batches_fit config state act sound due are =
    list_all-from_AllPass (is_batch config) (state_after config state act).batches
    (map_all (Fits config) (told config state act) (batches_in config state act)
    (mapped (Fits config) (λ (b : OutBatch). Fits config (told config state act b)) (batches_in config state act)
    (λ b is. and_both (nat_lt b.channel (length config.channels)) (is_standing (told config state act b).standing)
    (and_left (nat_lt b.channel (length config.channels)) (is_standing b.standing) is)
    (standing_is (batches_in config state act) (act ∷ []) b
    (all_flat IsAck (acks_in b.peer) (act ∷ [])
    (All-cons (λ (a : Act). All IsAck (acks_in b.peer a)) act [] (acks_are config state act b.peer due) (All-nil (λ (a : Act). All IsAck (acks_in b.peer a)))))
    (and_right (nat_lt b.channel (length config.channels)) (is_standing b.standing) is)))
    (All-append (Fits config) state.batches (added config state act) (AllPass-from_list_all (is_batch config) state.batches are) (new_fit config state act sound))))

-- batches go to peers, and hold changes that are kept
abbrev Goes : State → OutBatch → Type 0
Goes state batch = (is_peer_of state batch.peer && list_all (is_kept state) batch.changes) ≡ true

new_go : (config : Config) (state : State) (act : Act) → IsSound config → All (Goes state) (added config state act)
new_go config state Routed sound =
    map_all (Goes state) (out_batch (peers_in state)) (run_batches config state)
    (mapped (Made (length (peers_in state)) (length config.channels) (λ (n : ℕ). is_kept state n ≡ true)) (λ (b : NewBatch). Goes state (out_batch (peers_in state) b))
    (run_batches config state)
    (λ b made. and_both (is_peer_of state (out_batch (peers_in state) b).peer) (list_all (is_kept state) b.changes) (run_peer state b.peer made.0)
    (list_all-from_AllPass (is_kept state) b.changes made.2))
    (run_makes config state (λ (n : ℕ). is_kept state n ≡ true) sound (all_kept state)))
new_go config state (Opened group external token) sound = All-nil (Goes state)
new_go config state (Joined kept) sound = All-nil (Goes state)
new_go config state (Confirmed peer) sound = All-nil (Goes state)
new_go config state (Wrote writer number rows) sound = All-nil (Goes state)
new_go config state (Loaded channel batch) sound = All-nil (Goes state)
new_go config state (Erred from channel error) sound = All-nil (Goes state)
new_go config state (Acked from acks) sound = All-nil (Goes state)

still_goes : (config : Config) (state : State) (act : Act) (batch : OutBatch) → JoinsNew state act → Goes state batch → Goes (state_after config state act) batch
still_goes config state act batch new is =
    and_both (is_peer_of (state_after config state act) batch.peer) (list_all (is_kept (state_after config state act)) batch.changes)
    (still_kept config state act batch.peer new (and_left (is_peer_of state batch.peer) (list_all (is_kept state) batch.changes) is))
    (list_all-from_AllPass (is_kept (state_after config state act)) batch.changes
    (mapped (λ (n : ℕ). is_kept state n ≡ true) (λ (n : ℕ). is_kept (state_after config state act) n ≡ true) batch.changes (λ n kept. change_stays config state act n kept)
    (AllPass-from_list_all (is_kept state) batch.changes (and_right (is_peer_of state batch.peer) (list_all (is_kept state) batch.changes) is))))

new_counted : (config : Config) (state : State) (act : Act)
    → All (λ (b : OutBatch). is_counted (state_after config state act).counts.last_batch b.id ≡ true) (added config state act)
new_counted config state act =
    let last : ℕ = state.counts.last_batch in
    let count : ℕ = length (added config state act) in
    unmap_all (λ (k : ℕ). is_counted (last + count) k ≡ true) (λ (b : OutBatch). b.id) (added config state act)
    (subst (All (λ (k : ℕ). is_counted (last + count) k ≡ true)) (sym (new_numbers config state act))
    (λ i d within. counted_is (last + count) _ (some last _ (least_in_range (last + 1) count i d within)) (most last count _ (most_in_range (last + 1) count i d within))))
  where
    some : (a k : ℕ) → a + 1 ≤ k → 1 ≤ k
    some a k less = omega (arith, less)

    most : (a n k : ℕ) → k < (a + 1) + n → k ≤ a + n
    most a n k less = omega (arith, less)

pub batches_go : (config : Config) (state : State) (act : Act) → IsSound config → Due config state act → list_all (is_counted_batch state) state.batches ≡ true
    → list_all (is_counted_batch (state_after config state act)) (state_after config state act).batches ≡ true
batches_go config state act sound due are =
    let now : State = state_after config state act in
    let new : JoinsNew state act = joins config state act due in
    list_all-from_AllPass (is_counted_batch now) now.batches
    (map_all (λ (b : OutBatch). is_counted_batch now b ≡ true) (told config state act) (batches_in config state act)
    (All-append (λ (b : OutBatch). is_counted_batch now b ≡ true) state.batches (added config state act)
    (mapped (λ (b : OutBatch). is_counted_batch state b ≡ true) (λ (b : OutBatch). is_counted_batch now b ≡ true) state.batches
    (λ b is. and_both (is_counted now.counts.last_batch b.id) (is_peer_of now b.peer && list_all (is_kept now) b.changes)
    (still_counted state.counts.last_batch now.counts.last_batch b.id (more state.counts.last_batch _)
    (and_left (is_counted state.counts.last_batch b.id) (is_peer_of state b.peer && list_all (is_kept state) b.changes) is))
    (still_goes config state act b new (and_right (is_counted state.counts.last_batch b.id) (is_peer_of state b.peer && list_all (is_kept state) b.changes) is)))
    (AllPass-from_list_all (is_counted_batch state) state.batches are))
    (λ k d within. and_both _ _ (new_counted config state act k d within) (still_goes config state act (get_or (added config state act) k d) new (new_go config state act sound k d within)))))
  where
    more : (n m : ℕ) → n ≤ n + m
    more n m = omega arith

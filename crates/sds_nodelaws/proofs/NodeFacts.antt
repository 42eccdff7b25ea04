-- What holds of a node's state beside its acts, and stays so by each act of a call.
use Rattle.std.proofs.Common.{◌≡◌, ◌≢◌, ℕ, zero, suc, ◌+◌, ◌<◌, ◌≤◌, Bool, true, false, cond, List, [], ◌∷◌, ◌++◌, length, map, Option, None, Some, refl, sym, ap, subst, ◌∙◌, arith, true≢false, filter, find, ◌||◌, ◌&&◌, ◌==◌, All, append-nil}
use Rattle.std.specs.List.{enumerate_from, flat_map, list_any, range_with_len}
use Rattle.std.specs.Option.{option_map_or}
use Rattle.std.specs.Prelude.{is_some, nat_lt, slice_get, unwrap_or}
use Rattle.std.specs.Str.{bytes_eq, encode_utf8_all}
use Rattle.std.proofs.lemmas.Bool.Decides.{nat_tests}
use Rattle.std.proofs.lemmas.Str.{encodes_same}
use Rattle.std.proofs.lemmas.List.Elements.{All-nil, All-cons, All-append}
use Rattle.sds_value.specs.declared.row.Peer.{Peer}
use Rattle.sds_types.specs.declared.batch.NewBatch.{NewBatch}
use Rattle.sds_types.specs.declared.batch.OutBatch.{OutBatch}
use Rattle.sds_types.specs.declared.batch.Standing.{Standing}
use Rattle.sds_types.specs.declared.batch.Standing.TheVariants as standing
use Rattle.sds_types.specs.declared.channel.Algorithm.{Algorithm}
use Rattle.sds_types.specs.declared.channel.Algorithm.TheVariants.{Default, Transactional, Nontransactional}
use Rattle.sds_types.specs.declared.channel.ChannelDef.{ChannelDef}
use Rattle.sds_types.specs.declared.config.Config.{Config}
use Rattle.sds_types.specs.declared.lane.LaneIn.{LaneIn}
use Rattle.sds_types.specs.declared.peer.KeptPeer.{KeptPeer}
use Rattle.sds_types.specs.declared.row.Change.{Change}
use Rattle.sds_trade.proofs.CutLaw.{cut_is_a_cut}
use Rattle.sds_trade.proofs.Lists.{all_head, all_tail}
use Rattle.sds_trade.specs.rules.Batches.{batch_in, batches_of, channels_in_order, is_for, lane_batches, lane_changes, numbered_batch, peers_named, routed_changes}
use Rattle.sds_trade.specs.rules.Cuts.{changes_in, cut}
use Rattle.sds_trade.specs.rules.Named.{is_named, targets_of}
use Rattle.sds_trade.specs.rules.Sound.{IsSound}
use Rattle.sds_trade.specs.sound.Sections.{IsChannel}
use Rattle.sds_history.specs.history.Acts.{Act, History, State}
use Rattle.sds_history.specs.history.Acts.Act.{Opened, Joined, Confirmed, Wrote, Routed, Loaded, Erred, Acked}
use Rattle.sds_history.specs.history.Changes.{run_after, unrouted_after}
use Rattle.sds_history.specs.history.Lanes.{empty_lane, is_ignored, is_lane, lane_key, lane_of}
use Rattle.sds_history.specs.history.Made.{batches_by, out_batch}
use Rattle.sds_history.specs.history.Orders.{item_at}
use Rattle.sds_history.specs.history.Peers.{kept_peer, peer_key, peers_by}
use Rattle.sds_history.specs.history.Standings.{acks_in, is_acked, is_error_of, is_ok_for, last_error, with_standing}
use Rattle.sds_history.specs.history.States.{state_after}
use Rattle.sds_nodelaws.specs.Counters.{batch_ids, change_ids}
use Rattle.sds_nodelaws.proofs.Channels.{At, numbered_all, sorted_all}
use Rattle.sds_nodelaws.proofs.Counted.{batches_count_on, changes_count_on, ranges_append}
use Rattle.sds_nodelaws.proofs.Held.{all_of, first_all, last_all, mapped}
use Rattle.sds_nodelaws.proofs.Items.{itself, other_item}
use Rattle.sds_nodelaws.proofs.KeyedLists.{item_all, places_within}
use Rattle.sds_nodelaws.proofs.Tests.{at_most}
use Rattle.sds_nodelaws.proofs.Lists.{In, all_flat, filter_all, filter_none, find_all, from_lt, from_not_lt, in_all, map_all, most_in_range, no_some, unmap_all}
use Rattle.sds_nodelaws.proofs.Lists.Either.{left, right}

-- PEERS. Some peer is kept of an id
abbrev pub IsKept : List KeptPeer → List ℕ → Type 0
IsKept peers id = is_some (kept_peer peers id) ≡ true

-- a peer that an act keeps is new, and not the node itself
abbrev pub JoinsNew : State → Act → Type 0
JoinsNew state (Joined kept) = (kept_peer state.peers kept.peer.id ≡ None) × (kept.peer.id ≢ state.me.id)
JoinsNew state act = Unit {0}

-- and what is loaded came from a kept peer in a channel that is there
abbrev pub Suits : Config → State → Act → Type 0
Suits config state (Joined kept) = (kept_peer state.peers kept.peer.id ≡ None) × (kept.peer.id ≢ state.me.id)
Suits config state (Loaded channel batch) = IsKept state.peers batch.from × (channel < length config.channels)
Suits config state (Erred from channel error) = IsKept state.peers from
Suits config state act = Unit {0}

joins_apart : (peers : List KeptPeer) (kept : KeptPeer) (id : List ℕ) (p : KeptPeer) → kept_peer peers kept.peer.id ≡ None → kept_peer peers id ≡ Some p
    → encode_utf8_all kept.peer.id ≢ encode_utf8_all id
joins_apart peers kept id p none found same = no_some p (sym none ∙ (ap (kept_peer peers) (encodes_same kept.peer.id id same) ∙ found))

pub joins_of : (config : Config) (state : State) (act : Act) → Suits config state act → JoinsNew state act
joins_of config state (Joined kept) suits = suits
joins_of config state (Opened group external token) suits = tt
joins_of config state (Confirmed peer) suits = tt
joins_of config state (Wrote writer number rows) suits = tt
joins_of config state Routed suits = tt
joins_of config state (Loaded channel batch) suits = tt
joins_of config state (Erred from channel error) suits = tt
joins_of config state (Acked from acks) suits = tt

pub kept_stays : (config : Config) (state : State) (act : Act) (id : List ℕ) (p : KeptPeer) → JoinsNew state act → kept_peer state.peers id ≡ Some p
    → kept_peer (peers_by act state.peers) id ≡ Some p
kept_stays config state (Joined kept) id p suits found =
    other_item peer_key kept state.peers (encode_utf8_all id) (joins_apart state.peers kept id p suits.0 found) ∙ found
kept_stays config state (Opened group external token) id p suits found = found
kept_stays config state (Confirmed peer) id p suits found = found
kept_stays config state (Wrote writer number rows) id p suits found = found
kept_stays config state Routed id p suits found = found
kept_stays config state (Loaded channel batch) id p suits found = found
kept_stays config state (Erred from channel error) id p suits found = found
kept_stays config state (Acked from acks) id p suits found = found

pub still_kept : (config : Config) (state : State) (act : Act) (id : List ℕ) → JoinsNew state act → IsKept state.peers id
    → IsKept (peers_by act state.peers) id
still_kept config state act id suits kept = kept_on (kept_peer state.peers id) refl kept
  where
    kept_on : (found : Option KeptPeer) → kept_peer state.peers id ≡ found → is_some found ≡ true → is_some (kept_peer (peers_by act state.peers) id) ≡ true
    kept_on None is some = absurd (true≢false (sym some))
    kept_on (Some p) is some = ap is_some (kept_stays config state act id p suits is)

-- the node itself is no peer
own_stays : (config : Config) (state : State) (act : Act) → JoinsNew state act → kept_peer state.peers state.me.id ≡ None
    → kept_peer (peers_by act state.peers) state.me.id ≡ None
own_stays config state (Joined kept) suits none =
    other_item peer_key kept state.peers (encode_utf8_all state.me.id) (λ same. suits.1 (encodes_same kept.peer.id state.me.id same)) ∙ none
own_stays config state (Opened group external token) suits none = none
own_stays config state (Confirmed peer) suits none = none
own_stays config state (Wrote writer number rows) suits none = none
own_stays config state Routed suits none = none
own_stays config state (Loaded channel batch) suits none = none
own_stays config state (Erred from channel error) suits none = none
own_stays config state (Acked from acks) suits none = none

-- each kept peer is found by its id
found_on : (kept other : KeptPeer) (b : Bool) (rest : Option KeptPeer) → is_some rest ≡ true → is_some (cond b (Some other) rest) ≡ true
found_on kept other true rest some = refl
found_on kept other false rest some = some

finds_itself : (kept : KeptPeer) (peers : List KeptPeer) → In kept peers → IsKept peers kept.peer.id
finds_itself kept [] is = absurd is
finds_itself kept (other ∷ peers) (left same) =
    ap (λ b. is_some (cond b (Some other) (item_at peer_key (encode_utf8_all kept.peer.id) peers)))
    (ap (λ (k : KeptPeer). bytes_eq (peer_key k) (encode_utf8_all kept.peer.id)) (sym same) ∙ itself (encode_utf8_all kept.peer.id))
finds_itself kept (other ∷ peers) (right rest) =
    found_on kept other (bytes_eq (peer_key other) (encode_utf8_all kept.peer.id)) (item_at peer_key (encode_utf8_all kept.peer.id) peers)
    (finds_itself kept peers rest)

-- BATCHES. What an act makes
abbrev pub added : Config → State → Act → List OutBatch
added config state act = batches_by config state act [] []

-- acts that aren't acks say nothing of batches
unsaid_on : (before : OutBatch) (all : List OutBatch) (act : Act) → ((peer : List ℕ) → acks_in peer act ≡ [])
    → with_standing all (act ∷ []) before ≡ before
unsaid_on before all act none =
    ap (λ acks. record before {
      standing = cond (is_acked before.standing || list_any (is_ok_for all before) acks) standing.Acked
          (last_error (filter (is_error_of before) acks) before.standing);
    }) (append-nil (acks_in before.peer act) ∙ none before.peer)
    ∙ plain before.standing refl
  where
    plain : (s : Standing) → before.standing ≡ s → record before { standing = cond (is_acked before.standing || false) standing.Acked before.standing } ≡ before
    plain standing.New is = ap (λ t. record before { standing = cond (is_acked t || false) standing.Acked t }) is ∙ ap (λ t. record before { standing = t }) (sym is)
    plain standing.Acked is = ap (λ t. record before { standing = cond (is_acked t || false) standing.Acked t }) is ∙ ap (λ t. record before { standing = t }) (sym is)
    plain (standing.Erred row rule) is = ap (λ t. record before { standing = cond (is_acked t || false) standing.Acked t }) is ∙ ap (λ t. record before { standing = t }) (sym is)

unsaid : (all : List OutBatch) (act : Act) (batches : List OutBatch) → ((peer : List ℕ) → acks_in peer act ≡ []) → map (with_standing all (act ∷ [])) batches ≡ batches
unsaid all act [] none = refl
unsaid all act (batch ∷ batches) none =
    ap (λ (b : OutBatch). b ∷ map (with_standing all (act ∷ [])) batches) (unsaid_on batch all act none)
    ∙ ap (λ (bs : List OutBatch). batch ∷ bs) (unsaid all act batches none)

-- an act that isn't acks
abbrev pub IsUnsaid : Act → Type 0
IsUnsaid act = (peer : List ℕ) → acks_in peer act ≡ []

pub batches_after : (config : Config) (state : State) (act : Act) → IsUnsaid act → (state_after config state act).batches ≡ state.batches ++ added config state act
batches_after config state act none = unsaid (state.batches ++ added config state act) act (state.batches ++ added config state act) none

-- NEW BATCHES go to kept peers in channels that are there, and hold changes that were captured
abbrev pub Made : ℕ → ℕ → (ℕ → Type 0) → NewBatch → Type 0
Made peers channels P batch = (batch.peer < peers) × (batch.channel < channels) × All P batch.changes

abbrev pub Holds : (ℕ → Type 0) → Change → Type 0
Holds P change = P change.id

abbrev pub CutOk : ℕ → Change → Type 0
CutOk last change = change.id ≤ last

pieces_ok : (peers channels : ℕ) (P : ℕ → Type 0) (channel peer : ℕ) (pieces : List (List Change)) → peer < peers → channel < channels
    → All (Holds P) (changes_in pieces) → All (Made peers channels P) (map (batch_in channel peer) pieces)
pieces_ok peers channels P channel peer [] less there are = All-nil (Made peers channels P)
pieces_ok peers channels P channel peer (piece ∷ pieces) less there are =
    All-cons (Made peers channels P) (batch_in channel peer piece) (map (batch_in channel peer) pieces)
    (less, there, map_all P (λ (c : Change). c.id) piece (first_all (Holds P) piece (changes_in pieces) are))
    (pieces_ok peers channels P channel peer pieces less there (last_all (Holds P) piece (changes_in pieces) are))

abbrev Aimed : ℕ → (ℕ → Type 0) → Change × List ℕ → Type 0
Aimed peers P at = All (λ (t : ℕ). t < peers) at.1 × Holds P at.0

none_at : (targets : List ℕ) (peers peer : ℕ) → peers ≤ peer → All (λ (t : ℕ). t < peers) targets → list_any (λ (t : ℕ). t == peer) targets ≡ false
none_at [] peers peer past are = refl
none_at (t ∷ targets) peers peer past are =
    ap (λ b. b || list_any (λ (o : ℕ). o == peer) targets) (differ t peer peers past (all_head (λ (o : ℕ). o < peers) t targets are))
    ∙ none_at targets peers peer past (all_tail (λ (o : ℕ). o < peers) t targets are)
  where
    differ : (a b n : ℕ) → n ≤ b → a < n → (a == b) ≡ false
    differ a b n past less = grind (arith, nat_tests, past, less)

none_past : (routed : List (Change × List ℕ)) (peers : ℕ) (P : ℕ → Type 0) (channel peer : ℕ) → peers ≤ peer → All (Aimed peers P) routed
    → lane_changes routed channel peer ≡ []
none_past routed peers P channel peer past are =
    ap (map (λ (at : Change × List ℕ). at.0)) (filter_none (is_for channel peer) routed
    (mapped (Aimed peers P) (λ (at : Change × List ℕ). is_for channel peer at ≡ false) routed
    (λ at aimed. ap (λ b. at.0.channel == channel && b) (none_at at.1 peers peer past aimed.0) ∙ and_false (at.0.channel == channel)) are))
  where
    and_false : (a : Bool) → (a && false) ≡ false
    and_false true = refl
    and_false false = refl

nothing_cut : (algorithm : Algorithm) (max : ℕ) → cut algorithm max [] ≡ []
nothing_cut Default max = refl
nothing_cut Transactional max = refl
nothing_cut Nontransactional max = refl

-- a channel with its place
abbrev Stands : ℕ → At → Type 0
Stands channels at = (1 ≤ at.1.max_batch_size) × (at.0 < channels)

lane_ok : (routed : List (Change × List ℕ)) (peers channels : ℕ) (P : ℕ → Type 0) (peer : ℕ) (at : At) → Stands channels at → All (Aimed peers P) routed
    → All (Made peers channels P) (lane_batches routed at peer)
lane_ok routed peers channels P peer at stands are = lane_on (nat_lt peer peers) refl
  where
    lane_on : (b : Bool) → nat_lt peer peers ≡ b → All (Made peers channels P) (lane_batches routed at peer)
    lane_on true less =
        pieces_ok peers channels P at.0 peer (cut at.1.batch_algorithm at.1.max_batch_size (lane_changes routed at.0 peer)) (from_lt peer peers less) stands.1
        (subst (All (Holds P)) (sym (cut_is_a_cut at.1.batch_algorithm at.1.max_batch_size (lane_changes routed at.0 peer) stands.0).1)
        (map_all (Holds P) (λ (a : Change × List ℕ). a.0) (filter (is_for at.0 peer) routed)
        (filter_all (λ (a : Change × List ℕ). Holds P a.0) (is_for at.0 peer) routed
        (mapped (Aimed peers P) (λ (a : Change × List ℕ). Holds P a.0) routed (λ a aimed. aimed.1) are))))
    lane_on false past =
        subst (λ cs. All (Made peers channels P) (map (batch_in at.0 peer) (cut at.1.batch_algorithm at.1.max_batch_size cs)))
        (sym (none_past routed peers P at.0 peer (from_not_lt peer peers past) are))
        (subst (λ ps. All (Made peers channels P) (map (batch_in at.0 peer) ps)) (sym (nothing_cut at.1.batch_algorithm at.1.max_batch_size))
        (All-nil (Made peers channels P)))

numbered_ok : (peers channels : ℕ) (P : ℕ → Type 0) (first : ℕ) (batches : List NewBatch) → All (Made peers channels P) batches
    → All (Made peers channels P) (map numbered_batch (enumerate_from first batches))
numbered_ok peers channels P first [] are = All-nil (Made peers channels P)
numbered_ok peers channels P first (batch ∷ batches) are =
    All-cons (Made peers channels P) (numbered_batch (first, batch)) (map numbered_batch (enumerate_from (first + 1) batches))
    (all_head (Made peers channels P) batch batches are) (numbered_ok peers channels P (first + 1) batches (all_tail (Made peers channels P) batch batches are))

no_first : (n : ℕ) → 0 + n ≡ n
no_first n = omega arith

stand : (config : Config) → IsSound config → All (Stands (length config.channels)) (channels_in_order config)
stand config sound =
    sorted_all (Stands (length config.channels)) (enumerate_from 0 config.channels)
    (λ k d within. (
      numbered_all (λ (c : ChannelDef). 1 ≤ c.max_batch_size) 0 config.channels
          (mapped IsChannel (λ (c : ChannelDef). 1 ≤ c.max_batch_size) config.channels (λ c is. is.size) sound.channels.each) k d within,
      subst (λ n. All (λ (at : At). at.0 < n) (enumerate_from 0 config.channels)) (no_first (length config.channels)) (places_within 0 config.channels) k d within,
    ))

batches_ok : (config : Config) (peers : ℕ) (P : ℕ → Type 0) (first : ℕ) (routed : List (Change × List ℕ)) → IsSound config → All (Aimed peers P) routed
    → All (Made peers (length config.channels) P) (batches_of config first routed)
batches_ok config peers P first routed sound are =
    let channels : ℕ = length config.channels in
    numbered_ok peers channels P first
    (flat_map (λ (at : At). flat_map (lane_batches routed at) (range_with_len 0 (peers_named routed))) (channels_in_order config))
    (all_flat (Made peers channels P) (λ (at : At). flat_map (lane_batches routed at) (range_with_len 0 (peers_named routed))) (channels_in_order config)
    (mapped (Stands channels)
    (λ (at : At). All (Made peers channels P) (flat_map (lane_batches routed at) (range_with_len 0 (peers_named routed)))) (channels_in_order config)
    (λ at stands. all_flat (Made peers channels P) (lane_batches routed at) (range_with_len 0 (peers_named routed))
    (all_of (λ (p : ℕ). All (Made peers channels P) (lane_batches routed at p)) (range_with_len 0 (peers_named routed))
    (λ p. lane_ok routed peers channels P p at stands are))) (stand config sound)))

abbrev pub peers_in : State → List Peer
peers_in state = map (λ (kept : KeptPeer). kept.peer) state.peers

aimed_all : (config : Config) (state : State) (P : ℕ → Type 0) (changes : List Change) → All (Holds P) changes
    → All (Aimed (length (peers_in state)) P) (routed_changes config state.me state.tables (peers_in state) changes)
aimed_all config state P changes are =
    map_all (Aimed (length (peers_in state)) P)
    (λ (change : Change). (change, targets_of config state.me state.tables (peers_in state) change)) changes
    (mapped (Holds P)
    (λ (change : Change). Aimed (length (peers_in state)) P (change, targets_of config state.me state.tables (peers_in state) change)) changes
    (λ change ok. (
      map_all (λ (t : ℕ). t < length (peers_in state)) (λ (at : ℕ × Peer). at.0)
          (filter (λ (at : ℕ × Peer). is_named config state.me state.tables change at.1) (enumerate_from 0 (peers_in state)))
          (filter_all (λ (at : ℕ × Peer). at.0 < length (peers_in state)) (λ (at : ℕ × Peer). is_named config state.me state.tables change at.1) (enumerate_from 0 (peers_in state))
          (subst (λ n. All (λ (at : ℕ × Peer). at.0 < n) (enumerate_from 0 (peers_in state))) (no_first (length (peers_in state))) (places_within 0 (peers_in state)))),
      ok,
    )) are)

-- those of a routing run, where something holds of the numbers of all changes
abbrev pub run_batches : Config → State → List NewBatch
run_batches config state = batches_of config (state.counts.last_batch + 0 + 1)
    (routed_changes config state.me state.tables (peers_in state) (unrouted_after config state []))

pub run_makes : (config : Config) (state : State) (P : ℕ → Type 0) → IsSound config → All (Holds P) state.changes
    → All (Made (length (peers_in state)) (length config.channels) P) (run_batches config state)
run_makes config state P sound are =
    batches_ok config (length (peers_in state)) P (state.counts.last_batch + 0 + 1)
    (routed_changes config state.me state.tables (peers_in state) (unrouted_after config state [])) sound
    (aimed_all config state P (unrouted_after config state [])
    (filter_all (Holds P) (λ (change : Change). nat_lt state.counts.routed change.id) state.changes are))

-- a batch that is made
abbrev pub GoesOut : State → OutBatch → Type 0
GoesOut state batch = IsKept state.peers batch.peer × All (λ (n : ℕ). n ≤ state.counts.last_change) batch.changes

peer_at : (all peers : List KeptPeer) (place : ℕ) → All (λ (k : KeptPeer). IsKept all k.peer.id) peers → place < length (map (λ (k : KeptPeer). k.peer) peers)
    → IsKept all (option_map_or (λ (peer : Peer). peer.id) (slice_get (map (λ (k : KeptPeer). k.peer) peers) place) [])
peer_at all [] place are less = absurd (omega (arith, less))
peer_at all (kept ∷ peers) zero are less = all_head (λ (k : KeptPeer). IsKept all k.peer.id) kept peers are
peer_at all (kept ∷ peers) (suc place) are less =
    peer_at all peers place (all_tail (λ (k : KeptPeer). IsKept all k.peer.id) kept peers are) (omega (arith, less))

pub run_peer : (state : State) (place : ℕ) → place < length (peers_in state)
    → IsKept state.peers (option_map_or (λ (peer : Peer). peer.id) (slice_get (peers_in state) place) [])
run_peer state place less =
    peer_at state.peers state.peers place (in_all (λ (k : KeptPeer). IsKept state.peers k.peer.id) state.peers (λ k is. finds_itself k state.peers is)) less

pub added_goes_out : (config : Config) (state : State) (act : Act) → IsSound config → All (CutOk state.counts.last_change) state.changes
    → All (GoesOut state) (added config state act)
added_goes_out config state Routed sound are =
    let P = λ (n : ℕ). n ≤ state.counts.last_change in
    map_all (GoesOut state) (out_batch (peers_in state)) (run_batches config state)
    (mapped (Made (length (peers_in state)) (length config.channels) P) (λ (b : NewBatch). GoesOut state (out_batch (peers_in state) b))
    (run_batches config state)
    (λ batch made. (run_peer state batch.peer made.0, made.2))
    (run_makes config state P sound are))
added_goes_out config state (Opened group external token) sound are = All-nil (GoesOut state)
added_goes_out config state (Joined kept) sound are = All-nil (GoesOut state)
added_goes_out config state (Confirmed peer) sound are = All-nil (GoesOut state)
added_goes_out config state (Wrote writer number rows) sound are = All-nil (GoesOut state)
added_goes_out config state (Loaded channel batch) sound are = All-nil (GoesOut state)
added_goes_out config state (Erred from channel error) sound are = All-nil (GoesOut state)
added_goes_out config state (Acked from acks) sound are = All-nil (GoesOut state)

-- THE FACTS of a node's state, beside its acts
abbrev pub Came : Config → State → Act → Type 0
Came config state (Loaded channel batch) = IsKept state.peers batch.from × (channel < length config.channels)
Came config state act = Unit {0}

pub record NodeFacts (config : Config) (state : State) (acts : List Act) : Type 0 where
  pub batches : All (GoesOut state) state.batches
  pub loads : All (Came config state) acts
  pub lanes : All (λ (lane : LaneIn). IsKept state.peers lane.peer) state.lanes
  pub own : kept_peer state.peers state.me.id ≡ None
  pub ids : batch_ids state.batches ≡ range_with_len 1 state.counts.last_batch
  pub changes : All (CutOk state.counts.last_change) state.changes

pub last_change_rises : (config : Config) (state : State) (act : Act) → state.counts.last_change ≤ (state_after config state act).counts.last_change
last_change_rises config state act = more state.counts.last_change _
  where
    more : (a n : ℕ) → a ≤ a + n
    more a n = omega arith

pub last_batch_rises : (config : Config) (state : State) (act : Act) → state.counts.last_batch ≤ (state_after config state act).counts.last_batch
last_batch_rises config state act = more state.counts.last_batch _
  where
    more : (a n : ℕ) → a ≤ a + n
    more a n = omega arith

goes_on : (config : Config) (state : State) (act : Act) (batch : OutBatch) → JoinsNew state act → GoesOut state batch → GoesOut (state_after config state act) batch
goes_on config state act batch suits out = (
  still_kept config state act batch.peer suits out.0,
  mapped (λ (n : ℕ). n ≤ state.counts.last_change) (λ (n : ℕ). n ≤ (state_after config state act).counts.last_change) batch.changes
      (λ n less. at_most n state.counts.last_change (state_after config state act).counts.last_change less (last_change_rises config state act)) out.1,
)

unsaid_batches : (config : Config) (state : State) (act : Act) → IsUnsaid act → IsSound config → JoinsNew state act → All (GoesOut state) state.batches
    → All (CutOk state.counts.last_change) state.changes → All (GoesOut (state_after config state act)) (state_after config state act).batches
unsaid_batches config state act none sound suits before changes =
    subst (All (GoesOut (state_after config state act))) (sym (batches_after config state act none))
    (mapped (GoesOut state) (GoesOut (state_after config state act)) (state.batches ++ added config state act)
    (λ batch out. goes_on config state act batch suits out)
    (All-append (GoesOut state) state.batches (added config state act) before (added_goes_out config state act sound changes)))

pub batches_stay : (config : Config) (state : State) (act : Act) → IsSound config → JoinsNew state act → All (GoesOut state) state.batches
    → All (CutOk state.counts.last_change) state.changes → All (GoesOut (state_after config state act)) (state_after config state act).batches
batches_stay config state (Acked from acks) sound suits before changes =
    let after : State = state_after config state (Acked from acks) in
    map_all (GoesOut after) (with_standing (state.batches ++ []) (Acked from acks ∷ [])) (state.batches ++ [])
    (mapped (GoesOut state) (λ (b : OutBatch). GoesOut after (with_standing (state.batches ++ []) (Acked from acks ∷ []) b)) (state.batches ++ [])
    (λ batch out. goes_on config state (Acked from acks) batch suits out)
    (All-append (GoesOut state) state.batches [] before (All-nil (GoesOut state))))
batches_stay config state (Opened group external token) sound suits before changes = unsaid_batches config state (Opened group external token) (λ p. refl) sound suits before changes
batches_stay config state (Joined kept) sound suits before changes = unsaid_batches config state (Joined kept) (λ p. refl) sound suits before changes
batches_stay config state (Confirmed peer) sound suits before changes = unsaid_batches config state (Confirmed peer) (λ p. refl) sound suits before changes
batches_stay config state (Wrote writer number rows) sound suits before changes = unsaid_batches config state (Wrote writer number rows) (λ p. refl) sound suits before changes
batches_stay config state Routed sound suits before changes = unsaid_batches config state Routed (λ p. refl) sound suits before changes
batches_stay config state (Loaded channel batch) sound suits before changes = unsaid_batches config state (Loaded channel batch) (λ p. refl) sound suits before changes
batches_stay config state (Erred from channel error) sound suits before changes = unsaid_batches config state (Erred from channel error) (λ p. refl) sound suits before changes

came_on : (config : Config) (state : State) (act other : Act) → Suits config state act → Came config state other → Came config (state_after config state act) other
came_on config state act (Loaded channel batch) suits came = (still_kept config state act batch.from (joins_of config state act suits) came.0, came.1)
came_on config state act (Opened group external token) suits came = tt
came_on config state act (Joined kept) suits came = tt
came_on config state act (Confirmed peer) suits came = tt
came_on config state act (Wrote writer number rows) suits came = tt
came_on config state act Routed suits came = tt
came_on config state act (Erred from channel error) suits came = tt
came_on config state act (Acked from acks) suits came = tt

came_now : (config : Config) (state : State) (act : Act) → Suits config state act → Came config state act
came_now config state (Loaded channel batch) suits = suits
came_now config state (Opened group external token) suits = tt
came_now config state (Joined kept) suits = tt
came_now config state (Confirmed peer) suits = tt
came_now config state (Wrote writer number rows) suits = tt
came_now config state Routed suits = tt
came_now config state (Erred from channel error) suits = tt
came_now config state (Acked from acks) suits = tt

-- LANES
lanes_stay : (config : Config) (state : State) (act : Act) → Suits config state act → All (λ (lane : LaneIn). IsKept state.peers lane.peer) state.lanes
    → All (λ (lane : LaneIn). IsKept (state_after config state act).peers lane.peer) (state_after config state act).lanes
lanes_stay config state (Loaded channel batch) suits are =
    item_all (λ (lane : LaneIn). IsKept state.peers lane.peer) (lane_key config) (record {
      peer = batch.from;
      channel = channel;
      highest = batch.batch;
      ignored = Some (is_ignored (run_after config state [] (Loaded channel batch)).end);
      error = None;
    }) state.lanes suits.0 are
lanes_stay config state (Erred from channel error) suits are =
    item_all (λ (lane : LaneIn). IsKept state.peers lane.peer) (lane_key config) (record (lane_of state.lanes from channel) { error = Some error }) state.lanes
    (lane_kept (find (is_lane from channel) state.lanes) refl) are
  where
    lane_kept : (found : Option LaneIn) → find (is_lane from channel) state.lanes ≡ found → IsKept state.peers (unwrap_or found (empty_lane from channel)).peer
    lane_kept None is = suits
    lane_kept (Some lane) is = find_all (λ (l : LaneIn). IsKept state.peers l.peer) (is_lane from channel) state.lanes lane are is
lanes_stay config state (Joined kept) suits are =
    mapped (λ (lane : LaneIn). IsKept state.peers lane.peer) (λ (lane : LaneIn). IsKept (peers_by (Joined kept) state.peers) lane.peer) state.lanes
    (λ lane is. still_kept config state (Joined kept) lane.peer suits is) are
lanes_stay config state (Opened group external token) suits are = are
lanes_stay config state (Confirmed peer) suits are = are
lanes_stay config state (Wrote writer number rows) suits are = are
lanes_stay config state Routed suits are = are
lanes_stay config state (Acked from acks) suits are = are

-- NUMBERS
abbrev one_act : State → Act → History
one_act state act = record { opening = state; acts = act ∷ [] }

ids_stay : (config : Config) (state : State) (act : Act) → batch_ids state.batches ≡ range_with_len 1 state.counts.last_batch
    → batch_ids (state_after config state act).batches ≡ range_with_len 1 (state_after config state act).counts.last_batch
ids_stay config state act before =
    let (made, counted) = batches_count_on config (one_act state act) in
    counted.0 ∙ (ap (λ ids. ids ++ range_with_len (state.counts.last_batch + 1) made) before
    ∙ (ap (λ k. range_with_len 1 state.counts.last_batch ++ range_with_len k made) (after_one state.counts.last_batch)
    ∙ (ranges_append 1 state.counts.last_batch made ∙ ap (range_with_len 1) (sym counted.1))))
  where
    after_one : (n : ℕ) → n + 1 ≡ 1 + n
    after_one n = omega arith

pub changes_stay : (config : Config) (state : State) (act : Act) → All (CutOk state.counts.last_change) state.changes
    → All (CutOk (state_after config state act).counts.last_change) (state_after config state act).changes
changes_stay config state act before =
    let (made, counted) = changes_count_on config (one_act state act) in
    let last : ℕ = state.counts.last_change in
    let now : ℕ = (state_after config state act).counts.last_change in
    unmap_all (λ (n : ℕ). n ≤ now) (λ (c : Change). c.id) (state_after config state act).changes
    (subst (All (λ (n : ℕ). n ≤ now)) (sym counted.0)
    (All-append (λ (n : ℕ). n ≤ now) (change_ids state.changes) (range_with_len (last + 1) made)
    (map_all (λ (n : ℕ). n ≤ now) (λ (c : Change). c.id) state.changes
    (mapped (CutOk last) (CutOk now) state.changes (λ c less. at_most c.id last now less (last_change_rises config state act)) before))
    (mapped (λ (n : ℕ). n < (last + 1) + made) (λ (n : ℕ). n ≤ now) (range_with_len (last + 1) made) (λ n less. within last made now n counted.1 less)
    (most_in_range (last + 1) made))))
  where
    within : (a n b k : ℕ) → b ≡ a + n → k < (a + 1) + n → k ≤ b
    within a n b k is less = omega (arith, is, less)

pub facts_stay : (config : Config) (state : State) (acts : List Act) (act : Act) → IsSound config → Suits config state act → NodeFacts config state acts
    → NodeFacts config (state_after config state act) (act ∷ acts)
facts_stay config state acts act sound suits before = record {
  batches = batches_stay config state act sound (joins_of config state act suits) before.batches before.changes;
  loads = mapped (Came config state) (Came config (state_after config state act)) (act ∷ acts) (λ other came. came_on config state act other suits came)
      (All-cons (Came config state) act acts (came_now config state act suits) before.loads);
  lanes = lanes_stay config state act suits before.lanes;
  own = own_stays config state act (joins_of config state act suits) before.own;
  ids = ids_stay config state act before.ids;
  changes = changes_stay config state act before.changes;
}

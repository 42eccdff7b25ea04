-- Each change that was routed stands in one batch to each peer that it was for.
use Rattle.std.proofs.Common.{◌≡◌, ◌≢◌, ℕ, zero, suc, ◌+◌, ◌<◌, ◌≤◌, Bool, true, false, cond, List, [], ◌∷◌, ◌++◌, length, map, Some, refl, sym, ap, subst, ◌∙◌, arith, filter, ◌&&◌, All, AllPairs, append_assoc}
use Rattle.std.specs.List.{enumerate_from, flat_map, range_with_len}
use Rattle.std.specs.Option.{option_map_or}
use Rattle.std.specs.Prelude.{slice_get}
use Rattle.std.proofs.lemmas.Grind.{flat_map-append}
use Rattle.std.proofs.lemmas.List.{map-append}
use Rattle.std.proofs.lemmas.List.Concat.{flat_map-cons}
use Rattle.std.proofs.lemmas.List.Elements.{All-nil, All-cons}
use Rattle.std.proofs.lemmas.List.Kept.{AllPairs-filter}
use Rattle.sds_value.specs.declared.row.Peer.{Peer}
use Rattle.sds_types.specs.declared.batch.NewBatch.{NewBatch}
use Rattle.sds_types.specs.declared.batch.OutBatch.{OutBatch}
use Rattle.sds_types.specs.declared.channel.ChannelDef.{ChannelDef}
use Rattle.sds_types.specs.declared.config.Config.{Config}
use Rattle.sds_types.specs.declared.row.Change.{Change}
use Rattle.sds_types.specs.declared.row.TableRow.{TableRow}
use Rattle.sds_trade.proofs.ChangeLaws.{peers_are_named_once}
use Rattle.sds_trade.proofs.CutLaw.{cut_is_a_cut}
use Rattle.sds_trade.proofs.Lists.{all_head, all_tail}
use Rattle.sds_trade.specs.rules.Batches.{batches_of, channels_in_order, lane_batches, lane_changes, peers_named, routed_changes}
use Rattle.sds_trade.specs.rules.Cuts.{changes_in, cut}
use Rattle.sds_trade.specs.rules.Named.{is_named, targets_of}
use Rattle.sds_history.specs.history.Made.{out_batch}
use Rattle.sds_history.specs.world.RoutedOnce.{holders_of, holds}
use Rattle.sds_nodelaws.proofs.Channels.{At, given_once, is_at, numbered_all, sorted_all}
use Rattle.sds_nodelaws.proofs.Held.{Apart, all_of, filter_one, first_all, flat_same, has_id, held, held_flat, held_numbered, held_pieces, holds_id, in_lane, lane_filter, last_all, mapped}
use Rattle.sds_nodelaws.proofs.Targets.{Below, fold_each, is_in, one_if, targets_found}

-- A CHANGE among others, which is for these peers
pub record Among (changes : List Change) (change : Change) : Type 0 where
  pub before : List Change
  pub later : List Change
  pub same : changes ≡ before ++ change ∷ later

-- a lane's batches hold it where it is of the lane
lane_holds : (targets : Change → List ℕ) (changes : List Change) (change : Change) (at : At) (peer : ℕ) → AllPairs Apart changes → Among changes change
    → 1 ≤ at.1.max_batch_size
    → held change.id (lane_batches (map (λ (c : Change). (c, targets c)) changes) at peer)
    ≡ one_if (in_lane targets at.0 peer change) peer
lane_holds targets changes change at peer apart among some =
    let lane : List Change = lane_changes (map (λ (c : Change). (c, targets c)) changes) at.0 peer in
    let is_lane : lane ≡ filter (in_lane targets at.0 peer) changes = lane_filter targets at.0 peer changes in
    let joined : changes_in (cut at.1.batch_algorithm at.1.max_batch_size lane) ≡ lane = (cut_is_a_cut at.1.batch_algorithm at.1.max_batch_size lane some).1 in
    held_pieces change.id at.0 peer (cut at.1.batch_algorithm at.1.max_batch_size lane)
    (subst (AllPairs Apart) (sym (joined ∙ is_lane)) (AllPairs-filter Apart (in_lane targets at.0 peer) changes apart))
    ∙ ap (λ b. one_if b peer) (ap (has_id change.id) (joined ∙ is_lane)
    ∙ (ap (λ cs. has_id change.id (filter (in_lane targets at.0 peer) cs)) among.same
    ∙ filter_one (in_lane targets at.0 peer) among.before change among.later (subst (AllPairs Apart) among.same apart)))

-- the lanes of a channel hold it for its peers, where it is of the channel
place_on : (targets : List ℕ) (b : Bool) (n : ℕ) → AllPairs Below targets → All (λ (t : ℕ). t < 0 + n) targets
    → flat_map (λ (p : ℕ). one_if (b && is_in targets p) p) (range_with_len 0 n) ≡ cond b targets []
place_on targets true n pairs most = targets_found n 0 targets pairs (λ k d within. least _) most
  where
    least : (k : ℕ) → 0 ≤ k
    least k = omega arith
place_on targets false n pairs most = nothing 0 n
  where
    nothing : (a m : ℕ) → flat_map (λ (p : ℕ). one_if false p) (range_with_len a m) ≡ []
    nothing a zero = refl
    nothing a (suc m) = flat_map-cons (λ (p : ℕ). one_if false p) a (range_with_len (a + 1) m) ∙ nothing (a + 1) m

channel_holds : (targets : Change → List ℕ) (changes : List Change) (change : Change) (at : At) (n : ℕ) → AllPairs Apart changes → Among changes change
    → 1 ≤ at.1.max_batch_size → AllPairs Below (targets change) → All (λ (t : ℕ). t < 0 + n) (targets change)
    → held change.id (flat_map (lane_batches (map (λ (c : Change). (c, targets c)) changes) at) (range_with_len 0 n))
    ≡ cond (is_at change.channel at) (targets change) []
channel_holds targets changes change at n apart among some pairs most =
    held_flat change.id (lane_batches (map (λ (c : Change). (c, targets c)) changes) at) (range_with_len 0 n)
    ∙ (flat_same (λ (p : ℕ). held change.id (lane_batches (map (λ (c : Change). (c, targets c)) changes) at p))
    (λ (p : ℕ). one_if (is_at change.channel at && is_in (targets change) p) p) (range_with_len 0 n)
    (all_of (λ (p : ℕ). held change.id (lane_batches (map (λ (c : Change). (c, targets c)) changes) at p)
    ≡ one_if (is_at change.channel at && is_in (targets change) p) p) (range_with_len 0 n)
    (λ p. lane_holds targets changes change at p apart among some))
    ∙ place_on (targets change) (is_at change.channel at) n pairs most)

-- the greatest place of a peer is counted
below_on : (t n : ℕ) → t + 1 ≤ n → t < 0 + n
below_on t n less = omega (arith, less)

unmapped : (P : ℕ → Type 0) (f : ℕ → ℕ) (ts : List ℕ) → All P (map f ts) → All (λ t. P (f t)) ts
unmapped P f [] are = All-nil (λ t. P (f t))
unmapped P f (t ∷ ts) are = All-cons (λ t. P (f t)) t ts (all_head P (f t) (map f ts) are) (unmapped P f ts (all_tail P (f t) (map f ts) are))

flat_part : {X : Type 0} (P : ℕ → Type 0) (f : X → List ℕ) (before : List X) (x : X) (later : List X) → All P (flat_map f (before ++ x ∷ later)) → All P (f x)
flat_part P f before x later are =
    first_all P (f x) (flat_map f later)
    (subst (All P) (flat_map-cons f x later) (last_all P (flat_map f before) (flat_map f (x ∷ later)) (subst (All P) (flat_map-append f before (x ∷ later)) are)))

counted : (targets : Change → List ℕ) (changes : List Change) (change : Change) → Among changes change
    → All (λ (t : ℕ). t < 0 + peers_named (map (λ (c : Change). (c, targets c)) changes)) (targets change)
counted targets changes change among =
    let routed : List (Change × List ℕ) = map (λ (c : Change). (c, targets c)) changes in
    let all : List ℕ = flat_map (λ (at : Change × List ℕ). at.1) routed in
    let split : routed ≡ map (λ (c : Change). (c, targets c)) among.before ++ (change, targets change) ∷ map (λ (c : Change). (c, targets c)) among.later =
    ap (map (λ (c : Change). (c, targets c))) among.same ∙ map-append (λ (c : Change). (c, targets c)) among.before (change ∷ among.later) in
    let each : All (λ (t : ℕ). t + 1 ≤ peers_named routed) all =
    unmapped (λ (x : ℕ). x ≤ peers_named routed) (λ (t : ℕ). t + 1) all (fold_each 0 (map (λ (t : ℕ). t + 1) all)) in
    let mine : All (λ (t : ℕ). t + 1 ≤ peers_named routed) (targets change) =
    flat_part (λ (t : ℕ). t + 1 ≤ peers_named routed) (λ (at : Change × List ℕ). at.1) (map (λ (c : Change). (c, targets c)) among.before)
    (change, targets change) (map (λ (c : Change). (c, targets c)) among.later)
    (subst (λ r. All (λ (t : ℕ). t + 1 ≤ peers_named routed) (flat_map (λ (at : Change × List ℕ). at.1) r)) split each) in
    λ k d within. below_on _ (peers_named routed) (mine k d within)

-- THE RUN. Its batches hold a change for its peers, each once
pub record IsInOrder (config : Config) : Type 0 where
  pub some : All (λ (def : ChannelDef). 1 ≤ def.max_batch_size) config.channels
  pub apart : AllPairs (λ (a b : ChannelDef). a.id ≢ b.id) config.channels

run_holds : (config : Config) (first : ℕ) (targets : Change → List ℕ) (changes : List Change) (change : Change) → IsInOrder config
    → AllPairs Apart changes → Among changes change → change.channel < length config.channels → AllPairs Below (targets change)
    → held change.id (batches_of config first (map (λ (c : Change). (c, targets c)) changes)) ≡ targets change
run_holds config first targets changes change sound apart among within pairs =
    let routed : List (Change × List ℕ) = map (λ (c : Change). (c, targets c)) changes in
    let n : ℕ = peers_named routed in
    held_numbered change.id first (flat_map (λ (at : At). flat_map (lane_batches routed at) (range_with_len 0 n)) (channels_in_order config))
    ∙ (held_flat change.id (λ (at : At). flat_map (lane_batches routed at) (range_with_len 0 n)) (channels_in_order config)
    ∙ (flat_same (λ (at : At). held change.id (flat_map (lane_batches routed at) (range_with_len 0 n)))
    (λ (at : At). cond (is_at change.channel at) (targets change) []) (channels_in_order config)
    (sorted_all (λ (at : At). held change.id (flat_map (lane_batches routed at) (range_with_len 0 n)) ≡ cond (is_at change.channel at) (targets change) [])
    (enumerate_from 0 config.channels)
    (mapped (λ (at : At). 1 ≤ at.1.max_batch_size)
    (λ (at : At). held change.id (flat_map (lane_batches routed at) (range_with_len 0 n)) ≡ cond (is_at change.channel at) (targets change) [])
    (enumerate_from 0 config.channels) (λ at some. channel_holds targets changes change at n apart among some pairs (counted targets changes change among))
    (numbered_all (λ (def : ChannelDef). 1 ≤ def.max_batch_size) 0 config.channels sound.some)))
    ∙ given_once change.channel (targets change) config.channels sound.apart within))

-- OUT. The batches as they stand, to the peers at their places
abbrev peer_id : List Peer → ℕ → List ℕ
peer_id peers place = option_map_or (λ (peer : Peer). peer.id) (slice_get peers place) []

out_on : (peers : List Peer) (batch : NewBatch) (b : Bool) (xs : List OutBatch) (ys : List NewBatch)
    → map (λ (o : OutBatch). o.peer) xs ≡ map (peer_id peers) (map (λ (n : NewBatch). n.peer) ys)
    → map (λ (o : OutBatch). o.peer) (cond b (out_batch peers batch ∷ xs) xs) ≡ map (peer_id peers) (map (λ (n : NewBatch). n.peer) (cond b (batch ∷ ys) ys))
out_on peers batch true xs ys same = ap (λ l. peer_id peers batch.peer ∷ l) same
out_on peers batch false xs ys same = same

pub out_holds : (peers : List Peer) (id : ℕ) (batches : List NewBatch) → holders_of (map (out_batch peers) batches) id ≡ map (peer_id peers) (held id batches)
out_holds peers id [] = refl
out_holds peers id (batch ∷ batches) =
    out_on peers batch (holds_id id batch) (filter (holds id) (map (out_batch peers) batches)) (filter (holds_id id) batches) (out_holds peers id batches)

-- the peers at the places of those that a change is for
at_seam : (before : List Peer) (peer : Peer) (later : List Peer) → slice_get (before ++ peer ∷ later) (length before) ≡ Some peer
at_seam [] peer later = refl
at_seam (other ∷ before) peer later = at_seam before peer later

one_longer : (before : List Peer) (peer : Peer) → length (before ++ peer ∷ []) ≡ length before + 1
one_longer [] peer = omega arith
one_longer (other ∷ before) peer = let rest : length (before ++ peer ∷ []) ≡ length before + 1 = one_longer before peer in omega (arith, rest)

named_on : (all : List Peer) (place : ℕ) (peer : Peer) (b : Bool) (xs : List (ℕ × Peer)) (ys : List Peer) → peer_id all place ≡ peer.id
    → map (peer_id all) (map (λ (at : ℕ × Peer). at.0) xs) ≡ map (λ (p : Peer). p.id) ys
    → map (peer_id all) (map (λ (at : ℕ × Peer). at.0) (cond b ((place, peer) ∷ xs) xs)) ≡ map (λ (p : Peer). p.id) (cond b (peer ∷ ys) ys)
named_on all place peer true xs ys here same = ap (λ i. i ∷ map (peer_id all) (map (λ (at : ℕ × Peer). at.0) xs)) here ∙ ap (λ l. peer.id ∷ l) same
named_on all place peer false xs ys here same = same

named_from : (test : Peer → Bool) (before peers all : List Peer) (n : ℕ) → all ≡ before ++ peers → n ≡ length before
    → map (peer_id all) (map (λ (at : ℕ × Peer). at.0) (filter (λ (at : ℕ × Peer). test at.1) (enumerate_from n peers)))
    ≡ map (λ (p : Peer). p.id) (filter test peers)
named_from test before [] all n same place = refl
named_from test before (peer ∷ peers) all n same place =
    named_on all n peer (test peer) (filter (λ (at : ℕ × Peer). test at.1) (enumerate_from (n + 1) peers)) (filter test peers)
    (ap (λ l. peer_id l n) same ∙ (ap (peer_id (before ++ peer ∷ peers)) place
    ∙ ap (λ o. option_map_or (λ (p : Peer). p.id) o []) (at_seam before peer peers)))
    (named_from test (before ++ peer ∷ []) peers all (n + 1) (same ∙ sym (append_assoc before (peer ∷ []) peers))
    (ap (λ k. k + 1) place ∙ sym (one_longer before peer)))

pub run_names : (config : Config) (me : Peer) (rows : List TableRow) (peers : List Peer) (first : ℕ) (changes : List Change) (change : Change)
    → IsInOrder config → AllPairs Apart changes → Among changes change → change.channel < length config.channels
    → holders_of (map (out_batch peers) (batches_of config first (routed_changes config me rows peers changes))) change.id
    ≡ map (λ (p : Peer). p.id) (filter (is_named config me rows change) peers)
run_names config me rows peers first changes change sound apart among within =
    out_holds peers change.id (batches_of config first (routed_changes config me rows peers changes))
    ∙ (ap (map (peer_id peers)) (run_holds config first (targets_of config me rows peers) changes change sound apart among within
    (peers_are_named_once config me rows peers change))
    ∙ named_from (is_named config me rows change) [] peers peers 0 refl refl)

-- What acts leave that run no rows and make no batches, and their edits.
use Rattle.std.proofs.Common.{◌≡◌, ℕ, ◌+◌, Bool, true, false, cond, List, [], ◌∷◌, ◌++◌, length, map, Option, None, Some, refl, sym, ap, ◌∙◌, append-nil, append_assoc, filter}
use Rattle.std.specs.List.{cons_option, zip}
use Rattle.std.proofs.Math.Nat.{add-zero}
use Rattle.sds_outside.specs.declared.keeping.Edit.{Edit}
use Rattle.sds_types.specs.declared.ack.Ack.{Ack}
use Rattle.sds_types.specs.declared.batch.OutBatch.{OutBatch}
use Rattle.sds_types.specs.declared.config.Config.{Config}
use Rattle.sds_types.specs.declared.counts.Counts.{Counts}
use Rattle.sds_types.specs.declared.peer.KeptPeer.{KeptPeer}
use Rattle.sds_types.specs.declared.registration.Opening.{Opening}
use Rattle.sds_types.specs.declared.row.Change.{Change}
use Rattle.sds_history.specs.history.Acts.{Act, State}
use Rattle.sds_history.specs.history.Acts.Act.{Opened, Joined, Confirmed, Acked}
use Rattle.sds_history.specs.history.Openings.{closed_for, given_if, opening_key, is_given_to, openings_by}
use Rattle.sds_history.specs.history.Orders.{with_item}
use Rattle.sds_history.specs.history.Peers.{peer_key, peers_by}
use Rattle.sds_history.specs.history.Records.{batch_record, count_record, opening_record, peer_record}
use Rattle.sds_history.specs.history.Registrations.{token_of}
use Rattle.sds_history.specs.history.Standings.{acknowledged}
use Rattle.sds_history.specs.history.States.{state_after}
use Rattle.sds_records.specs.Parts.{put_edit}
use Rattle.sds_imagelaws.specs.Edits.{edits_of, new_openings, puts_of, stands_anew}
use Rattle.sds_nodelaws.proofs.NodeFacts.{batches_after}
use Rattle.sds_acts.specs.Counting.{after_act}
use Rattle.sds_acts.specs.Parts.{closed_openings, counts_put, new_opening}

-- COUNTERS: one act more
abbrev one_more : Counts → ℕ → ℕ → ℕ → Counts
one_more counts change batch tx =
    record { acts = counts.acts + 1; last_change = change; last_batch = batch; last_tx = tx; routed = counts.routed }

plain : (counts : Counts) → one_more counts (counts.last_change + 0) (counts.last_batch + 0) (counts.last_tx + 0) ≡ after_act counts
plain counts =
    ap (λ n. one_more counts n (counts.last_batch + 0) (counts.last_tx + 0)) (add-zero counts.last_change)
    ∙ (ap (λ n. one_more counts counts.last_change n (counts.last_tx + 0)) (add-zero counts.last_batch)
    ∙ ap (λ n. one_more counts counts.last_change counts.last_batch n) (add-zero counts.last_tx))

pub opened_counts : (config : Config) (state : State) (group external token : List ℕ)
    → (state_after config state (Opened group external token)).counts ≡ after_act state.counts
opened_counts config state group external token = plain state.counts

pub joined_counts : (config : Config) (state : State) (kept : KeptPeer) → (state_after config state (Joined kept)).counts ≡ after_act state.counts
joined_counts config state kept = plain state.counts

pub confirmed_counts : (config : Config) (state : State) (peer : List ℕ) → (state_after config state (Confirmed peer)).counts ≡ after_act state.counts
confirmed_counts config state peer = plain state.counts

pub acked_counts : (config : Config) (state : State) (from : List ℕ) (acks : List Ack)
    → (state_after config state (Acked from acks)).counts ≡ after_act state.counts
acked_counts config state from acks = plain state.counts

-- STATES: lists that stay, and those that the act changes
abbrev with_parts : State → Counts → List KeptPeer → List Opening → List Change → List OutBatch → State
with_parts state counts peers openings changes batches = record state {
  counts = counts;
  peers = peers;
  openings = openings;
  changes = changes;
  batches = batches;
}

parts_same : (state : State) (peers : List KeptPeer) (openings : List Opening) (c d : Counts) (changes : List Change) (bs cs : List OutBatch)
    → c ≡ d → bs ≡ cs → with_parts state c peers openings (changes ++ []) bs ≡ with_parts state d peers openings changes cs
parts_same state peers openings c d changes bs cs counts batches =
    ap (λ (n : Counts). with_parts state n peers openings (changes ++ []) bs) counts
    ∙ (ap (λ (xs : List Change). with_parts state d peers openings xs bs) (append-nil changes)
    ∙ ap (λ (xs : List OutBatch). with_parts state d peers openings changes xs) batches)

quiet_batches : (config : Config) (state : State) (act : Act) (added : List OutBatch) → added ≡ []
    → (state_after config state act).batches ≡ state.batches ++ added → (state_after config state act).batches ≡ state.batches
quiet_batches config state act added none is = is ∙ (ap (λ (xs : List OutBatch). state.batches ++ xs) none ∙ append-nil state.batches)

pub opened_state : (config : Config) (state : State) (group external token : List ℕ) → state_after config state (Opened group external token)
    ≡ record state {
      counts = after_act state.counts;
      openings = openings_by (Opened group external token) state.openings;
    }
opened_state config state group external token =
    let act : Act = Opened group external token in
    parts_same state state.peers (openings_by act state.openings) (state_after config state act).counts (after_act state.counts) state.changes
    (state_after config state act).batches state.batches (plain state.counts)
    (quiet_batches config state act [] refl (batches_after config state act (λ peer. refl)))

pub joined_state : (config : Config) (state : State) (kept : KeptPeer) → state_after config state (Joined kept)
    ≡ record state {
      counts = after_act state.counts;
      peers = with_item peer_key kept state.peers;
      openings = given_if kept.child kept.peer state.openings;
    }
joined_state config state kept =
    let act : Act = Joined kept in
    parts_same state (peers_by act state.peers) (openings_by act state.openings) (state_after config state act).counts (after_act state.counts) state.changes
    (state_after config state act).batches state.batches (plain state.counts)
    (quiet_batches config state act [] refl (batches_after config state act (λ peer. refl)))

pub confirmed_state : (config : Config) (state : State) (peer : List ℕ) → state_after config state (Confirmed peer)
    ≡ record state {
      counts = after_act state.counts;
      openings = map (closed_for peer) state.openings;
    }
confirmed_state config state peer =
    let act : Act = Confirmed peer in
    parts_same state state.peers (openings_by act state.openings) (state_after config state act).counts (after_act state.counts) state.changes
    (state_after config state act).batches state.batches (plain state.counts)
    (quiet_batches config state act [] refl (batches_after config state act (λ from. refl)))

pub acked_state : (config : Config) (state : State) (from : List ℕ) (acks : List Ack) → state_after config state (Acked from acks)
    ≡ record state {
      counts = after_act state.counts;
      batches = acknowledged state.batches (Acked from acks ∷ []);
    }
acked_state config state from acks =
    let act : Act = Acked from acks in
    parts_same state state.peers state.openings (state_after config state act).counts (after_act state.counts) state.changes
    (acknowledged (state.batches ++ []) (act ∷ [])) (acknowledged state.batches (act ∷ [])) (plain state.counts)
    (ap (λ (xs : List OutBatch). acknowledged xs (act ∷ [])) (append-nil state.batches))

-- EDITS
pub opened_edits : (config : Config) (state : State) (group external token : List ℕ) → edits_of config state (Opened group external token)
    ≡ puts_of (map opening_record (new_openings (Opened group external token) state.openings)) ++ counts_put (after_act state.counts)
opened_edits config state group external token =
    ap (λ (c : Counts). puts_of (map opening_record (new_openings (Opened group external token) state.openings)) ++ counts_put c) (plain state.counts)

pub joined_edits : (config : Config) (state : State) (kept : KeptPeer) → edits_of config state (Joined kept)
    ≡ put_edit (peer_record kept) ∷ (puts_of (map opening_record (new_openings (Joined kept) state.openings)) ++ counts_put (after_act state.counts))
joined_edits config state kept =
    ap (λ (c : Counts). put_edit (peer_record kept) ∷ (puts_of (map opening_record (new_openings (Joined kept) state.openings)) ++ counts_put c)) (plain state.counts)

closed_are : (peer : List ℕ) (openings : List Opening)
    → map (closed_for peer) (filter (λ (opening : Opening). is_given_to peer opening.stage) openings) ≡ closed_openings peer openings
closed_are peer [] = refl
closed_are peer (opening ∷ openings) = on (is_given_to peer opening.stage) (closed_are peer openings)
  where
    given : Opening → Bool
    given o = is_given_to peer o.stage

    on : (b : Bool) → map (closed_for peer) (filter given openings) ≡ closed_openings peer openings
        → map (closed_for peer) (cond b (opening ∷ filter given openings) (filter given openings))
        ≡ cons_option (cond b (Some (closed_for peer opening)) None) (closed_openings peer openings)
    on true rest = ap (λ (os : List Opening). closed_for peer opening ∷ os) rest
    on false rest = rest

pub confirmed_edits : (config : Config) (state : State) (peer : List ℕ) → edits_of config state (Confirmed peer)
    ≡ puts_of (map opening_record (closed_openings peer state.openings)) ++ counts_put (after_act state.counts)
confirmed_edits config state peer =
    ap (λ (os : List Opening). puts_of (map opening_record os) ++ counts_put (state_after config state (Confirmed peer)).counts) (closed_are peer state.openings)
    ∙ ap (λ (c : Counts). puts_of (map opening_record (closed_openings peer state.openings)) ++ counts_put c) (plain state.counts)

-- the batches that an act changes, as they then are
abbrev pub anew : List OutBatch → List OutBatch → List OutBatch
anew before after = map (λ (at : OutBatch × OutBatch). at.1) (filter stands_anew (zip before after))

pub acked_edits : (config : Config) (state : State) (from : List ℕ) (acks : List Ack) → edits_of config state (Acked from acks)
    ≡ puts_of (map (batch_record config) (anew state.batches (acknowledged state.batches (Acked from acks ∷ [])))) ++ counts_put (after_act state.counts)
acked_edits config state from acks =
    ap (λ (xs : List OutBatch). puts_of (map (batch_record config) (anew state.batches (acknowledged xs (Acked from acks ∷ []))))
    ++ counts_put (state_after config state (Acked from acks)).counts) (append-nil state.batches)
    ∙ ap (λ (c : Counts). puts_of (map (batch_record config) (anew state.batches (acknowledged state.batches (Acked from acks ∷ [])))) ++ counts_put c) (plain state.counts)

-- WHAT A NODE MAKES, as it makes it
pub opening_is : (config : Config) (state : State) (group external noise : List ℕ) (counts : Counts) (opening : Opening) (edits committed : List Edit)
    → counts ≡ after_act state.counts → opening ≡ new_opening group external noise → edits ≡ put_edit (opening_record opening) ∷ counts_put counts
    → committed ≡ edits → committed ≡ edits_of config state (Opened group external (token_of noise))
opening_is config state group external noise counts opening edits committed counted is are same =
    same ∙ (are ∙ (ap (λ (o : Opening). put_edit (opening_record o) ∷ counts_put counts) is
    ∙ (ap (λ (c : Counts). put_edit (opening_record (new_opening group external noise)) ∷ counts_put c) counted
    ∙ sym (opened_edits config state group external (token_of noise)))))

pub opening_state : (config : Config) (state : State) (group external noise : List ℕ) (counts : Counts) (opening : Opening) (openings : List Opening)
    → counts ≡ after_act state.counts → opening ≡ new_opening group external noise → openings ≡ with_item opening_key opening state.openings
    → record state { counts = counts; openings = openings } ≡ state_after config state (Opened group external (token_of noise))
opening_state config state group external noise counts opening openings counted is are =
    ap (λ (c : Counts). record state { counts = c; openings = openings }) counted
    ∙ (ap (λ (os : List Opening). record state { counts = after_act state.counts; openings = os })
    (are ∙ ap (λ (o : Opening). with_item opening_key o state.openings) is)
    ∙ sym (opened_state config state group external (token_of noise)))

pub joining_is : (config : Config) (state : State) (kept : KeptPeer) (counts : Counts) (own : KeptPeer) (openings : List Opening) (edits committed : List Edit)
    → counts ≡ after_act state.counts → own ≡ kept → openings ≡ state.openings
    → edits ≡ put_edit (peer_record own) ∷ (puts_of (map opening_record (new_openings (Joined own) openings)) ++ counts_put counts)
    → committed ≡ edits → committed ≡ edits_of config state (Joined kept)
joining_is config state kept counts own openings edits committed counted is stand are same =
    same ∙ (are ∙ (ap (λ (k : KeptPeer). put_edit (peer_record k) ∷ (puts_of (map opening_record (new_openings (Joined k) openings)) ++ counts_put counts)) is
    ∙ (ap (λ (os : List Opening). put_edit (peer_record kept) ∷ (puts_of (map opening_record (new_openings (Joined kept) os)) ++ counts_put counts)) stand
    ∙ (ap (λ (c : Counts). put_edit (peer_record kept) ∷ (puts_of (map opening_record (new_openings (Joined kept) state.openings)) ++ counts_put c)) counted
    ∙ sym (joined_edits config state kept)))))

pub joining_state : (config : Config) (state : State) (kept : KeptPeer) (counts : Counts) (peers : List KeptPeer) (openings : List Opening)
    → counts ≡ after_act state.counts → peers ≡ with_item peer_key kept state.peers → openings ≡ given_if kept.child kept.peer state.openings
    → record state { counts = counts; peers = peers; openings = openings } ≡ state_after config state (Joined kept)
joining_state config state kept counts peers openings counted is are =
    ap (λ (c : Counts). record state { counts = c; peers = peers; openings = openings }) counted
    ∙ (ap (λ (ps : List KeptPeer). record state { counts = after_act state.counts; peers = ps; openings = openings }) is
    ∙ (ap (λ (os : List Opening). record state { counts = after_act state.counts; peers = with_item peer_key kept state.peers; openings = os }) are
    ∙ sym (joined_state config state kept)))

pub closing_is : (config : Config) (state : State) (peer : List ℕ) (counts : Counts) (openings : List Opening) (edits committed : List Edit)
    → counts ≡ after_act state.counts → openings ≡ state.openings → edits ≡ puts_of (map opening_record (closed_openings peer openings)) ++ counts_put counts
    → committed ≡ edits → committed ≡ edits_of config state (Confirmed peer)
closing_is config state peer counts openings edits committed counted stand are same =
    same ∙ (are ∙ (ap (λ (os : List Opening). puts_of (map opening_record (closed_openings peer os)) ++ counts_put counts) stand
    ∙ (ap (λ (c : Counts). puts_of (map opening_record (closed_openings peer state.openings)) ++ counts_put c) counted
    ∙ sym (confirmed_edits config state peer))))

pub closing_state : (config : Config) (state : State) (peer : List ℕ) (counts : Counts) (openings : List Opening) → counts ≡ after_act state.counts
    → openings ≡ map (closed_for peer) state.openings → record state { counts = counts; openings = openings } ≡ state_after config state (Confirmed peer)
closing_state config state peer counts openings counted are =
    ap (λ (c : Counts). record state { counts = c; openings = openings }) counted
    ∙ (ap (λ (os : List Opening). record state { counts = after_act state.counts; openings = os }) are ∙ sym (confirmed_state config state peer))

pub restating_state : (config : Config) (state : State) (from : List ℕ) (acks : List Ack) (counts : Counts) (batches : List OutBatch)
    → counts ≡ after_act state.counts → batches ≡ acknowledged state.batches (Acked from acks ∷ [])
    → record state { counts = counts; batches = batches } ≡ state_after config state (Acked from acks)
restating_state config state from acks counts batches counted are =
    ap (λ (c : Counts). record state { counts = c; batches = batches }) counted
    ∙ (ap (λ (bs : List OutBatch). record state { counts = after_act state.counts; batches = bs }) are ∙ sym (acked_state config state from acks))

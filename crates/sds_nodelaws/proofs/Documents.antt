-- The document of a batch is the same whenever it is asked for.
use Rattle.std.proofs.Common.{◌≡◌, ℕ, ◌+◌, ◌<◌, ◌≤◌, true, false, List, [], map, ◌∷◌, ◌++◌, length, Option, None, Some, Result, Ok, Err, refl, sym, ap, subst, ◌∙◌, arith, true≢false, filter_map, find, option_map, ◌==◌, All, append_assoc, append-nil, filter}
use Rattle.std.specs.List.{flat_map, range_with_len}
use Rattle.std.specs.Option.{option_map_or}
use Rattle.std.specs.Prelude.{is_some}
use Rattle.std.proofs.lemmas.Bool.Decides.{nat_tests}
use Rattle.std.proofs.lemmas.List.{map-append}
use Rattle.std.proofs.lemmas.List.Elements.{All-nil, filter-append}
use Rattle.std.proofs.lemmas.Option.{slice_get-map}
use Rattle.sds_value.specs.declared.kind.Binary.TheVariants.{Base64}
use Rattle.sds_value.specs.declared.row.Peer.{Peer}
use Rattle.sds_types.specs.declared.batch.OutBatch.{OutBatch}
use Rattle.sds_types.specs.declared.config.Config.{Config}
use Rattle.sds_types.specs.declared.document.BatchDoc.{BatchDoc}
use Rattle.sds_types.specs.declared.lane.LaneError.{LaneError}
use Rattle.sds_types.specs.declared.load_answer.LoadAnswer.{LoadAnswer}
use Rattle.sds_types.specs.declared.load_answer.PeerRefusal.{PeerRefusal}
use Rattle.sds_types.specs.declared.peer.KeptPeer.{KeptPeer}
use Rattle.sds_types.specs.declared.prepared.Prepared.{Prepared}
use Rattle.sds_types.specs.declared.row.Change.{Change}
use Rattle.sds_trade.specs.rules.Sound.{IsSound}
use Rattle.sds_trade.specs.rules.Transforms.{extracted_rows}
use Rattle.sds_history.specs.history.Acts.{Act, State}
use Rattle.sds_history.specs.history.Acts.Act.{Opened, Joined, Confirmed, Wrote, Routed, Loaded, Erred, Acked}
use Rattle.sds_history.specs.history.Changes.{run_after}
use Rattle.sds_history.specs.history.Documents.{change_of_number, doc_of_batch, way_to}
use Rattle.sds_history.specs.history.Lanes.{channel_name}
use Rattle.sds_history.specs.history.Loads.{load_of, own_load_answer}
use Rattle.sds_history.specs.history.Messages.{is_in_lane, lane_made}
use Rattle.sds_history.specs.history.Peers.{kept_peer}
use Rattle.sds_history.specs.history.Registrations.{token_of}
use Rattle.sds_history.specs.history.Runs.{Run, captured_in, last_tx_after}
use Rattle.sds_history.specs.history.Standings.{with_standing}
use Rattle.sds_history.specs.history.States.{state_after, state_of}
use Rattle.sds_nodelaws.specs.Calls.{Call, act_of, begun, called_all}
use Rattle.sds_nodelaws.specs.Calls.Call.{Write, Route, Load, TakeAcks, Open, Register, Join, Confirm}
use Rattle.sds_nodelaws.specs.Counters.{change_ids}
use Rattle.sds_nodelaws.specs.Documents.{BatchStays, DocumentsStay}
use Rattle.sds_nodelaws.specs.Splicing.{after_made}
use Rattle.sds_nodelaws.proofs.CallActs.{Joins, acks_is, confirm_is, join_is, load_by_is, open_is, register_is, route_is, write_is}
use Rattle.sds_nodelaws.proofs.Counted.{captured_ids}
use Rattle.sds_nodelaws.proofs.Finals.{got_more}
use Rattle.sds_nodelaws.proofs.Held.{mapped}
use Rattle.sds_nodelaws.proofs.Items.{find_first, find_later}
use Rattle.sds_nodelaws.proofs.Lists.{Either, filter_all, filter_through, filter_map_same, find_none, least_in_range, map_same, map_twice, slice_all, unmap_all}
use Rattle.sds_nodelaws.proofs.Lists.Either.{left, right}
use Rattle.sds_nodelaws.proofs.Made.{nothing, was_within}
use Rattle.sds_nodelaws.proofs.NodeFacts.{CutOk, GoesOut, IsKept, JoinsNew, added, batches_stay, changes_stay, kept_stays}
use Rattle.sds_nodelaws.proofs.Splicing.{calls_step_on}

-- ACTS. A change of a number stays what it is
same_change : (config : Config) (state : State) (act : Act) (number : ℕ) → number ≤ state.counts.last_change
    → change_of_number (state_after config state act) number ≡ change_of_number state number
same_change config state act number within =
    let run : Run = run_after config state [] act in
    let new : List Change = captured_in config state (state.counts.last_change + 0 + 1) (last_tx_after state [] + 1) run in
    same_on new (find (λ (change : Change). change.id == number) state.changes) refl
    (find_none (λ (change : Change). change.id == number) new
    (mapped (λ (change : Change). state.counts.last_change < change.id) (λ (change : Change). (change.id == number) ≡ false) new
    (λ change less. differ state.counts.last_change change.id number less within)
    (above state.counts.last_change (length (captured_in config state 0 0 run)) new
    (captured_ids config state (state.counts.last_change + 0 + 1) (last_tx_after state [] + 1) run))))
  where
    differ : (last id n : ℕ) → last < id → n ≤ last → (id == n) ≡ false
    differ last id n less most = grind (arith, nat_tests, less, most)

    over : (last k : ℕ) → last + 0 + 1 ≤ k → last < k
    over last k least = omega (arith, least)

    above : (last n : ℕ) (changes : List Change) → change_ids changes ≡ range_with_len (last + 0 + 1) n → All (λ (change : Change). last < change.id) changes
    above last n changes same =
        unmap_all (λ (k : ℕ). last < k) (λ (change : Change). change.id) changes
        (subst (All (λ (k : ℕ). last < k)) (sym same)
        (mapped (λ (k : ℕ). last + 0 + 1 ≤ k) (λ (k : ℕ). last < k) (range_with_len (last + 0 + 1) n) (λ k least. over last k least) (least_in_range (last + 0 + 1) n)))

    same_on : (new : List Change) (found : Option Change) → find (λ (change : Change). change.id == number) state.changes ≡ found
        → find (λ (change : Change). change.id == number) new ≡ None
        → find (λ (change : Change). change.id == number) (state.changes ++ new) ≡ find (λ (change : Change). change.id == number) state.changes
    same_on new None is none = find_later (λ (change : Change). change.id == number) state.changes new is ∙ (none ∙ sym is)
    same_on new (Some change) is none = find_first (λ (c : Change). c.id == number) state.changes new change is ∙ sym is

same_peer : (config : Config) (state : State) (act : Act) (id : List ℕ) → JoinsNew state act → IsKept state.peers id
    → kept_peer (state_after config state act).peers id ≡ kept_peer state.peers id
same_peer config state act id suits kept = same_on (kept_peer state.peers id) refl kept
  where
    same_on : (found : Option KeptPeer) → kept_peer state.peers id ≡ found → is_some found ≡ true
        → kept_peer (state_after config state act).peers id ≡ kept_peer state.peers id
    same_on None is some = absurd (true≢false (sym some))
    same_on (Some p) is some = kept_stays config state act id p suits is ∙ sym is

-- and so the document of a batch
pub document_same : (config : Config) (state : State) (act : Act) (batch : OutBatch) → JoinsNew state act → GoesOut state batch
    → doc_of_batch config (state_after config state act) batch ≡ doc_of_batch config state batch
document_same config state act batch joins out =
    ap (λ rows. record {
      channel = channel_name config batch.channel;
      batch = batch.id;
      binary = Base64;
      rows = rows;
    })
    (ap (λ (found : Option KeptPeer). flat_map (extracted_rows config (record {
      source = state.me.id;
      source_group = state.me.group;
      target = batch.peer;
      target_group = option_map_or (λ (kept : KeptPeer). kept.peer.group) found [];
    })) (filter_map (change_of_number (state_after config state act)) batch.changes)) (same_peer config state act batch.peer joins out.0)
    ∙ ap (λ changes. flat_map (extracted_rows config (way_to state batch.peer)) changes)
    (filter_map_same (change_of_number (state_after config state act)) (change_of_number state) batch.changes
    (mapped (λ (n : ℕ). n ≤ state.counts.last_change) (λ (n : ℕ). change_of_number (state_after config state act) n ≡ change_of_number state n) batch.changes
    (λ n within. same_change config state act n within) out.1)))

-- CALLS. A peer that a call's act keeps is new
as_joins : (state : State) (act plain : Act) → act ≡ plain → JoinsNew state plain → JoinsNew state act
as_joins state act plain same is = subst (JoinsNew state) (sym same) is

load_joins : (state : State) (from : List ℕ) (batch : Prepared) (act : Act) (found : Option ℕ) (told : Result LoadAnswer PeerRefusal)
    → load_of state from batch found told ≡ Some act → JoinsNew state act
load_joins state from batch act None (Ok told) made = nothing act made
load_joins state from batch act None (Err refusal) made = nothing act made
load_joins state from batch act (Some channel) (Err refusal) made = nothing act made
load_joins state from batch act (Some channel) (Ok told) made = on (load_by_is state from batch channel told act made)
  where
    on : Either (act ≡ Loaded channel batch) ((error : LaneError) × (act ≡ Erred from channel error) × (error.batch ≡ batch.batch)) → JoinsNew state act
    on (left same) = subst (JoinsNew state) (sym same) tt
    on (right (error, same, number)) = subst (JoinsNew state) (sym same) tt

pub made_joins : (config : Config) (state : State) (call : Call) (act : Act) → act_of config state call ≡ Some act → JoinsNew state act
made_joins config state (Write writer number rows) act made = as_joins state act (Wrote writer number rows) (write_is config state writer number rows act made) tt
made_joins config state Route act made = as_joins state act Routed (route_is config state act made) tt
made_joins config state (Load from batch) act made =
    load_joins state from batch act batch.channel (own_load_answer config state from batch)
    (was_within config state (load_of state from batch batch.channel (own_load_answer config state from batch)) act made)
made_joins config state (TakeAcks from acks) act made = as_joins state act (Acked from acks) (acks_is config state from acks act made) tt
made_joins config state (Open group external noise) act made =
    as_joins state act (Opened group external (token_of noise)) (open_is config state group external noise act made) tt
made_joins config state (Register asks) act made =
    let joins : Joins state asks act = register_is config state asks act made in
    as_joins state act (Joined (record { peer = asks; token = joins.token; child = joins.child })) joins.is (joins.new, joins.other)
made_joins config state (Join other token) act made =
    let joins : Joins state other act = join_is config state other token act made in
    as_joins state act (Joined (record { peer = other; token = joins.token; child = joins.child })) joins.is (joins.new, joins.other)
made_joins config state (Confirm peer) act made = as_joins state act (Confirmed peer) (confirm_is config state peer act made) tt

-- HISTORIES. Each batch goes to a kept peer and holds changes that were captured
record Sends (config : Config) (state : State) : Type 0 where
  batches : All (GoesOut state) state.batches
  changes : All (CutOk state.counts.last_change) state.changes

sends_on : (config : Config) (state : State) (made : Option Act) → IsSound config → ((act : Act) → made ≡ Some act → JoinsNew state act) → Sends config state
    → Sends config (after_made config state made)
sends_on config state None sound joins before = before
sends_on config state (Some act) sound joins before = record {
  batches = batches_stay config state act sound (joins act refl) before.batches before.changes;
  changes = changes_stay config state act before.changes;
}

all_send : (config : Config) (me : Peer) (calls : List Call) → IsSound config → Sends config (state_of config (called_all config (begun me) calls))
all_send config me [] sound = record { batches = All-nil (GoesOut (state_of config (begun me))); changes = All-nil (CutOk 0) }
all_send config me (call ∷ older) sound =
    let state : State = state_of config (called_all config (begun me) older) in
    subst (Sends config) (sym (calls_step_on config me older call))
    (sends_on config state (act_of config state call) sound (λ act made. made_joins config state call act made) (all_send config me older sound))

stays_on : (config : Config) (before state : State) (made : Option Act) (place : ℕ) (batch : OutBatch) → ((act : Act) → made ≡ Some act → JoinsNew state act)
    → Sends config state → BatchStays config state before place batch → BatchStays config (after_made config state made) before place batch
stays_on config before state None place batch joins sends stays = stays
stays_on config before state (Some act) place batch joins sends stays = record {
  later = with_standing (state.batches ++ added config state act) (act ∷ []) stays.later;
  there = slice_get-map (with_standing (state.batches ++ added config state act) (act ∷ [])) (state.batches ++ added config state act) place
      ∙ ap (option_map (with_standing (state.batches ++ added config state act) (act ∷ []))) (got_more state.batches (added config state act) place stays.later stays.there);
  document = document_same config state act stays.later (joins act refl) (slice_all (GoesOut state) state.batches place stays.later sends.batches stays.there) ∙ stays.document;
}

pub documents_stay : DocumentsStay
documents_stay config sound me older [] place batch is = record { later = batch; there = is; document = refl }
documents_stay config sound me older (call ∷ newer) place batch is =
    let before : State = state_of config (called_all config (begun me) older) in
    let state : State = state_of config (called_all config (begun me) (newer ++ older)) in
    subst (λ (s : State). BatchStays config s before place batch) (sym (calls_step_on config me (newer ++ older) call))
    (stays_on config before state (act_of config state call) place batch (λ act made. made_joins config state call act made) (all_send config me (newer ++ older) sound)
    (documents_stay config sound me older newer place batch is))

-- LANES. A lane's documents only get more
pub record LaneGrows (config : Config) (now before : State) (to : List ℕ) (channel : ℕ) : Type 0 where
  pub extra : List BatchDoc
  pub same : map (doc_of_batch config now) (lane_made now to channel) ≡ map (doc_of_batch config before) (lane_made before to channel) ++ extra

lane_on : (config : Config) (before state : State) (made : Option Act) (to : List ℕ) (channel : ℕ) → ((act : Act) → made ≡ Some act → JoinsNew state act)
    → Sends config state → LaneGrows config state before to channel → LaneGrows config (after_made config state made) before to channel
lane_on config before state None to channel joins sends grows = grows
lane_on config before state (Some act) to channel joins sends grows =
    let now : State = state_after config state act in
    let told : OutBatch → OutBatch = with_standing (state.batches ++ added config state act) (act ∷ []) in
    let new : List OutBatch = filter (is_in_lane to channel) (added config state act) in record {
      extra = grows.extra ++ map (doc_of_batch config now) new;
      same = ap (map (doc_of_batch config now)) (filter_through (is_in_lane to channel) told (state.batches ++ added config state act) (λ b. refl))
          ∙ (map_twice (doc_of_batch config now) told (filter (is_in_lane to channel) (state.batches ++ added config state act))
          ∙ (ap (map (doc_of_batch config now)) (filter-append (is_in_lane to channel) state.batches (added config state act))
          ∙ (map-append (doc_of_batch config now) (lane_made state to channel) new
          ∙ (ap (λ ds. ds ++ map (doc_of_batch config now) new)
          (map_same (doc_of_batch config now) (doc_of_batch config state) (lane_made state to channel)
          (mapped (GoesOut state) (λ (b : OutBatch). doc_of_batch config now b ≡ doc_of_batch config state b) (lane_made state to channel)
          (λ b out. document_same config state act b (joins act refl) out) (filter_all (GoesOut state) (is_in_lane to channel) state.batches sends.batches)) ∙ grows.same)
          ∙ append_assoc (map (doc_of_batch config before) (lane_made before to channel)) grows.extra (map (doc_of_batch config now) new)))));
    }

pub lanes_grow : (config : Config) → IsSound config → (me : Peer) (older newer : List Call) (to : List ℕ) (channel : ℕ)
    → LaneGrows config (state_of config (called_all config (begun me) (newer ++ older))) (state_of config (called_all config (begun me) older)) to channel
lanes_grow config sound me older [] to channel = record {
  extra = [];
  same = sym (append-nil (map (doc_of_batch config (state_of config (called_all config (begun me) older)))
      (lane_made (state_of config (called_all config (begun me) older)) to channel)));
}
lanes_grow config sound me older (call ∷ newer) to channel =
    let before : State = state_of config (called_all config (begun me) older) in
    let state : State = state_of config (called_all config (begun me) (newer ++ older)) in
    subst (λ (s : State). LaneGrows config s before to channel) (sym (calls_step_on config me (newer ++ older) call))
    (lane_on config before state (act_of config state call) to channel (λ act made. made_joins config state call act made) (all_send config me (newer ++ older) sound)
    (lanes_grow config sound me older newer to channel))

-- What the acts of calls are, as worlds need them.
use Rattle.std.proofs.Common.{◌≡◌, ◌≢◌, ℕ, ◌<◌, ◌≤◌, Bool, true, false, cond, List, Option, None, Some, Result, Ok, Err, refl, sym, ap, subst, ◌∙◌, true≢false, ◌||◌, ◌&&◌, not}
use Rattle.std.specs.Option.{option_map_or}
use Rattle.std.specs.Prelude.{is_some, nat_le, nat_lt}
use Rattle.std.specs.Str.{bytes_eq}
use Rattle.sds_value.specs.declared.row.Peer.{Peer}
use Rattle.sds_types.specs.declared.ack.Ack.{Ack}
use Rattle.sds_types.specs.declared.ack.AckRefusal.{AckRefusal}
use Rattle.sds_types.specs.declared.config.Config.{Config}
use Rattle.sds_types.specs.declared.lane.LaneError.{LaneError}
use Rattle.sds_types.specs.declared.load_answer.LoadAnswer.{LoadAnswer}
use Rattle.sds_types.specs.declared.load_answer.LoadAnswer.TheVariants as answer
use Rattle.sds_types.specs.declared.load_answer.PeerRefusal.{PeerRefusal}
use Rattle.sds_types.specs.declared.load_answer.PeerRefusal.TheVariants as refused
use Rattle.sds_types.specs.declared.peer.KeptPeer.{KeptPeer}
use Rattle.sds_types.specs.declared.prepared.Prepared.{Prepared}
use Rattle.sds_types.specs.declared.registration.Opening.{Opening}
use Rattle.sds_types.specs.declared.registration.RegRefusal.{RegRefusal}
use Rattle.sds_types.specs.declared.registration.RegRefusal.TheVariants as reg
use Rattle.sds_types.specs.declared.tx_row.TxRow.{TxRow}
use Rattle.sds_types.specs.declared.write_answer.WriteRefusal.{WriteRefusal}
use Rattle.sds_types.specs.declared.write_answer.Written.{Written}
use Rattle.sds_types.specs.declared.write_answer.Written.TheVariants.{Done, Again}
use Rattle.sds_trade.specs.rules.Runs.{RunEnd}
use Rattle.sds_trade.specs.rules.Runs.RunEnd.{Made, Ignored, Refused}
use Rattle.sds_trade.specs.rules.Outcomes.{outcome_of_batch}
use Rattle.sds_history.specs.history.Acks.{acks_act, acks_by, own_acks_answer}
use Rattle.sds_history.specs.history.Acts.{Act, State}
use Rattle.sds_history.specs.history.Acts.Act.{Opened, Joined, Confirmed, Wrote, Routed, Loaded, Erred, Acked}
use Rattle.sds_history.specs.history.Counters.{act_if}
use Rattle.sds_history.specs.history.Joins.{has_peer_values, is_another, join_act, own_join_answer}
use Rattle.sds_history.specs.history.Lanes.{lane_of}
use Rattle.sds_history.specs.history.Links.{are_linked}
use Rattle.sds_history.specs.history.Loads.{channel_answer, ended_answer, error_answer, keeps_error, knows_sender, lane_answer, load_act, load_by, load_of, next_load, outcome_answer, own_load_answer}
use Rattle.sds_history.specs.history.Openings.{opening_of}
use Rattle.sds_history.specs.history.Peers.{kept_peer}
use Rattle.sds_history.specs.history.Registrations.{act_by, confirm_act, given_answer, is_closed, is_open_for, is_taken, join_by, may_have, open_act, own_open_answer, own_register_answer, register_act, token_of}
use Rattle.sds_history.specs.history.Openings as openings
use Rattle.sds_history.specs.history.Routes.{route_act}
use Rattle.sds_history.specs.history.Writes.{own_answer, waiting_in, write_act, write_by}
use Rattle.sds_nodelaws.proofs.Items.{itself}
use Rattle.sds_nodelaws.proofs.Made.{nothing, same_act, was_within}
use Rattle.sds_nodelaws.proofs.Lists.{Either, from_le, from_not_le}
use Rattle.sds_nodelaws.proofs.Lists.Either.{left, right}

-- PLAIN ACTS
if_is : (plain act : Act) (b : Bool) → act_if b plain ≡ Some act → act ≡ plain
if_is plain act true is = sym (same_act plain act is)
if_is plain act false is = nothing act is

pub write_is : (config : Config) (state : State) (writer : List ℕ) (number : ℕ) (rows : List TxRow) (act : Act)
    → write_act config state writer number rows ≡ Some act → act ≡ Wrote writer number rows
write_is config state writer number rows act is =
    on (own_answer config state writer number rows) (was_within config state (write_by (Wrote writer number rows) (own_answer config state writer number rows)) act is)
  where
    on : (told : Result Written WriteRefusal) → write_by (Wrote writer number rows) told ≡ Some act → act ≡ Wrote writer number rows
    on (Ok (Done first count)) made = sym (same_act (Wrote writer number rows) act made)
    on (Ok (Again first count)) made = nothing act made
    on (Err refusal) made = nothing act made

pub route_is : (config : Config) (state : State) (act : Act) → route_act config state ≡ Some act → act ≡ Routed
route_is config state act is = if_is Routed act (nat_lt 0 (waiting_in state)) (was_within config state (act_if (nat_lt 0 (waiting_in state)) Routed) act is)

pub open_is : (config : Config) (state : State) (group external noise : List ℕ) (act : Act) → open_act config state group external noise ≡ Some act
    → act ≡ Opened group external (token_of noise)
open_is config state group external noise act is =
    on (own_open_answer config state group external)
    (was_within config state (act_by (Opened group external (token_of noise)) (own_open_answer config state group external)) act is)
  where
    on : (told : Result (Unit {0}) RegRefusal) → act_by (Opened group external (token_of noise)) told ≡ Some act → act ≡ Opened group external (token_of noise)
    on (Ok done) made = sym (same_act (Opened group external (token_of noise)) act made)
    on (Err refusal) made = nothing act made

pub confirm_is : (config : Config) (state : State) (peer : List ℕ) (act : Act) → confirm_act config state peer ≡ Some act → act ≡ Confirmed peer
confirm_is config state peer act is =
    if_is (Confirmed peer) act (is_open_for state peer) (was_within config state (act_if (is_open_for state peer) (Confirmed peer)) act is)

pub acks_is : (config : Config) (state : State) (from : List ℕ) (acks : List Ack) (act : Act) → acks_act config state from acks ≡ Some act → act ≡ Acked from acks
acks_is config state from acks act is =
    on (own_acks_answer config state from acks) (was_within config state (acks_by (Acked from acks) (own_acks_answer config state from acks)) act is)
  where
    on : (told : Result ℕ AckRefusal) → acks_by (Acked from acks) told ≡ Some act → act ≡ Acked from acks
    on (Ok count) made = if_is (Acked from acks) act (nat_lt 0 count) made
    on (Err refusal) made = nothing act made

-- JOINS. The peer is new, and isn't the node
pub record Joins (state : State) (peer : Peer) (act : Act) : Type 0 where
  pub token : List ℕ
  pub child : Bool
  pub is : act ≡ Joined (record { peer = peer; token = token; child = child })
  pub new : kept_peer state.peers peer.id ≡ None
  pub other : peer.id ≢ state.me.id

not_kept : (state : State) (id : List ℕ) → is_some (kept_peer state.peers id) ≡ false → kept_peer state.peers id ≡ None
not_kept state id isnt = on (kept_peer state.peers id) refl
  where
    on : (found : Option KeptPeer) → kept_peer state.peers id ≡ found → kept_peer state.peers id ≡ None
    on None is = is
    on (Some p) is = absurd (true≢false (sym (ap is_some is) ∙ isnt))

differ : (a b : List ℕ) → bytes_eq a b ≡ false → a ≢ b
differ a b isnt same = true≢false (sym (ap (λ t. bytes_eq a t) (sym same) ∙ itself a) ∙ isnt)

joins_on : (state : State) (peer : Peer) (child : Bool) (act : Act) (told : Result (List ℕ) RegRefusal) → ((token : List ℕ) → told ≡ Ok token → bytes_eq peer.id state.me.id ≡ false)
    → join_by state peer child told ≡ Some act → Joins state peer act
joins_on state peer child act (Err refusal) apart made = nothing act made
joins_on state peer child act (Ok token) apart made = on (is_some (kept_peer state.peers peer.id)) refl made
  where
    on : (b : Bool) → is_some (kept_peer state.peers peer.id) ≡ b
        → cond b None (Some (Joined (record { peer = peer; token = token; child = child }))) ≡ Some act → Joins state peer act
    on true is made = nothing act made
    on false is made = record {
      token = token;
      child = child;
      is = sym (same_act (Joined (record { peer = peer; token = token; child = child })) act made);
      new = not_kept state peer.id is;
      other = differ peer.id state.me.id (apart token refl);
    }

no_ok : {G : Type 0} (refusal : RegRefusal) (token : List ℕ) → Err refusal ≡ Ok token → G
no_ok refusal token is = absurd (true≢false (ap (λ r. elim r [ Ok t ↦ false | Err e ↦ true ]) is))

pub first_false : (a b : Bool) → (a || b) ≡ false → a ≡ false
first_false true b is = is
first_false false b is = refl

pub join_is : (config : Config) (state : State) (other : Peer) (token : List ℕ) (act : Act) → join_act config state other token ≡ Some act → Joins state other act
join_is config state other token act is =
    joins_on state other false act (own_join_answer config state other token) apart
    (was_within config state (join_by state other false (own_join_answer config state other token)) act is)
  where
    on : (t : List ℕ) (a b : Bool) → is_another state other token ≡ b
        → (rest : Result (List ℕ) RegRefusal) → cond a (Err reg.UnknownGroup) (cond b (Err reg.IdTaken) rest) ≡ Ok t → bytes_eq other.id state.me.id ≡ false
    on t true b another rest made = no_ok reg.UnknownGroup t made
    on t false true another rest made = no_ok reg.IdTaken t made
    on t false false another rest made =
        first_false (bytes_eq other.id state.me.id) (option_map_or (λ (kept : KeptPeer). not (has_peer_values other token kept)) (kept_peer state.peers other.id) false) another

    apart : (t : List ℕ) → own_join_answer config state other token ≡ Ok t → bytes_eq other.id state.me.id ≡ false
    apart t made = on t (not (are_linked config other.group state.me.group)) (is_another state other token) refl _ made

abbrev pub asked : State → Peer → Option Opening → Result (List ℕ) RegRefusal
asked state asks None = Err reg.NotOpen
asked state asks (Some opening) = given_answer state asks opening

pub register_is : (config : Config) (state : State) (asks : Peer) (act : Act) → register_act config state asks ≡ Some act → Joins state asks act
register_is config state asks act is =
    joins_on state asks true act (own_register_answer state asks) apart
    (was_within config state (join_by state asks true (own_register_answer state asks)) act is)
  where
    given : (t : List ℕ) (opening : Opening) (a b : Bool) → is_taken state opening asks.id ≡ b
        → (rest : Result (List ℕ) RegRefusal) → cond a (Err reg.NotOpen) (cond b (Err reg.IdTaken) rest) ≡ Ok t → bytes_eq asks.id state.me.id ≡ false
    given t opening true b taken rest made = no_ok reg.NotOpen t made
    given t opening false true taken rest made = no_ok reg.IdTaken t made
    given t opening false false taken rest made =
        first_false (bytes_eq asks.id state.me.id)
        ((is_some (kept_peer state.peers asks.id) && not (openings.went_to asks.id opening.stage)) || not (may_have asks.id opening.stage)) taken

    on : (t : List ℕ) (found : Option Opening) → asked state asks found ≡ Ok t
        → bytes_eq asks.id state.me.id ≡ false
    on t None made = no_ok reg.NotOpen t made
    on t (Some opening) made = given t opening (is_closed opening.stage) (is_taken state opening asks.id) refl _ made

    apart : (t : List ℕ) → own_register_answer state asks ≡ Ok t → bytes_eq asks.id state.me.id ≡ false
    apart t made = on t (opening_of state.openings asks.group asks.external) made

-- LOADS. The batch comes after those that are loaded
pub record LoadMade (state : State) (from : List ℕ) (batch : Prepared) (channel : ℕ) (act : Act) : Type 0 where
  pub knows : knows_sender state from batch ≡ true
  pub later : (lane_of state.lanes from channel).highest < batch.batch
  pub is : Either (act ≡ Loaded channel batch) ((error : LaneError) × (act ≡ Erred from channel error) × (error.batch ≡ batch.batch))

pub load_by_is : (state : State) (from : List ℕ) (batch : Prepared) (channel : ℕ) (told : LoadAnswer) (act : Act) → load_by state from batch channel told ≡ Some act
    → Either (act ≡ Loaded channel batch) ((error : LaneError) × (act ≡ Erred from channel error) × (error.batch ≡ batch.batch))
load_by_is state from batch channel (answer.Loaded place) act made = left (sym (same_act (Loaded channel batch) act made))
load_by_is state from batch channel (answer.Ignored place) act made = left (sym (same_act (Loaded channel batch) act made))
load_by_is state from batch channel answer.Again act made = nothing act made
load_by_is state from batch channel (answer.Held held row rule) act made = nothing act made
load_by_is state from batch channel (answer.Erred row rule) act made =
    on (keeps_error (lane_of state.lanes from channel) (record { batch = batch.batch; row = row; rule = rule })) made
  where
    on : (b : Bool) → cond b None (Some (Erred from channel (record { batch = batch.batch; row = row; rule = rule }))) ≡ Some act
        → Either (act ≡ Loaded channel batch) ((error : LaneError) × (act ≡ Erred from channel error) × (error.batch ≡ batch.batch))
    on true made = nothing act made
    on false made = right (
      record { batch = batch.batch; row = row; rule = rule },
      sym (same_act (Erred from channel (record { batch = batch.batch; row = row; rule = rule })) act made),
      refl,
    )

pub load_is : (config : Config) (state : State) (from : List ℕ) (batch : Prepared) (channel : ℕ) (act : Act) → batch.channel ≡ Some channel
    → load_act config state from batch ≡ Some act → LoadMade state from batch channel act
load_is config state from batch channel act named is =
    on (knows_sender state from batch) refl
    (subst (λ c. load_of state from batch c (cond (knows_sender state from batch) (Ok (channel_answer config state from batch c)) (Err refused.UnknownNode)) ≡ Some act) named
    (was_within config state (next_load config state from batch) act is))
  where
    lane_on : (b : Bool) → nat_le batch.batch (lane_of state.lanes from channel).highest ≡ b → knows_sender state from batch ≡ true
        → load_by state from batch channel (cond b answer.Again (error_answer config state batch (lane_of state.lanes from channel).error)) ≡ Some act
        → LoadMade state from batch channel act
    lane_on true again knows made = nothing act made
    lane_on false next knows made = record {
      knows = knows;
      later = from_not_le batch.batch (lane_of state.lanes from channel).highest next;
      is = load_by_is state from batch channel (error_answer config state batch (lane_of state.lanes from channel).error) act made;
    }

    on : (b : Bool) → knows_sender state from batch ≡ b
        → load_of state from batch (Some channel) (cond b (Ok (lane_answer config state batch (lane_of state.lanes from channel))) (Err refused.UnknownNode)) ≡ Some act
        → LoadMade state from batch channel act
    on true knows made = lane_on (nat_le batch.batch (lane_of state.lanes from channel).highest) refl knows made
    on false knows made = nothing act made

abbrev is_again : LoadAnswer → Bool
is_again answer.Again = true
is_again (answer.Loaded place) = false
is_again (answer.Ignored place) = false
is_again (answer.Erred row rule) = false
is_again (answer.Held held row rule) = false

-- a batch that is answered as loaded before isn't above the highest
ended_not : (state : State) (end : RunEnd) → ended_answer state end ≡ answer.Again → ⊥
ended_not state (Made dones rows) is = true≢false (ap (λ (a : LoadAnswer). is_again a) (sym is))
ended_not state Ignored is = true≢false (ap (λ (a : LoadAnswer). is_again a) (sym is))
ended_not state (Refused row rule) is = true≢false (ap (λ (a : LoadAnswer). is_again a) (sym is))

error_not : (config : Config) (state : State) (batch : Prepared) (error : Option LaneError) → error_answer config state batch error ≡ answer.Again → ⊥
error_not config state batch None is = ended_not state (outcome_of_batch config state.me.group (waiting_in state) state.tables batch) is
error_not config state batch (Some error) is = on (nat_lt error.batch batch.batch) is
  where
    on : (b : Bool) → cond b (answer.Held error.batch error.row error.rule) (outcome_answer config state batch) ≡ answer.Again → ⊥
    on true is = true≢false (ap (λ (a : LoadAnswer). is_again a) (sym is))
    on false is = ended_not state (outcome_of_batch config state.me.group (waiting_in state) state.tables batch) is

pub again_is : (config : Config) (state : State) (from : List ℕ) (batch : Prepared) (channel : ℕ) → batch.channel ≡ Some channel
    → own_load_answer config state from batch ≡ Ok answer.Again → batch.batch ≤ (lane_of state.lanes from channel).highest
again_is config state from batch channel named is =
    on (knows_sender state from batch)
    (subst (λ c. cond (knows_sender state from batch) (Ok (channel_answer config state from batch c)) (Err refused.UnknownNode) ≡ Ok answer.Again) named is)
  where
    lane_on : (b : Bool) → nat_le batch.batch (lane_of state.lanes from channel).highest ≡ b
        → cond b answer.Again (error_answer config state batch (lane_of state.lanes from channel).error) ≡ answer.Again
        → batch.batch ≤ (lane_of state.lanes from channel).highest
    lane_on true again told = from_le batch.batch (lane_of state.lanes from channel).highest again
    lane_on false next told = absurd (error_not config state batch (lane_of state.lanes from channel).error told)

    on : (b : Bool) → cond b (Ok (lane_answer config state batch (lane_of state.lanes from channel))) (Err refused.UnknownNode) ≡ Ok answer.Again
        → batch.batch ≤ (lane_of state.lanes from channel).highest
    on true told =
        lane_on (nat_le batch.batch (lane_of state.lanes from channel).highest) refl
        (ap (λ (r : Result LoadAnswer PeerRefusal). elim r [ Ok a ↦ a | Err e ↦ answer.Again ]) told)
    on false told = absurd (true≢false (ap (λ (r : Result LoadAnswer PeerRefusal). elim r [ Ok a ↦ false | Err e ↦ true ]) told))

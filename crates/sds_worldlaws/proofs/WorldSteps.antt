-- The facts of a world stay by each act of a node.
use Rattle.std.proofs.Common.{◌≡◌, ◌≢◌, ℕ, ◌<◌, ◌≤◌, Bool, true, false, List, [], ◌∷◌, length, map, None, Some, refl, sym, ap, subst, ◌∙◌, arith, true≢false, ◌==◌, ◌&&◌, cond, All, append-nil}
use Rattle.std.specs.List.{list_any}
use Rattle.std.specs.Prelude.{is_some}
use Rattle.std.specs.Str.{bytes_eq, encode_utf8_all}
use Rattle.std.proofs.lemmas.Str.{encodes_same}
use Rattle.sds_types.specs.declared.batch.OutBatch.{OutBatch}
use Rattle.sds_types.specs.declared.config.Config.{Config}
use Rattle.sds_types.specs.declared.lane.LaneError.{LaneError}
use Rattle.sds_types.specs.declared.lane.LaneIn.{LaneIn}
use Rattle.sds_types.specs.declared.message.Message.{Message}
use Rattle.sds_types.specs.declared.message.Reply.{Reply}
use Rattle.sds_types.specs.declared.prepared.Prepared.{Prepared}
use Rattle.sds_trade.specs.rules.Sound.{IsSound}
use Rattle.sds_history.specs.history.Acts.{Act, History, State}
use Rattle.sds_history.specs.history.Acts.Act.{Opened, Joined, Confirmed, Wrote, Routed, Loaded, Erred, Acked}
use Rattle.sds_history.specs.history.Changes.{run_after}
use Rattle.sds_history.specs.history.Lanes.{is_ignored, lane_of}
use Rattle.sds_history.specs.history.Peers.{peer_key, peers_by}
use Rattle.sds_history.specs.history.States.{state_after, state_of}
use Rattle.sds_history.specs.world.Calling.{with_act}
use Rattle.sds_history.specs.world.Worlds.{Node, World, me_of, node_at, one_for, state_in, with_node}
use Rattle.sds_nodelaws.specs.Calls.{begun}
use Rattle.sds_nodelaws.proofs.Held.{equal_itself, mapped}
use Rattle.sds_nodelaws.proofs.Items.{equal, itself, other_item}
use Rattle.sds_nodelaws.proofs.Splicing.{AcksWithin, all_numbered, none_made, one_act}
use Rattle.sds_nodelaws.proofs.Tests.{same_number}
use Rattle.sds_worldlaws.proofs.LaneFacts.{AckOk, IsNext, LaneFacts, by_acks, by_error, by_load, by_other_error, by_other_load, by_receiver, by_sender, found_error, found_lane, kept_of, made, other_error, other_lane, read}
use Rattle.sds_nodelaws.proofs.Lists.{Either, In, map_all, same_some}
use Rattle.sds_nodelaws.proofs.Lists.Either.{left, right}
use Rattle.sds_nodelaws.proofs.NodeFacts.{IsKept, NodeFacts, Suits, facts_stay}
use Rattle.sds_worldlaws.proofs.Reached.{Reached, put}
use Rattle.sds_worldlaws.proofs.WorldFacts.{AllGrows, Fits, LoadsBatch, LoadsNext, MessageOk, PartOk, ReplyOk, Which, WorldFacts, ack_on, at_other, at_same, id_of_found, made_stays, one_or_apart, part_grows, receiver_grows, sender_grows, still_there, which}
use Rattle.sds_worldlaws.proofs.WorldFacts.Which.{this, that}

-- a node after an act, with these faults left
abbrev pub acted : Node → Act → List Bool → Node
acted node act faults = record { history = with_act node.history act; faults = faults }

-- what it has follows from what it had
pub state_follows : (config : Config) (node : Node) (act : Act) (faults : List Bool) → Reached config node
    → state_in config (acted node act faults) ≡ state_after config (state_in config node) act
state_follows config node act faults is =
    one_act config node.history act
    (subst (λ (h : History). AcksWithin (state_of config h).counts.last_batch h.acts) (sym is.same)
    (all_numbered config (begun is.me).opening is.calls (none_made is.me)).acks)

-- PEERS
known_after : (config : Config) (world : World) (id : List ℕ) (state : State) (act : Act) (other : List ℕ) → Fits config world id state act
    → (IsKept state.peers other → is_some (node_at world other) ≡ true) → IsKept (peers_by act state.peers) other → is_some (node_at world other) ≡ true
known_after config world id state (Joined kept) other fits before is = on (one_or_apart kept.peer.id other)
  where
    on : Either (kept.peer.id ≡ other) (kept.peer.id ≢ other) → is_some (node_at world other) ≡ true
    on (left one) = ap (λ i. is_some (node_at world i)) (sym one) ∙ fits
    on (right apart) =
        before (ap is_some (sym (other_item peer_key kept state.peers (encode_utf8_all other) (λ same. apart (encodes_same kept.peer.id other same)))) ∙ is)
known_after config world id state (Opened group external token) other fits before is = before is
known_after config world id state (Confirmed peer) other fits before is = before is
known_after config world id state (Wrote writer number rows) other fits before is = before is
known_after config world id state Routed other fits before is = before is
known_after config world id state (Loaded channel batch) other fits before is = before is
known_after config world id state (Erred from channel error) other fits before is = before is
known_after config world id state (Acked peer acks) other fits before is = before is

-- LANES from the node
sender_lane : (config : Config) (world : World) (id other : List ℕ) (from : State) (to : Node) (act : Act) (mine acts : List Act) (channel : ℕ)
    → node_at world other ≡ Some to → (state_in config to).me.id ≡ other → Fits config world id from act → Suits config from act
    → NodeFacts config from mine → LaneFacts config from (state_in config to) acts channel
    → LaneFacts config (state_after config from act) (state_in config to) acts channel
sender_lane config world id other from to (Acked peer acks) mine acts channel is one fits suits node before =
    by_acks config from (state_in config to) mine acts peer acks channel
    (λ same. fits to (ap (node_at world) (equal peer (state_in config to).me.id same ∙ one) ∙ is)) node before
sender_lane config world id other from to (Opened group external token) mine acts channel is one fits suits node before =
    by_sender config from (state_in config to) mine acts (Opened group external token) channel (λ p. refl) suits node before
sender_lane config world id other from to (Joined kept) mine acts channel is one fits suits node before =
    by_sender config from (state_in config to) mine acts (Joined kept) channel (λ p. refl) suits node before
sender_lane config world id other from to (Confirmed peer) mine acts channel is one fits suits node before =
    by_sender config from (state_in config to) mine acts (Confirmed peer) channel (λ p. refl) suits node before
sender_lane config world id other from to (Wrote writer number rows) mine acts channel is one fits suits node before =
    by_sender config from (state_in config to) mine acts (Wrote writer number rows) channel (λ p. refl) suits node before
sender_lane config world id other from to Routed mine acts channel is one fits suits node before =
    by_sender config from (state_in config to) mine acts Routed channel (λ p. refl) suits node before
sender_lane config world id other from to (Loaded place batch) mine acts channel is one fits suits node before =
    by_sender config from (state_in config to) mine acts (Loaded place batch) channel (λ p. refl) suits node before
sender_lane config world id other from to (Erred peer place error) mine acts channel is one fits suits node before =
    by_sender config from (state_in config to) mine acts (Erred peer place error) channel (λ p. refl) suits node before

-- whether a load or an error is of a lane
data OfLane (peer other : List ℕ) (place channel : ℕ) : Type 0 where
  of_this : peer ≡ other → place ≡ channel → OfLane peer other place channel
  of_another : ((peer ≡ other) → (place ≡ channel) → ⊥) → OfLane peer other place channel

of_lane : (peer other : List ℕ) (place channel : ℕ) → OfLane peer other place channel
of_lane peer other place channel = on (one_or_apart peer other) (place == channel) refl
  where
    on : Either (peer ≡ other) (peer ≢ other) → (b : Bool) → (place == channel) ≡ b → OfLane peer other place channel
    on (left same) true is = of_this same (same_number place channel is)
    on (left same) false is = of_another (λ p c. true≢false (sym (ap (λ n. place == n) (sym c) ∙ equal_itself place) ∙ is))
    on (right isnt) b is = of_another (λ p c. isnt p)

-- LANES to the node: the next batch of a lane is loaded
load_lane : (config : Config) (world : World) (facts : WorldFacts config world) (id other : List ℕ) (from : Node) (to : State) (acts : List Act) (place channel : ℕ) (new : Prepared)
    → IsSound config → channel < length config.channels → node_at world other ≡ Some from → (state_in config from).me.id ≡ other
    → LoadsBatch config world id to place new → Suits config to (Loaded place new) → NodeFacts config to acts → OfLane new.from other place channel
    → LaneFacts config (state_in config from) to acts channel
    → LaneFacts config (state_in config from) (state_after config to (Loaded place new)) (Loaded place new ∷ acts) channel
load_lane config world facts id other from to acts place channel new sound within is me fits suits node (of_this peer same) before =
    let is_it : fits.loads.sender ≡ from = same_some fits.loads.sender from (sym fits.loads.is_sender ∙ (ap (node_at world) peer ∙ is)) in
    subst (λ c. LaneFacts config (state_in config from) to acts channel
    → LaneFacts config (state_in config from) (state_after config to (Loaded c new)) (Loaded c new ∷ acts) channel) (sym same)
    (subst (λ n. LaneFacts config (state_in config from) to acts channel
    → LaneFacts config (state_in config from) (state_after config to (Loaded channel n)) (Loaded channel n ∷ acts) channel)
    (sym (fits.same ∙ ap (λ (f : Node). read config (state_in config f) to fits.batch) is_it))
    (λ b. by_load config (state_in config from) to from.history.acts acts channel fits.batch sound within (facts.nodes other from is)
    (subst (λ c. In fits.batch (made (state_in config from) to c)) same (subst (λ (f : Node). In fits.batch (made (state_in config f) to place)) is_it fits.among))
    (subst (λ c. IsNext (kept_of (state_in config from) to c).highest (made (state_in config from) to c) fits.batch.id) same
    (subst (λ (f : Node). IsNext (kept_of (state_in config f) to place).highest (made (state_in config f) to place) fits.batch.id) is_it fits.loads.next)) b)) before
load_lane config world facts id other from to acts place channel new sound within is me fits suits node (of_another isnt) before =
    by_other_load config (state_in config from) to acts place channel new sound suits within (λ p c. isnt (p ∙ me) c) node before

error_lane : (config : Config) (world : World) (id other : List ℕ) (from : Node) (to : State) (acts : List Act) (peer : List ℕ) (place channel : ℕ) (error : LaneError)
    → IsSound config → channel < length config.channels → node_at world other ≡ Some from → (state_in config from).me.id ≡ other
    → LoadsNext config world id to peer place error.batch → Suits config to (Erred peer place error) → NodeFacts config to acts → OfLane peer other place channel
    → LaneFacts config (state_in config from) to acts channel
    → LaneFacts config (state_in config from) (state_after config to (Erred peer place error)) (Erred peer place error ∷ acts) channel
error_lane config world id other from to acts peer place channel error sound within is me fits suits node (of_this same at) before =
    let is_it : fits.sender ≡ from = same_some fits.sender from (sym fits.is_sender ∙ (ap (node_at world) same ∙ is)) in
    subst (λ c. LaneFacts config (state_in config from) (state_after config to (Erred peer c error)) (Erred peer c error ∷ acts) channel) (sym at)
    (subst (λ p. LaneFacts config (state_in config from) (state_after config to (Erred p channel error)) (Erred p channel error ∷ acts) channel) (me ∙ sym same)
    (by_error config (state_in config from) to acts channel error
    (subst (λ c. IsNext (kept_of (state_in config from) to c).highest (made (state_in config from) to c) error.batch) at
    (subst (λ (f : Node). IsNext (kept_of (state_in config f) to place).highest (made (state_in config f) to place) error.batch) is_it fits.next))
    (subst (IsKept to.peers) (same ∙ sym me) suits) node before))
error_lane config world id other from to acts peer place channel error sound within is me fits suits node (of_another isnt) before =
    by_other_error config (state_in config from) to acts peer place channel error sound suits fits.within within (λ p c. isnt (p ∙ me) c) node before

receiver_lane : (config : Config) (world : World) (facts : WorldFacts config world) (id other : List ℕ) (from : Node) (to : State) (act : Act) (acts : List Act) (channel : ℕ)
    → IsSound config → channel < length config.channels → node_at world other ≡ Some from → (state_in config from).me.id ≡ other
    → Fits config world id to act → Suits config to act → NodeFacts config to acts → LaneFacts config (state_in config from) to acts channel
    → LaneFacts config (state_in config from) (state_after config to act) (act ∷ acts) channel
receiver_lane config world facts id other from to (Loaded place new) acts channel sound within is me fits suits node before =
    load_lane config world facts id other from to acts place channel new sound within is me fits suits node (of_lane new.from other place channel) before
receiver_lane config world facts id other from to (Erred peer place error) acts channel sound within is me fits suits node before =
    error_lane config world id other from to acts peer place channel error sound within is me fits suits node (of_lane peer other place channel) before
receiver_lane config world facts id other from to (Opened group external token) acts channel sound within is me fits suits node before =
    by_receiver config (state_in config from) to acts (Opened group external token) channel suits refl refl node before
receiver_lane config world facts id other from to (Joined kept) acts channel sound within is me fits suits node before =
    by_receiver config (state_in config from) to acts (Joined kept) channel suits refl refl node before
receiver_lane config world facts id other from to (Confirmed peer) acts channel sound within is me fits suits node before =
    by_receiver config (state_in config from) to acts (Confirmed peer) channel suits refl refl node before
receiver_lane config world facts id other from to (Wrote writer number rows) acts channel sound within is me fits suits node before =
    by_receiver config (state_in config from) to acts (Wrote writer number rows) channel suits refl refl node before
receiver_lane config world facts id other from to Routed acts channel sound within is me fits suits node before =
    by_receiver config (state_in config from) to acts Routed channel suits refl refl node before
receiver_lane config world facts id other from to (Acked peer acks) acts channel sound within is me fits suits node before =
    by_receiver config (state_in config from) to acts (Acked peer acks) channel suits refl refl node before

-- the highest of no lane falls
pub same_most : (n : ℕ) → n ≤ n
same_most n = omega arith

below : (a b : ℕ) → a < b → a ≤ b
below a b less = omega (arith, less)

load_rises : (config : Config) (world : World) (id other : List ℕ) (from : Node) (to : State) (place channel : ℕ) (new : Prepared) → IsSound config
    → channel < length config.channels → node_at world other ≡ Some from → (state_in config from).me.id ≡ other → LoadsBatch config world id to place new
    → OfLane new.from other place channel
    → (kept_of (state_in config from) to channel).highest ≤ (kept_of (state_in config from) (state_after config to (Loaded place new)) channel).highest
load_rises config world id other from to place channel new sound within is me fits (of_this peer same) =
    let is_it : fits.loads.sender ≡ from = same_some fits.loads.sender from (sym fits.loads.is_sender ∙ (ap (node_at world) peer ∙ is)) in
    let kept : LaneIn = record {
      peer = new.from;
      channel = place;
      highest = new.batch;
      ignored = Some (is_ignored (run_after config to [] (Loaded place new)).end);
      error = None;
    } in
    let there : kept_of (state_in config from) (state_after config to (Loaded place new)) channel ≡ kept =
    ap (λ p. lane_of (state_after config to (Loaded place new)).lanes p channel) (me ∙ sym peer)
    ∙ (ap (λ c. lane_of (state_after config to (Loaded place new)).lanes new.from c) (sym same) ∙ found_lane config to.lanes kept) in
    subst (λ n. (kept_of (state_in config from) to channel).highest ≤ n)
    (sym (ap (λ (lane : LaneIn). lane.highest) there ∙ ap (λ (p : Prepared). p.batch) fits.same))
    (below (kept_of (state_in config from) to channel).highest fits.batch.id
    (subst (λ c. (kept_of (state_in config from) to c).highest < fits.batch.id) same
    (subst (λ (f : Node). (kept_of (state_in config f) to place).highest < fits.batch.id) is_it fits.loads.next.more)))
load_rises config world id other from to place channel new sound within is me fits (of_another isnt) =
    subst (λ (lane : LaneIn). (kept_of (state_in config from) to channel).highest ≤ lane.highest)
    (sym (other_lane config to.lanes (record {
      peer = new.from;
      channel = place;
      highest = new.batch;
      ignored = Some (is_ignored (run_after config to [] (Loaded place new)).end);
      error = None;
    }) (state_in config from).me.id channel sound fits.loads.within within (λ p c. isnt (p ∙ me) c)))
    (same_most (kept_of (state_in config from) to channel).highest)

error_rises : (config : Config) (world : World) (id other : List ℕ) (from : Node) (to : State) (peer : List ℕ) (place channel : ℕ) (error : LaneError) → IsSound config
    → channel < length config.channels → (state_in config from).me.id ≡ other → LoadsNext config world id to peer place error.batch
    → OfLane peer other place channel
    → (kept_of (state_in config from) to channel).highest ≤ (kept_of (state_in config from) (state_after config to (Erred peer place error)) channel).highest
error_rises config world id other from to peer place channel error sound within me fits (of_this same at) =
    let there : kept_of (state_in config from) (state_after config to (Erred peer place error)) channel ≡ record (lane_of to.lanes peer place) { error = Some error } =
    ap (λ p. lane_of (state_after config to (Erred peer place error)).lanes p channel) (me ∙ sym same)
    ∙ (ap (λ c. lane_of (state_after config to (Erred peer place error)).lanes peer c) (sym at) ∙ found_error config to.lanes peer place error) in
    subst (λ n. (kept_of (state_in config from) to channel).highest ≤ n) (sym (ap (λ (lane : LaneIn). lane.highest) there))
    (subst (λ p. (kept_of (state_in config from) to channel).highest ≤ (lane_of to.lanes p place).highest) (me ∙ sym same)
    (subst (λ c. (kept_of (state_in config from) to channel).highest ≤ (lane_of to.lanes (state_in config from).me.id c).highest) (sym at)
    (same_most (kept_of (state_in config from) to channel).highest)))
error_rises config world id other from to peer place channel error sound within me fits (of_another isnt) =
    subst (λ (lane : LaneIn). (kept_of (state_in config from) to channel).highest ≤ lane.highest)
    (sym (other_error config to.lanes peer place error (state_in config from).me.id channel sound fits.within within (λ p c. isnt (p ∙ me) c)))
    (same_most (kept_of (state_in config from) to channel).highest)

pub highest_rises : (config : Config) (world : World) (id other : List ℕ) (from : Node) (to : State) (act : Act) (channel : ℕ) → IsSound config
    → channel < length config.channels → node_at world other ≡ Some from → (state_in config from).me.id ≡ other → Fits config world id to act
    → (kept_of (state_in config from) to channel).highest ≤ (kept_of (state_in config from) (state_after config to act) channel).highest
highest_rises config world id other from to (Loaded place new) channel sound within is me fits =
    load_rises config world id other from to place channel new sound within is me fits (of_lane new.from other place channel)
highest_rises config world id other from to (Erred peer place error) channel sound within is me fits =
    error_rises config world id other from to peer place channel error sound within me fits (of_lane peer other place channel)
highest_rises config world id other from to (Opened group external token) channel sound within is me fits = same_most (kept_of (state_in config from) to channel).highest
highest_rises config world id other from to (Joined kept) channel sound within is me fits = same_most (kept_of (state_in config from) to channel).highest
highest_rises config world id other from to (Confirmed peer) channel sound within is me fits = same_most (kept_of (state_in config from) to channel).highest
highest_rises config world id other from to (Wrote writer number rows) channel sound within is me fits = same_most (kept_of (state_in config from) to channel).highest
highest_rises config world id other from to Routed channel sound within is me fits = same_most (kept_of (state_in config from) to channel).highest
highest_rises config world id other from to (Acked peer acks) channel sound within is me fits = same_most (kept_of (state_in config from) to channel).highest

-- THE WORLD after an act
pub record Step (config : Config) (world : World) (id : List ℕ) (node : Node) (act : Act) : Type 0 where
  pub is : node_at world id ≡ Some node
  pub suits : Suits config (state_in config node) act
  pub fits : Fits config world id (state_in config node) act

-- two nodes after the act: their lane has grown
pub record Grown (config : Config) (now : World) (a b : List ℕ) (from to : Node) : Type 0 where
  pub first : Node
  pub second : Node
  pub is_first : node_at now a ≡ Some first
  pub is_second : node_at now b ≡ Some second
  pub grows : AllGrows config (state_in config from) (state_in config to) (state_in config first) (state_in config second)
  pub stays : (number : ℕ) → list_any (λ (batch : OutBatch). batch.id == number && bytes_eq batch.peer (state_in config to).me.id) (state_in config from).batches ≡ true
      → list_any (λ (batch : OutBatch). batch.id == number && bytes_eq batch.peer (state_in config second).me.id) (state_in config first).batches ≡ true

pub same_grows : (config : Config) (from to : State) → AllGrows config from to from to
same_grows config from to channel within = record {
  extra = [];
  ids = sym (append-nil (map (λ (b : OutBatch). b.id) (made from to channel)));
  highest = same_most (kept_of from to channel).highest;
}

grown : (config : Config) (world : World) (facts : WorldFacts config world) (id : List ℕ) (node : Node) (act : Act) (faults : List Bool)
    → IsSound config → Step config world id node act → Reached config node → (a b : List ℕ) (from to : Node) → node_at world a ≡ Some from → node_at world b ≡ Some to → a ≢ b
    → Grown config (with_node world (acted node act faults)) a b from to
grown config world facts id node act faults sound step reached a b from to is_from is_to apart = on (one_or_apart id a) (one_or_apart id b)
  where
    me : (me_of node).id ≡ id
    me = id_of_found world id node step.is

    follows : state_in config (acted node act faults) ≡ state_after config (state_in config node) act
    follows = state_follows config node act faults reached

    on : Either (id ≡ a) (id ≢ a) → Either (id ≡ b) (id ≢ b) → Grown config (with_node world (acted node act faults)) a b from to
    on (left first) (left second) = absurd (apart (sym first ∙ second))
    on (left first) (right second) =
        let it : node ≡ from = same_some node from (sym step.is ∙ (ap (node_at world) first ∙ is_from)) in record {
          first = acted node act faults;
          second = to;
          is_first = ap (node_at (with_node world (acted node act faults))) (sym first) ∙ at_same world id node (acted node act faults) step.is me;
          is_second = at_other world id b (acted node act faults) me second ∙ is_to;
          grows = subst (λ (s : State). AllGrows config (state_in config from) (state_in config to) s (state_in config to)) (sym follows)
              (subst (λ (n : Node). AllGrows config (state_in config n) (state_in config to) (state_after config (state_in config node) act) (state_in config to)) it
              (sender_grows config (state_in config node) (state_in config to) act));
          stays = λ number was. subst (λ (s : State). list_any (λ (batch : OutBatch). batch.id == number && bytes_eq batch.peer (state_in config to).me.id) s.batches ≡ true) (sym follows)
              (made_stays config (state_in config node) (state_in config to) act number
              (subst (λ (n : Node). list_any (λ (batch : OutBatch). batch.id == number && bytes_eq batch.peer (state_in config to).me.id) (state_in config n).batches ≡ true) (sym it) was));
        }
    on (right first) (left second) =
        let it : node ≡ to = same_some node to (sym step.is ∙ (ap (node_at world) second ∙ is_to)) in record {
          first = from;
          second = acted node act faults;
          is_first = at_other world id a (acted node act faults) me first ∙ is_from;
          is_second = ap (node_at (with_node world (acted node act faults))) (sym second) ∙ at_same world id node (acted node act faults) step.is me;
          grows = subst (λ (s : State). AllGrows config (state_in config from) (state_in config to) (state_in config from) s) (sym follows)
              (subst (λ (n : Node). AllGrows config (state_in config from) (state_in config n) (state_in config from) (state_after config (state_in config node) act)) it
              (receiver_grows config (state_in config from) (state_in config node) act
              (λ channel within. highest_rises config world id a from (state_in config node) act channel sound within is_from (id_of_found world a from is_from) step.fits)));
          stays = λ number was. subst (λ (n : Node). list_any (λ (batch : OutBatch). batch.id == number && bytes_eq batch.peer (me_of n).id) (state_in config from).batches ≡ true) (sym it) was;
        }
    on (right first) (right second) = record {
      first = from;
      second = to;
      is_first = at_other world id a (acted node act faults) me first ∙ is_from;
      is_second = at_other world id b (acted node act faults) me second ∙ is_to;
      grows = same_grows config (state_in config from) (state_in config to);
      stays = λ number was. was;
    }

pub message_stays : (config : Config) (world now : World) (message : Message) (ok : MessageOk config world message)
    → Grown config now message.from message.to ok.from ok.to → MessageOk config now message
message_stays config world now message ok grown = record {
  from = grown.first;
  to = grown.second;
  is_from = grown.is_first;
  is_to = grown.is_second;
  apart = ok.apart;
  parts = mapped (PartOk config (state_in config ok.from) (state_in config ok.to)) (PartOk config (state_in config grown.first) (state_in config grown.second)) message.parts
      (λ part is. part_grows config (state_in config ok.from) (state_in config ok.to) (state_in config grown.first) (state_in config grown.second) part grown.grows is) ok.parts;
}

pub reply_stays : (config : Config) (world now : World) (reply : Reply) (ok : ReplyOk config world reply)
    → Grown config now reply.to reply.from ok.sender ok.receiver → ReplyOk config now reply
reply_stays config world now reply ok grown = record {
  sender = grown.first;
  receiver = grown.second;
  is_sender = grown.is_first;
  is_receiver = grown.is_second;
  apart = ok.apart;
  acks = mapped (AckOk config (state_in config ok.sender) (state_in config ok.receiver)) (AckOk config (state_in config grown.first) (state_in config grown.second)) reply.acks
      (λ ack is. ack_on config (state_in config ok.sender) (state_in config ok.receiver) (state_in config grown.first) (state_in config grown.second) ack.batch ack.error
      grown.grows (grown.stays ack.batch) is) ok.acks;
}

pub world_steps : (config : Config) (world : World) (id : List ℕ) (node : Node) (act : Act) (faults : List Bool) → IsSound config
    → WorldFacts config world → Step config world id node act → Reached config node → Reached config (acted node act faults)
    → WorldFacts config (with_node world (acted node act faults))
world_steps config world id node act faults sound facts step before reached = record {
  reached = put config world (acted node act faults) facts.reached reached;
  found = all_found;
  nodes = λ other found is. node_on other found (which world id other node (acted node act faults) found step.is me is);
  known = λ one other found is kept. still_there world id other node (acted node act faults) step.is me
      (known_on one other found (which world id one node (acted node act faults) found step.is me is) kept);
  lanes = λ a b from to channel is_from is_to apart within. lane_on a b from to channel (which world id a node (acted node act faults) from step.is me is_from)
      (which world id b node (acted node act faults) to step.is me is_to) apart within;
  messages = mapped (MessageOk config world) (MessageOk config (with_node world (acted node act faults))) world.messages
      (λ message ok. message_stays config world (with_node world (acted node act faults)) message ok
      (grown config world facts id node act faults sound step before message.from message.to ok.from ok.to ok.is_from ok.is_to ok.apart)) facts.messages;
  replies = mapped (ReplyOk config world) (ReplyOk config (with_node world (acted node act faults))) world.replies
      (λ reply ok. reply_stays config world (with_node world (acted node act faults)) reply ok
      (grown config world facts id node act faults sound step before reply.to reply.from ok.sender ok.receiver ok.is_sender ok.is_receiver ok.apart)) facts.replies;
}
  where
    me : (me_of node).id ≡ id
    me = id_of_found world id node step.is

    follows : state_in config (acted node act faults) ≡ state_after config (state_in config node) act
    follows = state_follows config node act faults before

    one_found : (other : Node) → node_at world (me_of other).id ≡ Some other
        → node_at (with_node world (acted node act faults)) (me_of (one_for (acted node act faults) other)).id ≡ Some (one_for (acted node act faults) other)
    one_found other is = on (bytes_eq (me_of other).id (me_of node).id) refl
      where
        on : (b : Bool) → bytes_eq (me_of other).id (me_of node).id ≡ b
            → node_at (with_node world (acted node act faults)) (me_of (cond b (acted node act faults) other)).id ≡ Some (cond b (acted node act faults) other)
        on true same = ap (node_at (with_node world (acted node act faults))) me ∙ at_same world id node (acted node act faults) step.is me
        on false apart =
            at_other world id (me_of other).id (acted node act faults) me
            (λ same. true≢false (sym (ap (λ i. bytes_eq i (me_of node).id) (sym same ∙ sym me) ∙ itself (me_of node).id) ∙ apart)) ∙ is

    all_found : All (λ (other : Node). node_at (with_node world (acted node act faults)) (me_of other).id ≡ Some other) (map (one_for (acted node act faults)) world.nodes)
    all_found =
        map_all (λ (other : Node). node_at (with_node world (acted node act faults)) (me_of other).id ≡ Some other) (one_for (acted node act faults)) world.nodes
        (mapped (λ (other : Node). node_at world (me_of other).id ≡ Some other)
        (λ (other : Node). node_at (with_node world (acted node act faults)) (me_of (one_for (acted node act faults) other)).id ≡ Some (one_for (acted node act faults) other)) world.nodes
        (λ other is. one_found other is) facts.found)

    node_on : (other : List ℕ) (found : Node) → Which world id other (acted node act faults) found → NodeFacts config (state_in config found) found.history.acts
    node_on other found (this same is) =
        subst (λ (n : Node). NodeFacts config (state_in config n) n.history.acts) (sym is)
        (subst (λ (s : State). NodeFacts config s (act ∷ node.history.acts)) (sym follows)
        (facts_stay config (state_in config node) node.history.acts act sound step.suits (facts.nodes id node step.is)))
    node_on other found (that apart is) = facts.nodes other found is

    known_on : (one other : List ℕ) (found : Node) → Which world id one (acted node act faults) found → IsKept (state_in config found).peers other
        → is_some (node_at world other) ≡ true
    known_on one other found (this same is) kept =
        known_after config world id (state_in config node) act other step.fits (facts.known id other node step.is)
        (subst (λ (s : State). IsKept s.peers other) follows (subst (λ (n : Node). IsKept (state_in config n).peers other) is kept))
    known_on one other found (that apart is) kept = facts.known one other found is kept

    lane_on : (a b : List ℕ) (from to : Node) (channel : ℕ) → Which world id a (acted node act faults) from → Which world id b (acted node act faults) to
        → a ≢ b → channel < length config.channels → LaneFacts config (state_in config from) (state_in config to) to.history.acts channel
    lane_on a b from to channel (this first is_from) (this second is_to) apart within = absurd (apart (sym first ∙ second))
    lane_on a b from to channel (this first is_from) (that second is_to) apart within =
        subst (λ (n : Node). LaneFacts config (state_in config n) (state_in config to) to.history.acts channel) (sym is_from)
        (subst (λ (s : State). LaneFacts config s (state_in config to) to.history.acts channel) (sym follows)
        (sender_lane config world id b (state_in config node) to act node.history.acts to.history.acts channel is_to (id_of_found world b to is_to) step.fits step.suits
        (facts.nodes id node step.is) (facts.lanes id b node to channel step.is is_to (λ same. apart (sym first ∙ same)) within)))
    lane_on a b from to channel (that first is_from) (this second is_to) apart within =
        subst (λ (n : Node). LaneFacts config (state_in config from) (state_in config n) n.history.acts channel) (sym is_to)
        (subst (λ (s : State). LaneFacts config (state_in config from) s (act ∷ node.history.acts) channel) (sym follows)
        (receiver_lane config world facts id a from (state_in config node) act node.history.acts channel sound within is_from (id_of_found world a from is_from)
        step.fits step.suits (facts.nodes id node step.is) (facts.lanes a id from node channel is_from step.is (λ same. apart (same ∙ second)) within)))
    lane_on a b from to channel (that first is_from) (that second is_to) apart within = facts.lanes a b from to channel is_from is_to apart within

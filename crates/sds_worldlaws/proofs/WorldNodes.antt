-- The facts of a world stay where a node gets or loses a fault, and where a new node comes.
use Rattle.std.proofs.Common.{◌≡◌, ◌≢◌, ℕ, ◌<◌, ◌≤◌, Bool, true, false, cond, List, [], ◌∷◌, length, map, Option, None, Some, refl, sym, ap, subst, ◌∙◌, arith, true≢false, filter, find, ◌==◌, ◌&&◌, All}
use Rattle.std.specs.List.{list_any}
use Rattle.std.specs.Prelude.{is_some, unwrap_or}
use Rattle.std.specs.Str.{bytes_eq}
use Rattle.std.proofs.lemmas.List.Elements.{All-nil, All-cons, All-append}
use Rattle.sds_value.specs.declared.row.Peer.{Peer}
use Rattle.sds_types.specs.declared.batch.OutBatch.{OutBatch}
use Rattle.sds_types.specs.declared.config.Config.{Config}
use Rattle.sds_types.specs.declared.lane.LaneIn.{LaneIn}
use Rattle.sds_history.specs.history.Acts.{State}
use Rattle.sds_history.specs.history.Lanes.{empty_lane, is_lane, lane_of}
use Rattle.sds_history.specs.history.Messages.{is_in_lane}
use Rattle.sds_history.specs.history.Peers.{kept_peer}
use Rattle.sds_history.specs.world.Worlds.{Node, World, has_id, me_of, new_node, node_at, one_for, state_in, with_new_node, with_node}
use Rattle.sds_nodelaws.proofs.Held.{mapped}
use Rattle.sds_nodelaws.proofs.Items.{equal, find_first, find_later, itself}
use Rattle.sds_worldlaws.proofs.LaneFacts.{AckedOk, ErrorOk, LaneFacts, kept_of, made, none_loaded, read, upto}
use Rattle.sds_nodelaws.proofs.Lists.{Either, and_right, filter_none, find_all, find_passes, map_all, no_some, same_some}
use Rattle.sds_nodelaws.proofs.Lists.Either.{left, right}
use Rattle.sds_nodelaws.proofs.NodeFacts.{Came, CutOk, GoesOut, IsKept, NodeFacts}
use Rattle.sds_worldlaws.proofs.Reached.{Reached, new_on, put, same_history}
use Rattle.sds_worldlaws.proofs.WorldFacts.{AllGrows, MessageOk, ReplyOk, Which, WorldFacts, at_other, at_same, id_of_found, still_there, which}
use Rattle.sds_worldlaws.proofs.WorldFacts.Which.{this, that}
use Rattle.sds_worldlaws.proofs.WorldSteps.{Grown, message_stays, reply_stays, same_grows}

-- FAULTS. Only those that are left differ
abbrev pub faulty : Node → List Bool → Node
faulty node faults = record { history = node.history; faults = faults }

pub faults_change : (config : Config) (world : World) (id : List ℕ) (node : Node) (faults : List Bool) → WorldFacts config world → node_at world id ≡ Some node
    → Reached config node → WorldFacts config (with_node world (faulty node faults))
faults_change config world id node faults facts is reached = record {
  reached = put config world (faulty node faults) facts.reached (same_history config node faults reached);
  found = map_all (λ (other : Node). node_at (with_node world (faulty node faults)) (me_of other).id ≡ Some other) (one_for (faulty node faults)) world.nodes
      (mapped (λ (other : Node). node_at world (me_of other).id ≡ Some other)
      (λ (other : Node). node_at (with_node world (faulty node faults)) (me_of (one_for (faulty node faults) other)).id ≡ Some (one_for (faulty node faults) other)) world.nodes
      (λ other there. one_found other there) facts.found);
  nodes = λ other found there. node_on other found (which world id other node (faulty node faults) found is me there);
  known = λ one other found there kept. still_there world id other node (faulty node faults) is me
      (known_on one other found (which world id one node (faulty node faults) found is me there) kept);
  lanes = λ a b from to channel is_from is_to apart within. lane_on a b from to channel (which world id a node (faulty node faults) from is me is_from)
      (which world id b node (faulty node faults) to is me is_to) apart within;
  messages = mapped (MessageOk config world) (MessageOk config (with_node world (faulty node faults))) world.messages
      (λ message ok. message_stays config world (with_node world (faulty node faults)) message ok
      (grown message.from message.to ok.from ok.to ok.is_from ok.is_to)) facts.messages;
  replies = mapped (ReplyOk config world) (ReplyOk config (with_node world (faulty node faults))) world.replies
      (λ reply ok. reply_stays config world (with_node world (faulty node faults)) reply ok
      (grown reply.to reply.from ok.sender ok.receiver ok.is_sender ok.is_receiver)) facts.replies;
}
  where
    me : (me_of node).id ≡ id
    me = id_of_found world id node is

    one_found : (other : Node) → node_at world (me_of other).id ≡ Some other
        → node_at (with_node world (faulty node faults)) (me_of (one_for (faulty node faults) other)).id ≡ Some (one_for (faulty node faults) other)
    one_found other there = on (bytes_eq (me_of other).id (me_of node).id) refl
      where
        on : (b : Bool) → bytes_eq (me_of other).id (me_of node).id ≡ b
            → node_at (with_node world (faulty node faults)) (me_of (cond b (faulty node faults) other)).id ≡ Some (cond b (faulty node faults) other)
        on true same = ap (node_at (with_node world (faulty node faults))) me ∙ at_same world id node (faulty node faults) is me
        on false apart =
            at_other world id (me_of other).id (faulty node faults) me
            (λ same. true≢false (sym (ap (λ i. bytes_eq i (me_of node).id) (sym same ∙ sym me) ∙ itself (me_of node).id) ∙ apart)) ∙ there

    node_on : (other : List ℕ) (found : Node) → Which world id other (faulty node faults) found → NodeFacts config (state_in config found) found.history.acts
    node_on other found (this same there) = subst (λ (n : Node). NodeFacts config (state_in config n) n.history.acts) (sym there) (facts.nodes id node is)
    node_on other found (that apart there) = facts.nodes other found there

    known_on : (one other : List ℕ) (found : Node) → Which world id one (faulty node faults) found → IsKept (state_in config found).peers other
        → is_some (node_at world other) ≡ true
    known_on one other found (this same there) kept = facts.known id other node is (subst (λ (n : Node). IsKept (state_in config n).peers other) there kept)
    known_on one other found (that apart there) kept = facts.known one other found there kept

    lane_on : (a b : List ℕ) (from to : Node) (channel : ℕ) → Which world id a (faulty node faults) from → Which world id b (faulty node faults) to
        → a ≢ b → channel < length config.channels → LaneFacts config (state_in config from) (state_in config to) to.history.acts channel
    lane_on a b from to channel (this first is_from) (this second is_to) apart within = absurd (apart (sym first ∙ second))
    lane_on a b from to channel (this first is_from) (that second is_to) apart within =
        subst (λ (n : Node). LaneFacts config (state_in config n) (state_in config to) to.history.acts channel) (sym is_from)
        (facts.lanes id b node to channel is is_to (λ same. apart (sym first ∙ same)) within)
    lane_on a b from to channel (that first is_from) (this second is_to) apart within =
        subst (λ (n : Node). LaneFacts config (state_in config from) (state_in config n) n.history.acts channel) (sym is_to)
        (facts.lanes a id from node channel is_from is (λ same. apart (same ∙ second)) within)
    lane_on a b from to channel (that first is_from) (that second is_to) apart within = facts.lanes a b from to channel is_from is_to apart within

    grown : (a b : List ℕ) (from to : Node) → node_at world a ≡ Some from → node_at world b ≡ Some to → Grown config (with_node world (faulty node faults)) a b from to
    grown a b from to is_from is_to = record {
      first = now a from;
      second = now b to;
      is_first = at_now a from is_from;
      is_second = at_now b to is_to;
      grows = subst (λ (s : State). AllGrows config (state_in config from) (state_in config to) s (state_in config (now b to))) (sym (state_now a from is_from))
          (subst (λ (s : State). AllGrows config (state_in config from) (state_in config to) (state_in config from) s) (sym (state_now b to is_to))
          (same_grows config (state_in config from) (state_in config to)));
      stays = λ number was. subst (λ (s : State). list_any (λ (batch : OutBatch). batch.id == number && bytes_eq batch.peer (state_in config (now b to)).me.id) s.batches ≡ true)
          (sym (state_now a from is_from))
          (subst (λ (s : State). list_any (λ (batch : OutBatch). batch.id == number && bytes_eq batch.peer s.me.id) (state_in config from).batches ≡ true) (sym (state_now b to is_to)) was);
    }
      where
        now : List ℕ → Node → Node
        now other n = cond (bytes_eq id other) (faulty node faults) n

        at_now : (other : List ℕ) (n : Node) → node_at world other ≡ Some n → node_at (with_node world (faulty node faults)) other ≡ Some (cond (bytes_eq id other) (faulty node faults) n)
        at_now other n there = on (bytes_eq id other) refl
          where
            on : (t : Bool) → bytes_eq id other ≡ t → node_at (with_node world (faulty node faults)) other ≡ Some (cond t (faulty node faults) n)
            on true same = ap (node_at (with_node world (faulty node faults))) (sym (equal id other same)) ∙ at_same world id node (faulty node faults) is me
            on false apart = at_other world id other (faulty node faults) me (λ same. true≢false (sym (ap (λ i. bytes_eq id i) (sym same) ∙ itself id) ∙ apart)) ∙ there

        state_now : (other : List ℕ) (n : Node) → node_at world other ≡ Some n → state_in config (cond (bytes_eq id other) (faulty node faults) n) ≡ state_in config n
        state_now other n there = on (bytes_eq id other) refl
          where
            on : (t : Bool) → bytes_eq id other ≡ t → state_in config (cond t (faulty node faults) n) ≡ state_in config n
            on true same = ap (state_in config) (same_some node n (sym is ∙ (ap (node_at world) (equal id other same) ∙ there)))
            on false apart = refl

-- A NEW NODE
was_or_new : (world : World) (me : Peer) (id : List ℕ) (node : Node) → node_at (with_new_node world me) id ≡ Some node
    → Either (node_at world id ≡ Some node) ((id ≡ me.id) × (node ≡ new_node me))
was_or_new world me id node there = on (find (has_id id) world.nodes) refl
  where
    new_on : (b : Bool) → bytes_eq me.id id ≡ b → cond b (Some (new_node me)) None ≡ Some node → (id ≡ me.id) × (node ≡ new_node me)
    new_on true same found = (sym (equal me.id id same), sym (same_some (new_node me) node found))
    new_on false apart found = no_some node found

    on : (found : Option Node) → find (has_id id) world.nodes ≡ found → Either (node_at world id ≡ Some node) ((id ≡ me.id) × (node ≡ new_node me))
    on None is = right (new_on (bytes_eq me.id id) refl (sym (find_later (has_id id) world.nodes (new_node me ∷ []) is) ∙ there))
    on (Some n) is = left (is ∙ (sym (find_first (has_id id) world.nodes (new_node me ∷ []) n is) ∙ there))

still : (world : World) (me : Peer) (id : List ℕ) (node : Node) → node_at world id ≡ Some node → node_at (with_new_node world me) id ≡ Some node
still world me id node there = find_first (has_id id) world.nodes (new_node me ∷ []) node there

still_some : (world : World) (me : Peer) (id : List ℕ) → is_some (node_at world id) ≡ true → is_some (node_at (with_new_node world me) id) ≡ true
still_some world me id some = on (node_at world id) refl some
  where
    on : (found : Option Node) → node_at world id ≡ found → is_some found ≡ true → is_some (node_at (with_new_node world me) id) ≡ true
    on None is absent = absurd (true≢false (sym absent))
    on (Some n) is there = ap is_some (still world me id n is)

new_facts : (config : Config) (me : Peer) → NodeFacts config (state_in config (new_node me)) []
new_facts config me = record {
  batches = All-nil (GoesOut (state_in config (new_node me)));
  loads = All-nil (Came config (state_in config (new_node me)));
  lanes = All-nil (λ (lane : LaneIn). IsKept [] lane.peer);
  own = refl;
  ids = refl;
  changes = All-nil (CutOk 0);
}

not_known : (config : Config) (world : World) (id : List ℕ) (node : Node) (other : List ℕ) → WorldFacts config world → node_at world id ≡ Some node → node_at world other ≡ None
    → is_some (kept_peer (state_in config node).peers other) ≡ false
not_known config world id node other facts is none = on (is_some (kept_peer (state_in config node).peers other)) refl
  where
    on : (b : Bool) → is_some (kept_peer (state_in config node).peers other) ≡ b → b ≡ false
    on true kept = absurd (true≢false (sym (facts.known id other node is kept) ∙ ap is_some none))
    on false isnt = refl

pub no_lane : (config : Config) (to : State) (from : List ℕ) (channel : ℕ) → is_some (kept_peer to.peers from) ≡ false
    → All (λ (lane : LaneIn). IsKept to.peers lane.peer) to.lanes → lane_of to.lanes from channel ≡ empty_lane from channel
no_lane config to from channel none are = on (find (is_lane from channel) to.lanes) refl
  where
    on : (found : Option LaneIn) → find (is_lane from channel) to.lanes ≡ found → unwrap_or found (empty_lane from channel) ≡ empty_lane from channel
    on None is = refl
    on (Some lane) is =
        absurd (true≢false (sym (find_all (λ (l : LaneIn). IsKept to.peers l.peer) (is_lane from channel) to.lanes lane are is)
        ∙ (ap (λ i. is_some (kept_peer to.peers i)) (equal lane.peer from (and_right (lane.channel == channel) (bytes_eq lane.peer from)
        (find_passes (is_lane from channel) to.lanes lane is))) ∙ none)))

from_new : (config : Config) (me : Peer) (to : Node) (channel : ℕ) → is_some (kept_peer (state_in config to).peers me.id) ≡ false
    → NodeFacts config (state_in config to) to.history.acts
    → LaneFacts config (state_in config (new_node me)) (state_in config to) to.history.acts channel
from_new config me to channel none node =
    let empty : kept_of (state_in config (new_node me)) (state_in config to) channel ≡ empty_lane me.id channel = no_lane config (state_in config to) me.id channel none node.lanes in
    record {
      loads = none_loaded config (state_in config to) me.id channel to.history.acts none node.loads;
      acked = All-nil (AckedOk (kept_of (state_in config (new_node me)) (state_in config to) channel).highest);
      least = subst (λ (lane : LaneIn). lane.highest ≤ 0) (sym empty) (omega arith);
      error = subst (λ (lane : LaneIn). ErrorOk (kept_of (state_in config (new_node me)) (state_in config to) channel).highest [] lane.error) (sym empty) tt;
    }

pub none_made_to : (config : Config) (from : State) (to : List ℕ) (channel : ℕ) → is_some (kept_peer from.peers to) ≡ false → All (GoesOut from) from.batches
    → filter (is_in_lane to channel) from.batches ≡ []
none_made_to config from to channel none are =
    filter_none (is_in_lane to channel) from.batches (mapped (GoesOut from) (λ (b : OutBatch). is_in_lane to channel b ≡ false) from.batches (λ batch out. fails batch out) are)
  where
    fails : (batch : OutBatch) → GoesOut from batch → is_in_lane to channel batch ≡ false
    fails batch out = on (is_in_lane to channel batch) refl
      where
        on : (b : Bool) → is_in_lane to channel batch ≡ b → b ≡ false
        on true is =
            absurd (true≢false (sym out.0 ∙ (ap (λ i. is_some (kept_peer from.peers i)) (equal batch.peer to (and_right (batch.channel == channel) (bytes_eq batch.peer to) is)) ∙ none)))
        on false is = refl

to_new : (config : Config) (me : Peer) (from : Node) (channel : ℕ) → is_some (kept_peer (state_in config from).peers me.id) ≡ false
    → NodeFacts config (state_in config from) from.history.acts
    → LaneFacts config (state_in config from) (state_in config (new_node me)) [] channel
to_new config me from channel none node =
    let nothing : made (state_in config from) (state_in config (new_node me)) channel ≡ [] = none_made_to config (state_in config from) me.id channel none node.batches in
    record {
      loads = sym (ap (λ bs. map (read config (state_in config from) (state_in config (new_node me))) (filter (upto 0) bs)) nothing);
      acked = subst (All (AckedOk 0)) (sym nothing) (All-nil (AckedOk 0));
      least = omega arith;
      error = tt;
    }

pub node_comes : (config : Config) (world : World) (me : Peer) → WorldFacts config world → node_at world me.id ≡ None → WorldFacts config (with_new_node world me)
node_comes config world me facts none = record {
  reached = All-append (Reached config) world.nodes (new_node me ∷ []) facts.reached
      (All-cons (Reached config) (new_node me) [] (new_on config me) (All-nil (Reached config)));
  found = All-append (λ (node : Node). node_at (with_new_node world me) (me_of node).id ≡ Some node) world.nodes (new_node me ∷ [])
      (mapped (λ (node : Node). node_at world (me_of node).id ≡ Some node) (λ (node : Node). node_at (with_new_node world me) (me_of node).id ≡ Some node) world.nodes
      (λ node is. still world me (me_of node).id node is) facts.found)
      (All-cons (λ (node : Node). node_at (with_new_node world me) (me_of node).id ≡ Some node) (new_node me) []
      (find_later (has_id me.id) world.nodes (new_node me ∷ []) none ∙ ap (λ b. cond b (Some (new_node me)) None) (itself me.id))
      (All-nil (λ (node : Node). node_at (with_new_node world me) (me_of node).id ≡ Some node)));
  nodes = λ id node is. node_on id node (was_or_new world me id node is);
  known = λ id other node is kept. still_some world me other (known_on id other node (was_or_new world me id node is) kept);
  lanes = λ a b from to channel is_from is_to apart within. lane_on a b from to channel (was_or_new world me a from is_from) (was_or_new world me b to is_to) apart within;
  messages = mapped (MessageOk config world) (MessageOk config (with_new_node world me)) world.messages
      (λ message ok. message_stays config world (with_new_node world me) message ok (grown message.from message.to ok.from ok.to ok.is_from ok.is_to)) facts.messages;
  replies = mapped (ReplyOk config world) (ReplyOk config (with_new_node world me)) world.replies
      (λ reply ok. reply_stays config world (with_new_node world me) reply ok (grown reply.to reply.from ok.sender ok.receiver ok.is_sender ok.is_receiver)) facts.replies;
}
  where
    node_on : (id : List ℕ) (node : Node) → Either (node_at world id ≡ Some node) ((id ≡ me.id) × (node ≡ new_node me))
        → NodeFacts config (state_in config node) node.history.acts
    node_on id node (left is) = facts.nodes id node is
    node_on id node (right is) = subst (λ (n : Node). NodeFacts config (state_in config n) n.history.acts) (sym is.1) (new_facts config me)

    known_on : (id other : List ℕ) (node : Node) → Either (node_at world id ≡ Some node) ((id ≡ me.id) × (node ≡ new_node me))
        → IsKept (state_in config node).peers other → is_some (node_at world other) ≡ true
    known_on id other node (left is) kept = facts.known id other node is kept
    known_on id other node (right is) kept = absurd (true≢false (sym (subst (λ (n : Node). IsKept (state_in config n).peers other) is.1 kept)))

    lane_on : (a b : List ℕ) (from to : Node) (channel : ℕ) → Either (node_at world a ≡ Some from) ((a ≡ me.id) × (from ≡ new_node me))
        → Either (node_at world b ≡ Some to) ((b ≡ me.id) × (to ≡ new_node me)) → a ≢ b → channel < length config.channels
        → LaneFacts config (state_in config from) (state_in config to) to.history.acts channel
    lane_on a b from to channel (left is_from) (left is_to) apart within = facts.lanes a b from to channel is_from is_to apart within
    lane_on a b from to channel (left is_from) (right is_to) apart within =
        subst (λ (n : Node). LaneFacts config (state_in config from) (state_in config n) n.history.acts channel) (sym is_to.1)
        (to_new config me from channel (not_known config world a from me.id facts is_from none) (facts.nodes a from is_from))
    lane_on a b from to channel (right is_from) (left is_to) apart within =
        subst (λ (n : Node). LaneFacts config (state_in config n) (state_in config to) to.history.acts channel) (sym is_from.1)
        (from_new config me to channel (not_known config world b to me.id facts is_to none) (facts.nodes b to is_to))
    lane_on a b from to channel (right is_from) (right is_to) apart within = absurd (apart (is_from.0 ∙ sym is_to.0))

    grown : (a b : List ℕ) (from to : Node) → node_at world a ≡ Some from → node_at world b ≡ Some to → Grown config (with_new_node world me) a b from to
    grown a b from to is_from is_to = record {
      first = from;
      second = to;
      is_first = still world me a from is_from;
      is_second = still world me b to is_to;
      grows = same_grows config (state_in config from) (state_in config to);
      stays = λ number was. was;
    }

-- The facts of a world stay by a delivery, and its acks tell of what is loaded.
use Rattle.std.proofs.Common.{◌≡◌, ◌≢◌, ℕ, zero, suc, ◌+◌, ◌<◌, ◌≤◌, Bool, true, false, cond, List, [], ◌∷◌, length, map, Option, None, Some, Result, Ok, Err, refl, sym, ap, subst, ◌∙◌, arith, true≢false, filter, filter_map, ◌||◌, ◌==◌, ◌&&◌, All, not}
use Rattle.std.specs.List.{cons_option, list_any, prefix_len}
use Rattle.std.specs.Option.{option_map_or}
use Rattle.std.specs.Prelude.{is_some, nat_lt, slice_get}
use Rattle.std.specs.Str.{bytes_eq}
use Rattle.std.proofs.lemmas.List.Elements.{All-nil, All-cons, All-append}
use Rattle.sds_types.specs.declared.ack.Ack.{Ack}
use Rattle.sds_types.specs.declared.batch.OutBatch.{OutBatch}
use Rattle.sds_types.specs.declared.channel.ChannelDef.{ChannelDef}
use Rattle.sds_types.specs.declared.config.Config.{Config}
use Rattle.sds_types.specs.declared.lane.LaneError.{LaneError}
use Rattle.sds_types.specs.declared.lane.LaneIn.{LaneIn}
use Rattle.sds_types.specs.declared.load_answer.LoadAnswer.{LoadAnswer}
use Rattle.sds_types.specs.declared.load_answer.LoadAnswer.TheVariants as answer
use Rattle.sds_types.specs.declared.load_answer.PeerRefusal.{PeerRefusal}
use Rattle.sds_types.specs.declared.load_answer.PeerRefusal.TheVariants as peer
use Rattle.sds_types.specs.declared.node_fault.NodeFault.TheVariants.{Counters, Keeper}
use Rattle.sds_types.specs.declared.peer.KeptPeer.{KeptPeer}
use Rattle.sds_types.specs.declared.prepared.Prepared.{Prepared}
use Rattle.sds_value.specs.declared.row.Peer.{Peer}
use Rattle.sds_types.specs.Rules.{number_of}
use Rattle.sds_types.specs.declared.rule.Rule.{Rule}
use Rattle.sds_types.specs.declared.sync.SyncRefusal.{SyncRefusal}
use Rattle.sds_trade.proofs.Lists.{all_head, all_tail, passes}
use Rattle.sds_trade.specs.rules.Outcomes.{channel_place}
use Rattle.sds_trade.specs.rules.Sound.{IsSound}
use Rattle.sds_history.specs.history.Acts.{Act, State}
use Rattle.sds_history.specs.history.Acts.Act.{Loaded, Erred}
use Rattle.sds_history.specs.history.Changes.{run_after}
use Rattle.sds_history.specs.history.Counters.{would_pass}
use Rattle.sds_history.specs.history.Lanes.{channel_name, is_ignored}
use Rattle.sds_history.specs.history.Loads.{error_act, knows_sender, load_of, own_load_answer}
use Rattle.sds_history.specs.history.Messages.{is_in_lane, lane_made}
use Rattle.sds_history.specs.history.Peers.{kept_peer}
use Rattle.sds_history.specs.world.Calling.{after_act, after_call, fails}
use Rattle.sds_history.specs.world.DeliverOrder.{is_in_part}
use Rattle.sds_history.specs.world.Delivery.{Delivery, ack_at, ack_of, acks_in_order, answered, delivered_batches, is_over, load_at, sync_refusal, with_load, with_ok}
use Rattle.sds_history.specs.world.Worlds.{Node, World, me_of, node_at, one_for, state_in, with_node}
use Rattle.sds_nodelaws.specs.Calls.{Call, act_of}
use Rattle.sds_nodelaws.specs.Calls.Call.{Load}
use Rattle.sds_nodelaws.proofs.Held.{all_of, equal_itself, mapped}
use Rattle.sds_nodelaws.proofs.Items.{equal, itself}
use Rattle.sds_nodelaws.proofs.Tests.{other_number, same_number}
use Rattle.sds_nodelaws.proofs.CallActs.{LoadMade, again_is, first_false, load_is}
use Rattle.sds_worldlaws.proofs.CallSteps.{Asked, call_grows, call_steps, me_stays, plain, reached_at}
use Rattle.sds_worldlaws.proofs.LaneFacts.{AckOk, IsNext, LoadedIn, found_lane, kept_of, made, read}
use Rattle.sds_worldlaws.proofs.LaneKeys.{name_in, one_place}
use Rattle.sds_nodelaws.proofs.Lists.{Either, In, all_in, and_both, and_right, any_true, filter_none, find_all, from_lt, from_not_lt, in_filter, is_lt_test, map_all, map_same, map_twice, no_some, second_false}
use Rattle.sds_nodelaws.proofs.Lists.Either.{left, right}
use Rattle.sds_nodelaws.proofs.NodeFacts.{Suits}
use Rattle.sds_worldlaws.proofs.Reached.{Reached}
use Rattle.sds_worldlaws.proofs.Ready.{Ready, ready_on}
use Rattle.sds_worldlaws.proofs.WorldFacts.{AllGrows, Fits, LoadsNext, WorldFacts, ack_on, at_other, at_same, id_of_found}
use Rattle.sds_worldlaws.proofs.WorldSteps.{acted, state_follows}

-- CHANNELS. A channel is found by its name
first_place : (p : ChannelDef → Bool) (channels : List ChannelDef) (place : ℕ) → place < length channels
    → ((k : ℕ) → k < length channels → ((def : ChannelDef) → slice_get channels k ≡ Some def → p def ≡ true → k ≡ place))
    → ((def : ChannelDef) → slice_get channels place ≡ Some def → p def ≡ true)
    → prefix_len (λ (c : ChannelDef). not (p c)) channels ≡ place
first_place p [] place less one here = absurd (omega (arith, less))
first_place p (channel ∷ channels) zero less one here = ap (λ b. cond (not b) (1 + prefix_len (λ (c : ChannelDef). not (p c)) channels) 0) (here channel refl)
first_place p (channel ∷ channels) (suc place) less one here =
    ap (λ b. cond (not b) (1 + prefix_len (λ (c : ChannelDef). not (p c)) channels) 0) (fails_on (p channel) refl)
    ∙ ap (λ n. 1 + n) (first_place p channels place (omega (arith, less)) (λ k within def is pass. before (one (suc k) (omega (arith, within)) def is pass)) here)
    ∙ count place
  where
    before : {a b : ℕ} → suc a ≡ suc b → a ≡ b
    before {a} same = omega (arith, same)

    count : (n : ℕ) → 1 + n ≡ suc n
    count n = omega arith

    fails_on : (b : Bool) → p channel ≡ b → b ≡ false
    fails_on true pass = absurd (apart (one zero (omega arith) channel refl pass))
      where
        apart : 0 ≡ suc place → ⊥
        apart same = omega (arith, same)
    fails_on false fail = refl

named_at : (channels : List ChannelDef) (place : ℕ) (def : ChannelDef) → slice_get channels place ≡ Some def → def.id ≡ name_in channels place
named_at channels place def is = ap (λ o. option_map_or (λ (d : ChannelDef). d.id) o []) (sym is)

pub channel_found : (config : Config) (channel : ℕ) → IsSound config → channel < length config.channels
    → channel_place config (channel_name config channel) ≡ Some channel
channel_found config channel sound within =
    let test : ChannelDef → Bool = λ (def : ChannelDef). bytes_eq def.id (channel_name config channel) in
    let place : prefix_len (λ (c : ChannelDef). not (bytes_eq c.id (channel_name config channel))) config.channels ≡ channel =
    first_place test config.channels channel within
    (λ k less def is pass. one_place config.channels k channel sound.channels.apart less within
    (sym (named_at config.channels k def is) ∙ equal def.id (channel_name config channel) pass))
    (λ def is. ap (λ n. bytes_eq n (channel_name config channel)) (named_at config.channels channel def is) ∙ itself (channel_name config channel)) in
    ap (λ n. cond (nat_lt n (length config.channels)) (Some n) None) place
    ∙ ap (λ b. cond b (Some channel) None) (is_lt_test channel (length config.channels) within)

-- THE COURSE of a delivery: its sender and its receiver in a world
pub record Course (config : Config) (world : World) (from to : List ℕ) : Type 0 where
  pub sound : IsSound config
  pub apart : from ≢ to
  pub sender : Node
  pub is_sender : node_at world from ≡ Some sender
  pub node : Node
  pub is_node : node_at world to ≡ Some node

abbrev Held : ℕ → List ℕ → Bool
Held c held = list_any (λ (o : ℕ). o == c) held

abbrev Placed : Type 0
Placed = ℕ × OutBatch

abbrev of_part : ℕ → List Placed → List OutBatch
of_part c rest = map (λ (at : Placed). at.1) (filter (is_in_part c) rest)

-- a delivery on its way: what holds of the world, what is to come is ready, and the acks are sound
pub record Going (config : Config) (world : World) (from to : List ℕ) (course : Course config world from to) (delivery : Delivery) (rest : List Placed) : Type 0 where
  pub me : (me_of delivery.node).id ≡ to
  pub facts : WorldFacts config (with_node world delivery.node)
  pub ready : delivery.refusal ≡ None → (c : ℕ) → Held c delivery.held ≡ false
      → Ready (kept_of (state_in config course.sender) (state_in config delivery.node) c).highest
      (made (state_in config course.sender) (state_in config delivery.node) c) (of_part c rest)
  pub acks : All (λ (at : ℕ × Ack). AckOk config (state_in config course.sender) (state_in config delivery.node) at.1) delivery.acks
  pub range : All (λ (at : Placed). at.1.channel < length config.channels) rest

pub receiver_there : (config : Config) (world : World) (from to : List ℕ) (course : Course config world from to) (node : Node) → (me_of node).id ≡ to
    → node_at (with_node world node) to ≡ Some node
receiver_there config world from to course node me = at_same world to course.node node course.is_node me

pub sender_there : (config : Config) (world : World) (from to : List ℕ) (course : Course config world from to) (node : Node) → (me_of node).id ≡ to
    → node_at (with_node world node) from ≡ Some course.sender
sender_there config world from to course node me = at_other world to from node me (λ same. course.apart (sym same)) ∙ course.is_sender

-- one node after another in its place
pub put_twice : (world : World) (first second : Node) → (me_of first).id ≡ (me_of second).id → with_node (with_node world first) second ≡ with_node world second
put_twice world first second same =
    ap (λ (nodes : List Node). record world { nodes = nodes }) (map_twice (one_for second) (one_for first) world.nodes ∙ each world.nodes)
  where
    one : (node : Node) (b : Bool) → bytes_eq (me_of node).id (me_of first).id ≡ b
        → one_for second (cond b first node) ≡ cond (bytes_eq (me_of node).id (me_of second).id) second node
    one node true is =
        ap (λ t. cond t second first) (ap (λ i. bytes_eq i (me_of second).id) same ∙ itself (me_of second).id)
        ∙ sym (ap (λ t. cond t second node) (ap (λ i. bytes_eq (me_of node).id i) (sym same) ∙ is))
    one node false is = refl

    each : (nodes : List Node) → map (λ (node : Node). one_for second (one_for first node)) nodes ≡ map (one_for second) nodes
    each nodes = map_same (λ (node : Node). one_for second (one_for first node)) (one_for second) nodes
        (all_of (λ (node : Node). one_for second (one_for first node) ≡ one_for second node) nodes (λ node. one node (bytes_eq (me_of node).id (me_of first).id) refl))

-- A LOAD asks what is ready
is_known : (state : State) (from : List ℕ) (batch : Prepared) → knows_sender state from batch ≡ true → is_some (kept_peer state.peers from) ≡ true
is_known state from batch knows = on (kept_peer state.peers from) knows
  where
    on : (found : Option KeptPeer) → option_map_or (λ (kept : KeptPeer). bytes_eq kept.peer.group batch.from_group) found false ≡ true → is_some found ≡ true
    on None is = is
    on (Some p) is = refl

load_asks : (config : Config) (world : World) (id from : List ℕ) (node sender : Node) (batch : OutBatch) → IsSound config → from ≢ id → node_at world from ≡ Some sender
    → batch.channel < length config.channels → In batch (made (state_in config sender) (state_in config node) batch.channel)
    → Either (batch.id ≤ (kept_of (state_in config sender) (state_in config node) batch.channel).highest)
    (IsNext (kept_of (state_in config sender) (state_in config node) batch.channel).highest (made (state_in config sender) (state_in config node) batch.channel) batch.id)
    → Asked config world id node (Load (me_of sender).id (read config (state_in config sender) (state_in config node) batch))
load_asks config world id from node sender batch sound apart is_sender within among ready act is_made =
    let lm : LoadMade (state_in config node) (me_of sender).id (read config (state_in config sender) (state_in config node) batch) batch.channel act =
    load_is config (state_in config node) (me_of sender).id (read config (state_in config sender) (state_in config node) batch) batch.channel act
    (channel_found config batch.channel sound within) is_made in
    fits lm.is (is_known (state_in config node) (me_of sender).id (read config (state_in config sender) (state_in config node) batch) lm.knows) (next ready lm.later)
  where
    next : Either (batch.id ≤ (kept_of (state_in config sender) (state_in config node) batch.channel).highest)
        (IsNext (kept_of (state_in config sender) (state_in config node) batch.channel).highest (made (state_in config sender) (state_in config node) batch.channel) batch.id)
        → (kept_of (state_in config sender) (state_in config node) batch.channel).highest < batch.id
        → IsNext (kept_of (state_in config sender) (state_in config node) batch.channel).highest (made (state_in config sender) (state_in config node) batch.channel) batch.id
    next (left loaded) later = absurd (clash loaded later)
      where
        clash : {a b : ℕ} → a ≤ b → b < a → ⊥
        clash {a} one two = omega (arith, one, two)
    next (right is) later = is

    me : (me_of sender).id ≡ from
    me = id_of_found world from sender is_sender

    loads : IsNext (kept_of (state_in config sender) (state_in config node) batch.channel).highest (made (state_in config sender) (state_in config node) batch.channel) batch.id
        → LoadsNext config world id (state_in config node) (me_of sender).id batch.channel batch.id
    loads is = record {
      sender = sender;
      is_sender = ap (node_at world) me ∙ is_sender;
      apart = λ same. apart (sym me ∙ same);
      within = within;
      next = is;
    }

    fits : Either (act ≡ Loaded batch.channel (read config (state_in config sender) (state_in config node) batch))
        ((error : LaneError) × (act ≡ Erred (me_of sender).id batch.channel error) × (error.batch ≡ batch.id))
        → is_some (kept_peer (state_in config node).peers (me_of sender).id) ≡ true
        → IsNext (kept_of (state_in config sender) (state_in config node) batch.channel).highest (made (state_in config sender) (state_in config node) batch.channel) batch.id
        → Suits config (state_in config node) act × Fits config world id (state_in config node) act
    fits (left same) kept is =
        plain config world id (state_in config node) act (Loaded batch.channel (read config (state_in config sender) (state_in config node) batch)) same
        ((kept, within), record { batch = batch; loads = loads is; among = among; same = refl })
    fits (right (error, same, number)) kept is =
        plain config world id (state_in config node) act (Erred (me_of sender).id batch.channel error) same
        (kept, subst (λ n. LoadsNext config world id (state_in config node) (me_of sender).id batch.channel n) (sym number) (loads is))

-- and tells what became of the batch
abbrev Told : OutBatch → ℕ → Result LoadAnswer PeerRefusal → Type 0
Told batch highest (Ok (answer.Loaded place)) = batch.id ≤ highest
Told batch highest (Ok (answer.Ignored place)) = batch.id ≤ highest
Told batch highest (Ok answer.Again) = batch.id ≤ highest
Told batch highest (Ok (answer.Erred row rule)) = Unit {0}
Told batch highest (Ok (answer.Held held row rule)) = Unit {0}
Told batch highest (Err refusal) = Unit {0}

same_most : (n : ℕ) → n ≤ n
same_most n = omega arith

loaded_highest : (config : Config) (node sender : Node) (batch : OutBatch) (faults : List Bool) → Reached config node
    → batch.id ≤ (kept_of (state_in config sender) (state_in config (acted node (Loaded batch.channel (read config (state_in config sender) (state_in config node) batch)) faults)) batch.channel).highest
loaded_highest config node sender batch faults reached =
    let new : Prepared = read config (state_in config sender) (state_in config node) batch in
    let state : State = state_in config node in
    subst (λ (s : State). batch.id ≤ (kept_of (state_in config sender) s batch.channel).highest)
    (sym (state_follows config node (Loaded batch.channel new) faults reached))
    (subst (λ (lane : LaneIn). batch.id ≤ lane.highest) (sym (found_lane config state.lanes (record {
      peer = new.from;
      channel = batch.channel;
      highest = new.batch;
      ignored = Some (is_ignored (run_after config state [] (Loaded batch.channel new)).end);
      error = None;
    }))) (same_most batch.id))

load_tells : (config : Config) (node sender : Node) (batch : OutBatch) → IsSound config → batch.channel < length config.channels → Reached config node
    → Told batch (kept_of (state_in config sender) (state_in config (load_at config node (state_in config sender) batch).node) batch.channel).highest
    (load_at config node (state_in config sender) batch).answer
load_tells config node sender batch sound within reached =
    let state : State = state_in config node in
    let new : Prepared = read config (state_in config sender) (state_in config node) batch in
    let own : Result LoadAnswer PeerRefusal = own_load_answer config state (me_of sender).id new in
    subst (λ (c : Option ℕ). let next : Option Act = load_of state (me_of sender).id new c own in
    Told batch (kept_of (state_in config sender) (state_in config (after_call node (cond (would_pass config state next) None next))) batch.channel).highest
    (cond (fails (cond (would_pass config state next) None next) node.faults) (Err (peer.Fault Keeper)) (cond (would_pass config state next) (Err (peer.Fault Counters)) own)))
    (sym (channel_found config batch.channel sound within))
    (on own refl (would_pass config state (load_of state (me_of sender).id new (Some batch.channel) own)))
  where
    erred : (highest : ℕ) (row : ℕ) (rule : Rule) (t : Bool) → Told batch highest (cond t (Err (peer.Fault Keeper)) (Ok (answer.Erred row rule)))
    erred highest row rule true = tt
    erred highest row rule false = tt

    loaded : (told : LoadAnswer) → ((highest : ℕ) → batch.id ≤ highest → Told batch highest (Ok told)) → (faults : List Bool)
        → Told batch (kept_of (state_in config sender) (state_in config (after_act node (Loaded batch.channel (read config (state_in config sender) (state_in config node) batch)) faults)) batch.channel).highest
        (cond (fails (Some (Loaded batch.channel (read config (state_in config sender) (state_in config node) batch))) faults) (Err (peer.Fault Keeper)) (Ok told))
    loaded told is [] = is (kept_of (state_in config sender) (state_in config (acted node (Loaded batch.channel (read config (state_in config sender) (state_in config node) batch)) node.faults)) batch.channel).highest
        (loaded_highest config node sender batch node.faults reached)
    loaded told is (stands ∷ faults) = tt

    on : (own : Result LoadAnswer PeerRefusal)
        → own_load_answer config (state_in config node) (me_of sender).id (read config (state_in config sender) (state_in config node) batch) ≡ own
        → (w : Bool)
        → Told batch (kept_of (state_in config sender) (state_in config (after_call node (cond w None
        (load_of (state_in config node) (me_of sender).id (read config (state_in config sender) (state_in config node) batch) (Some batch.channel) own)))) batch.channel).highest
        (cond (fails (cond w None (load_of (state_in config node) (me_of sender).id (read config (state_in config sender) (state_in config node) batch) (Some batch.channel) own)) node.faults)
        (Err (peer.Fault Keeper)) (cond w (Err (peer.Fault Counters)) own))
    on (Err refusal) is true = tt
    on (Err refusal) is false = tt
    on (Ok answer.Again) is true = tt
    on (Ok answer.Again) is false =
        again_is config (state_in config node) (me_of sender).id (read config (state_in config sender) (state_in config node) batch) batch.channel
        (channel_found config batch.channel sound within) is
    on (Ok (answer.Held held row rule)) is true = tt
    on (Ok (answer.Held held row rule)) is false = tt
    on (Ok (answer.Erred row rule)) is true = tt
    on (Ok (answer.Erred row rule)) is false =
        erred (kept_of (state_in config sender) (state_in config (after_call node
        (error_act (state_in config node) (me_of sender).id batch.channel (record { batch = batch.id; row = row; rule = rule })))) batch.channel).highest row rule
        (fails (error_act (state_in config node) (me_of sender).id batch.channel (record { batch = batch.id; row = row; rule = rule })) node.faults)
    on (Ok (answer.Loaded place)) is true = tt
    on (Ok (answer.Loaded place)) is false = loaded (answer.Loaded place) (λ highest less. less) node.faults
    on (Ok (answer.Ignored place)) is true = tt
    on (Ok (answer.Ignored place)) is false = loaded (answer.Ignored place) (λ highest less. less) node.faults

-- ONE BATCH
abbrev after_load : Config → Node → Node → OutBatch → Node
after_load config sender node batch = (load_at config node (state_in config sender) batch).node

abbrev load_of_batch : Config → Node → Node → OutBatch → Call
load_of_batch config sender node batch = Load (me_of sender).id (read config (state_in config sender) (state_in config node) batch)

-- a batch whose turn has come asks for what is ready
record Turn (config : Config) (world : World) (from to : List ℕ) (course : Course config world from to) (delivery : Delivery) (batch : OutBatch) (later : List OutBatch) : Type 0 where
  me : (me_of delivery.node).id ≡ to
  facts : WorldFacts config (with_node world delivery.node)
  within : batch.channel < length config.channels
  ready : Ready (kept_of (state_in config course.sender) (state_in config delivery.node) batch.channel).highest
      (made (state_in config course.sender) (state_in config delivery.node) batch.channel) (batch ∷ later)

turn_asks : (config : Config) (world : World) (from to : List ℕ) (course : Course config world from to) (delivery : Delivery) (batch : OutBatch) (later : List OutBatch)
    → Turn config world from to course delivery batch later
    → Asked config (with_node world delivery.node) to delivery.node (load_of_batch config course.sender delivery.node batch)
turn_asks config world from to course delivery batch later turn =
    load_asks config (with_node world delivery.node) to from delivery.node course.sender batch course.sound course.apart
    (sender_there config world from to course delivery.node turn.me) turn.within turn.ready.0
    (turn.ready.1 (kept_of (state_in config course.sender) (state_in config delivery.node) batch.channel).highest
    (same_most (kept_of (state_in config course.sender) (state_in config delivery.node) batch.channel).highest))

turn_facts : (config : Config) (world : World) (from to : List ℕ) (course : Course config world from to) (delivery : Delivery) (batch : OutBatch) (later : List OutBatch)
    → Turn config world from to course delivery batch later → WorldFacts config (with_node world (after_load config course.sender delivery.node batch))
turn_facts config world from to course delivery batch later turn =
    let call : Call = load_of_batch config course.sender delivery.node batch in
    let act : Option Act = act_of config (state_in config delivery.node) call in
    subst (WorldFacts config) (put_twice world delivery.node (after_call delivery.node act) (ap (λ (p : Peer). p.id) (sym (me_stays delivery.node act))))
    (call_steps config (with_node world delivery.node) to delivery.node call course.sound turn.facts
    (receiver_there config world from to course delivery.node turn.me) (turn_asks config world from to course delivery batch later turn))

turn_grows : (config : Config) (world : World) (from to : List ℕ) (course : Course config world from to) (delivery : Delivery) (batch : OutBatch) (later : List OutBatch)
    → Turn config world from to course delivery batch later
    → AllGrows config (state_in config course.sender) (state_in config delivery.node) (state_in config course.sender)
    (state_in config (after_load config course.sender delivery.node batch))
turn_grows config world from to course delivery batch later turn =
    call_grows config (with_node world delivery.node) to from delivery.node course.sender (load_of_batch config course.sender delivery.node batch) course.sound turn.facts
    (receiver_there config world from to course delivery.node turn.me) (sender_there config world from to course delivery.node turn.me)
    (turn_asks config world from to course delivery batch later turn)

-- the lane's batches are the same after it
turn_made : (config : Config) (sender node : Node) (batch : OutBatch) (c : ℕ)
    → made (state_in config sender) (state_in config (after_load config sender node batch)) c ≡ made (state_in config sender) (state_in config node) c
turn_made config sender node batch c =
    ap (λ (p : Peer). lane_made (state_in config sender) p.id c) (me_stays node (act_of config (state_in config node) (load_of_batch config sender node batch)))

-- acks of before stay sound, and what comes later stays ready
acks_stay : (config : Config) (world : World) (from to : List ℕ) (course : Course config world from to) (delivery : Delivery) (batch : OutBatch) (later : List OutBatch)
    → Turn config world from to course delivery batch later
    → All (λ (at : ℕ × Ack). AckOk config (state_in config course.sender) (state_in config delivery.node) at.1) delivery.acks
    → All (λ (at : ℕ × Ack). AckOk config (state_in config course.sender) (state_in config (after_load config course.sender delivery.node batch)) at.1) delivery.acks
acks_stay config world from to course delivery batch later turn are =
    mapped (λ (at : ℕ × Ack). AckOk config (state_in config course.sender) (state_in config delivery.node) at.1)
    (λ (at : ℕ × Ack). AckOk config (state_in config course.sender) (state_in config (after_load config course.sender delivery.node batch)) at.1) delivery.acks
    (λ at ok. ack_on config (state_in config course.sender) (state_in config delivery.node) (state_in config course.sender)
    (state_in config (after_load config course.sender delivery.node batch)) at.1.batch at.1.error (turn_grows config world from to course delivery batch later turn)
    (λ was. subst (λ (p : Peer). list_any (λ (b : OutBatch). b.id == at.1.batch && bytes_eq b.peer p.id) (state_in config course.sender).batches ≡ true)
    (sym (me_stays delivery.node (act_of config (state_in config delivery.node) (load_of_batch config course.sender delivery.node batch)))) was) ok) are

ready_stays : (config : Config) (world : World) (from to : List ℕ) (course : Course config world from to) (delivery : Delivery) (batch : OutBatch) (later : List OutBatch)
    → Turn config world from to course delivery batch later → (c : ℕ) (batches : List OutBatch) → c < length config.channels
    → Ready (kept_of (state_in config course.sender) (state_in config delivery.node) c).highest (made (state_in config course.sender) (state_in config delivery.node) c) batches
    → Ready (kept_of (state_in config course.sender) (state_in config (after_load config course.sender delivery.node batch)) c).highest
    (made (state_in config course.sender) (state_in config (after_load config course.sender delivery.node batch)) c) batches
ready_stays config world from to course delivery batch later turn c batches within ready =
    let sender : State = state_in config course.sender in
    let after : State = state_in config (after_load config course.sender delivery.node batch) in
    subst (λ (bs : List OutBatch). Ready (kept_of sender after c).highest bs batches) (sym (turn_made config course.sender delivery.node batch c))
    (ready_on (kept_of sender (state_in config delivery.node) c).highest (kept_of sender after c).highest (made sender (state_in config delivery.node) c) batches
    (turn_grows config world from to course delivery batch later turn c within).highest ready)

-- the rest of the batch's channel
rest_ready : (config : Config) (world : World) (from to : List ℕ) (course : Course config world from to) (delivery : Delivery) (batch : OutBatch) (later : List OutBatch)
    → Turn config world from to course delivery batch later
    → batch.id ≤ (kept_of (state_in config course.sender) (state_in config (after_load config course.sender delivery.node batch)) batch.channel).highest
    → Ready (kept_of (state_in config course.sender) (state_in config (after_load config course.sender delivery.node batch)) batch.channel).highest
    (made (state_in config course.sender) (state_in config (after_load config course.sender delivery.node batch)) batch.channel) later
rest_ready config world from to course delivery batch later turn loaded =
    let sender : State = state_in config course.sender in
    let after : State = state_in config (after_load config course.sender delivery.node batch) in
    subst (λ (bs : List OutBatch). Ready (kept_of sender after batch.channel).highest bs later) (sym (turn_made config course.sender delivery.node batch batch.channel))
    (turn.ready.2 (kept_of sender after batch.channel).highest (turn_grows config world from to course delivery batch later turn batch.channel turn.within).highest loaded)

-- the ack of a batch is sound
ok_sound : (config : Config) (world : World) (from to : List ℕ) (course : Course config world from to) (delivery : Delivery) (batch : OutBatch) (later : List OutBatch)
    → Turn config world from to course delivery batch later
    → batch.id ≤ (kept_of (state_in config course.sender) (state_in config (after_load config course.sender delivery.node batch)) batch.channel).highest
    → LoadedIn config (state_in config course.sender) (state_in config (after_load config course.sender delivery.node batch)) batch.id
ok_sound config world from to course delivery batch later turn loaded = record {
  channel = batch.channel;
  within = turn.within;
  has = any_true (λ (b : OutBatch). b.id == batch.id) batch
      (made (state_in config course.sender) (state_in config (after_load config course.sender delivery.node batch)) batch.channel)
      (subst (In batch) (sym (turn_made config course.sender delivery.node batch batch.channel)) turn.ready.0) (equal_itself batch.id);
  most = loaded;
}

error_sound : (config : Config) (world : World) (from to : List ℕ) (course : Course config world from to) (delivery : Delivery) (batch : OutBatch) (later : List OutBatch)
    → Turn config world from to course delivery batch later
    → list_any (λ (b : OutBatch). b.id == batch.id && bytes_eq b.peer (state_in config (after_load config course.sender delivery.node batch)).me.id)
    (state_in config course.sender).batches ≡ true
error_sound config world from to course delivery batch later turn =
    subst (λ (p : Peer). list_any (λ (b : OutBatch). b.id == batch.id && bytes_eq b.peer p.id) (state_in config course.sender).batches ≡ true)
    (sym (me_stays delivery.node (act_of config (state_in config delivery.node) (load_of_batch config course.sender delivery.node batch))))
    (any_true (λ (b : OutBatch). b.id == batch.id && bytes_eq b.peer (me_of delivery.node).id) batch (state_in config course.sender).batches
    (in_filter (is_in_lane (me_of delivery.node).id batch.channel) batch (state_in config course.sender).batches turn.ready.0)
    (and_both (batch.id == batch.id) (bytes_eq batch.peer (me_of delivery.node).id) (equal_itself batch.id)
    (and_right (batch.channel == batch.channel) (bytes_eq batch.peer (me_of delivery.node).id)
    (all_in (λ (b : OutBatch). is_in_lane (me_of delivery.node).id batch.channel b ≡ true) batch (made (state_in config course.sender) (state_in config delivery.node) batch.channel)
    (passes (is_in_lane (me_of delivery.node).id batch.channel) (state_in config course.sender).batches) turn.ready.0))))

-- the delivery after the batch
going_on : (config : Config) (world : World) (from to : List ℕ) (course : Course config world from to) (delivery : Delivery) (at : Placed) (rest : List Placed)
    → delivery.refusal ≡ None → Held at.1.channel delivery.held ≡ false → Going config world from to course delivery (at ∷ rest)
    → Turn config world from to course delivery at.1 (of_part at.1.channel rest)
    → (told : Result LoadAnswer PeerRefusal)
    → Told at.1 (kept_of (state_in config course.sender) (state_in config (after_load config course.sender delivery.node at.1)) at.1.channel).highest told
    → Going config world from to course (answered (record delivery { node = after_load config course.sender delivery.node at.1 }) at told) rest
going_on config world from to course delivery at rest none free going turn told is = on told is
  where
    me : (me_of (after_load config course.sender delivery.node at.1)).id ≡ to
    me = ap (λ (p : Peer). p.id) (me_stays delivery.node (act_of config (state_in config delivery.node) (load_of_batch config course.sender delivery.node at.1))) ∙ going.me

    facts : WorldFacts config (with_node world (after_load config course.sender delivery.node at.1))
    facts = turn_facts config world from to course delivery at.1 (of_part at.1.channel rest) turn

    acks : All (λ (a : ℕ × Ack). AckOk config (state_in config course.sender) (state_in config (after_load config course.sender delivery.node at.1)) a.1) delivery.acks
    acks = acks_stay config world from to course delivery at.1 (of_part at.1.channel rest) turn going.acks

    range : All (λ (a : Placed). a.1.channel < length config.channels) rest
    range = all_tail (λ (a : Placed). a.1.channel < length config.channels) at rest going.range

    dropped : (c : ℕ) → (at.1.channel == c) ≡ false → of_part c (at ∷ rest) ≡ of_part c rest
    dropped c isnt = ap (λ b. map (λ (a : Placed). a.1) (cond b (at ∷ filter (is_in_part c) rest) (filter (is_in_part c) rest))) isnt

    others : (c : ℕ) → Held c delivery.held ≡ false → (at.1.channel == c) ≡ false
        → Ready (kept_of (state_in config course.sender) (state_in config (after_load config course.sender delivery.node at.1)) c).highest
        (made (state_in config course.sender) (state_in config (after_load config course.sender delivery.node at.1)) c) (of_part c rest)
    others c unheld isnt = other_on (nat_lt c (length config.channels)) refl
      where
        past_range : (a b n : ℕ) → a < n → n ≤ b → b ≡ a → ⊥
        past_range a b n within past same = omega (arith, within, past, same)

        other_on : (b : Bool) → nat_lt c (length config.channels) ≡ b
            → Ready (kept_of (state_in config course.sender) (state_in config (after_load config course.sender delivery.node at.1)) c).highest
            (made (state_in config course.sender) (state_in config (after_load config course.sender delivery.node at.1)) c) (of_part c rest)
        other_on true less =
            ready_stays config world from to course delivery at.1 (of_part at.1.channel rest) turn c (of_part c rest) (from_lt c (length config.channels) less)
            (subst (Ready (kept_of (state_in config course.sender) (state_in config delivery.node) c).highest (made (state_in config course.sender) (state_in config delivery.node) c))
            (dropped c isnt) (going.ready none c unheld))
        other_on false past = subst (λ (bs : List OutBatch). Ready (kept_of (state_in config course.sender) (state_in config (after_load config course.sender delivery.node at.1)) c).highest
            (made (state_in config course.sender) (state_in config (after_load config course.sender delivery.node at.1)) c) bs)
            (sym (ap (map (λ (a : Placed). a.1)) (filter_none (is_in_part c) rest
            (mapped (λ (a : Placed). a.1.channel < length config.channels) (λ (a : Placed). is_in_part c a ≡ false) rest
            (λ a within. other_number c a.1.channel (λ same. past_range a.1.channel c (length config.channels) within (from_not_lt c (length config.channels) past) same)) range)))) tt

    all_ready : (loaded : at.1.id ≤ (kept_of (state_in config course.sender) (state_in config (after_load config course.sender delivery.node at.1)) at.1.channel).highest)
        → (c : ℕ) → Held c delivery.held ≡ false
        → Ready (kept_of (state_in config course.sender) (state_in config (after_load config course.sender delivery.node at.1)) c).highest
        (made (state_in config course.sender) (state_in config (after_load config course.sender delivery.node at.1)) c) (of_part c rest)
    all_ready loaded c unheld = each_on (at.1.channel == c) refl
      where
        each_on : (b : Bool) → (at.1.channel == c) ≡ b
            → Ready (kept_of (state_in config course.sender) (state_in config (after_load config course.sender delivery.node at.1)) c).highest
            (made (state_in config course.sender) (state_in config (after_load config course.sender delivery.node at.1)) c) (of_part c rest)
        each_on true same = subst (λ n. Ready (kept_of (state_in config course.sender) (state_in config (after_load config course.sender delivery.node at.1)) n).highest
            (made (state_in config course.sender) (state_in config (after_load config course.sender delivery.node at.1)) n) (of_part n rest)) (same_number at.1.channel c same)
            (rest_ready config world from to course delivery at.1 (of_part at.1.channel rest) turn loaded)
        each_on false isnt = others c unheld isnt

    one_held : (c : ℕ) → Held c (at.1.channel ∷ delivery.held) ≡ false
        → Ready (kept_of (state_in config course.sender) (state_in config (after_load config course.sender delivery.node at.1)) c).highest
        (made (state_in config course.sender) (state_in config (after_load config course.sender delivery.node at.1)) c) (of_part c rest)
    one_held c unheld = others c (second_false (at.1.channel == c) (Held c delivery.held) unheld) (first_false (at.1.channel == c) (Held c delivery.held) unheld)

    loaded_by : at.1.id ≤ (kept_of (state_in config course.sender) (state_in config (after_load config course.sender delivery.node at.1)) at.1.channel).highest
        → Going config world from to course (with_ok (record delivery { node = after_load config course.sender delivery.node at.1 }) at) rest
    loaded_by loaded = record {
      me = me;
      facts = facts;
      ready = λ no c unheld. all_ready loaded c unheld;
      acks = All-append (λ (a : ℕ × Ack). AckOk config (state_in config course.sender) (state_in config (after_load config course.sender delivery.node at.1)) a.1)
          delivery.acks ((at.0, ack_of at.1 None) ∷ []) acks
          (All-cons (λ (a : ℕ × Ack). AckOk config (state_in config course.sender) (state_in config (after_load config course.sender delivery.node at.1)) a.1)
          (at.0, ack_of at.1 None) [] (ok_sound config world from to course delivery at.1 (of_part at.1.channel rest) turn loaded)
          (All-nil (λ (a : ℕ × Ack). AckOk config (state_in config course.sender) (state_in config (after_load config course.sender delivery.node at.1)) a.1)));
      range = range;
    }

    on : (t : Result LoadAnswer PeerRefusal)
        → Told at.1 (kept_of (state_in config course.sender) (state_in config (after_load config course.sender delivery.node at.1)) at.1.channel).highest t
        → Going config world from to course (answered (record delivery { node = after_load config course.sender delivery.node at.1 }) at t) rest
    on (Ok (answer.Loaded place)) loaded = loaded_by loaded
    on (Ok (answer.Ignored place)) loaded = loaded_by loaded
    on (Ok answer.Again) loaded = loaded_by loaded
    on (Ok (answer.Erred row rule)) so = record {
      me = me;
      facts = facts;
      ready = λ no c unheld. one_held c unheld;
      acks = All-append (λ (a : ℕ × Ack). AckOk config (state_in config course.sender) (state_in config (after_load config course.sender delivery.node at.1)) a.1)
          delivery.acks ((at.0, ack_of at.1 (Some (row, number_of rule))) ∷ []) acks
          (All-cons (λ (a : ℕ × Ack). AckOk config (state_in config course.sender) (state_in config (after_load config course.sender delivery.node at.1)) a.1)
          (at.0, ack_of at.1 (Some (row, number_of rule))) [] (error_sound config world from to course delivery at.1 (of_part at.1.channel rest) turn)
          (All-nil (λ (a : ℕ × Ack). AckOk config (state_in config course.sender) (state_in config (after_load config course.sender delivery.node at.1)) a.1)));
      range = range;
    }
    on (Ok (answer.Held held row rule)) so = record {
      me = me;
      facts = facts;
      ready = λ no c unheld. one_held c unheld;
      acks = acks;
      range = range;
    }
    on (Err refusal) so = record {
      me = me;
      facts = facts;
      ready = λ no c unheld. no_some (sync_refusal refusal) (sym no);
      acks = acks;
      range = range;
    }

-- a batch is passed over
going_over : (config : Config) (world : World) (from to : List ℕ) (course : Course config world from to) (delivery : Delivery) (at : Placed) (rest : List Placed)
    → is_over delivery at.1 ≡ true → Going config world from to course delivery (at ∷ rest) → Going config world from to course delivery rest
going_over config world from to course delivery at rest over going = record {
  me = going.me;
  facts = going.facts;
  ready = λ none c unheld. subst (λ b. Ready (kept_of (state_in config course.sender) (state_in config delivery.node) c).highest
      (made (state_in config course.sender) (state_in config delivery.node) c) (map (λ (a : Placed). a.1) (cond b (at ∷ filter (is_in_part c) rest) (filter (is_in_part c) rest))))
      (not_this none c unheld (at.1.channel == c) refl) (going.ready none c unheld);
  acks = going.acks;
  range = all_tail (λ (a : Placed). a.1.channel < length config.channels) at rest going.range;
}
  where
    not_this : delivery.refusal ≡ None → (c : ℕ) → Held c delivery.held ≡ false → (b : Bool) → (at.1.channel == c) ≡ b → (at.1.channel == c) ≡ false
    not_this none c unheld true same =
        absurd (true≢false (sym (ap (λ (r : Option SyncRefusal). is_some r || Held at.1.channel delivery.held) (sym none) ∙ over)
        ∙ (ap (λ n. Held n delivery.held) (same_number at.1.channel c same) ∙ unheld)))
    not_this none c unheld false isnt = isnt

-- or its turn comes
going_turn : (config : Config) (world : World) (from to : List ℕ) (course : Course config world from to) (delivery : Delivery) (at : Placed) (rest : List Placed)
    → is_over delivery at.1 ≡ false → Going config world from to course delivery (at ∷ rest)
    → Going config world from to course (with_load delivery at (load_at config delivery.node (state_in config course.sender) at.1)) rest
going_turn config world from to course delivery at rest free going =
    let none : delivery.refusal ≡ None = no_refusal delivery.refusal (first_false (is_some delivery.refusal) (Held at.1.channel delivery.held) free) in
    let unheld : Held at.1.channel delivery.held ≡ false = second_false (is_some delivery.refusal) (Held at.1.channel delivery.held) free in
    let within : at.1.channel < length config.channels = all_head (λ (a : Placed). a.1.channel < length config.channels) at rest going.range in
    going_on config world from to course delivery at rest none unheld going (record {
      me = going.me;
      facts = going.facts;
      within = within;
      ready = subst (λ b. Ready (kept_of (state_in config course.sender) (state_in config delivery.node) at.1.channel).highest
          (made (state_in config course.sender) (state_in config delivery.node) at.1.channel)
          (map (λ (a : Placed). a.1) (cond b (at ∷ filter (is_in_part at.1.channel) rest) (filter (is_in_part at.1.channel) rest))))
          (equal_itself at.1.channel) (going.ready none at.1.channel unheld);
    }) (load_at config delivery.node (state_in config course.sender) at.1).answer
    (load_tells config delivery.node course.sender at.1 course.sound within
    (reached_at config (with_node world delivery.node) to delivery.node going.facts (receiver_there config world from to course delivery.node going.me)))
  where
    no_refusal : (refusal : Option SyncRefusal) → is_some refusal ≡ false → refusal ≡ None
    no_refusal None is = refl
    no_refusal (Some r) is = absurd (true≢false is)

pub going_all : (config : Config) (world : World) (from to : List ℕ) (course : Course config world from to) (delivery : Delivery) (batches : List Placed)
    → Going config world from to course delivery batches
    → Going config world from to course (delivered_batches config (state_in config course.sender) delivery batches) []
going_all config world from to course delivery [] going = going
going_all config world from to course delivery (at ∷ batches) going =
    going_all config world from to course
    (cond (is_over delivery at.1) delivery (with_load delivery at (load_at config delivery.node (state_in config course.sender) at.1))) batches
    (on (is_over delivery at.1) refl)
  where
    on : (b : Bool) → is_over delivery at.1 ≡ b
        → Going config world from to course (cond b delivery (with_load delivery at (load_at config delivery.node (state_in config course.sender) at.1))) batches
    on true over = going_over config world from to course delivery at batches over going
    on false free = going_turn config world from to course delivery at batches free going

-- the acks of a reply are those of its batches
found_acks : (P : Ack → Type 0) (acks : List (ℕ × Ack)) (batches : List Placed) → All (λ (at : ℕ × Ack). P at.1) acks
    → All (λ (at : ℕ × Ack). P at.1) (filter_map (λ (at : Placed). ack_at acks at.0) batches)
found_acks P acks [] are = All-nil (λ (at : ℕ × Ack). P at.1)
found_acks P acks (b ∷ batches) are = on (ack_at acks b.0) refl (found_acks P acks batches are)
  where
    on : (found : Option (ℕ × Ack)) → ack_at acks b.0 ≡ found → All (λ (at : ℕ × Ack). P at.1) (filter_map (λ (at : Placed). ack_at acks at.0) batches)
        → All (λ (at : ℕ × Ack). P at.1) (cons_option found (filter_map (λ (at : Placed). ack_at acks at.0) batches))
    on None is rest = rest
    on (Some a) is rest =
        All-cons (λ (at : ℕ × Ack). P at.1) a (filter_map (λ (at : Placed). ack_at acks at.0) batches)
        (find_all (λ (at : ℕ × Ack). P at.1) (λ (at : ℕ × Ack). at.0 == b.0) acks a are is) rest

pub acks_all : (P : Ack → Type 0) (batches : List Placed) (acks : List (ℕ × Ack)) → All (λ (at : ℕ × Ack). P at.1) acks → All P (acks_in_order batches acks)
acks_all P batches acks are =
    map_all P (λ (at : ℕ × Ack). at.1) (filter_map (λ (at : Placed). ack_at acks at.0) batches) (found_acks P acks batches are)

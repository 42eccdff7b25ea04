-- A world of which the facts hold is in step.
use Rattle.std.proofs.Common.{◌≡◌, ◌≢◌, ℕ, zero, suc, ◌+◌, ◌<◌, ◌≤◌, Bool, true, false, cond, List, [], ◌∷◌, length, map, Option, None, Some, refl, sym, ap, subst, ◌∙◌, arith, true≢false, filter, ◌==◌, ◌&&◌, All, take, get_or}
use Rattle.std.specs.Bool.{IsTrue}
use Rattle.std.specs.List.{enumerate_from, flat_map, list_any}
use Rattle.std.specs.Option.{option_map_or}
use Rattle.std.specs.Prelude.{is_some, nat_le, nat_lt, slice_get}
use Rattle.std.specs.Str.{bytes_eq}
use Rattle.std.proofs.lemmas.Bool.Decides.{nat_tests}
use Rattle.std.proofs.lemmas.List.{length-map}
use Rattle.std.proofs.lemmas.List.Folds.{list_any-append}
use Rattle.sds_types.specs.declared.ack.Ack.{Ack}
use Rattle.sds_types.specs.declared.batch.OutBatch.{OutBatch}
use Rattle.sds_types.specs.declared.config.Config.{Config}
use Rattle.sds_types.specs.declared.lane.LaneError.{LaneError}
use Rattle.sds_types.specs.declared.lane.LaneIn.{LaneIn}
use Rattle.sds_types.specs.declared.message.Message.{Message}
use Rattle.sds_types.specs.declared.message.MessagePart.{MessagePart}
use Rattle.sds_types.specs.declared.message.Reply.{Reply}
use Rattle.sds_types.specs.declared.prepared.Prepared.{Prepared}
use Rattle.sds_trade.proofs.Lists.{all_head, all_tail}
use Rattle.sds_trade.specs.rules.Sound.{IsSound}
use Rattle.sds_history.specs.history.Acts.{Act, State}
use Rattle.sds_history.specs.history.Acts.Act.{Opened, Joined, Confirmed, Wrote, Routed, Loaded, Erred, Acked}
use Rattle.sds_history.specs.history.Lanes.{empty_lane, lane_of}
use Rattle.sds_history.specs.history.Messages.{is_in_lane}
use Rattle.sds_history.specs.history.Peers.{kept_peer}
use Rattle.sds_history.specs.history.Standings.{is_acked}
use Rattle.sds_history.specs.world.InStep.{InStep, LaneInStep, MessageInStep, NodeInStep, ReplyInStep, is_ack_between, is_ack_in, is_batch_to, is_from_lane, is_loaded, is_next_error, is_part_in}
use Rattle.sds_history.specs.world.LaneParts.{all_lanes, lanes_between, load_in, loaded_in, loads_of}
use Rattle.sds_history.specs.world.Worlds.{Node, World, me_of, node_at, state_in}
use Rattle.sds_nodelaws.proofs.Channels.{At}
use Rattle.sds_nodelaws.proofs.Held.{any_map, mapped}
use Rattle.sds_nodelaws.proofs.Tests.{or_cases, or_left, or_right, same_number}
use Rattle.sds_worldlaws.specs.Nodes.{world_after}
use Rattle.sds_worldlaws.specs.Stepping.{WorldsStayInStep}
use Rattle.sds_worldlaws.proofs.Everywhere.{routed_at, writes_at}
use Rattle.sds_worldlaws.proofs.Happens.{all_facts, fewer, places_within}
use Rattle.sds_worldlaws.proofs.LaneFacts.{AckOk, AckTells, AckedOk, ErrorOk, IsNext, LaneFacts, LoadedIn, ids_ascend, kept_of, made, none_loaded, read, upto}
use Rattle.sds_nodelaws.proofs.Lists.{Ascending, Either, all_flat, and_both, ascending_filter, filter_none, from_le, from_not_le, is_le, is_lt_test, map_all, not_le, same_some}
use Rattle.sds_nodelaws.proofs.Lists.Either.{left, right}
use Rattle.sds_nodelaws.proofs.NodeFacts.{Came, NodeFacts}
use Rattle.sds_worldlaws.proofs.Reached.{Reached}
use Rattle.sds_worldlaws.proofs.WorldFacts.{MessageOk, PartOk, ReplyOk, WorldFacts, id_of_found, one_or_apart}
use Rattle.sds_worldlaws.proofs.WorldNodes.{no_lane, none_made_to}

-- NODES
came_from_lane : (config : Config) (world : World) (node : Node) (act : Act) → ((other : List ℕ) → is_some (kept_peer (state_in config node).peers other) ≡ true → is_some (node_at world other) ≡ true)
    → Came config (state_in config node) act → IsTrue (is_from_lane config world act)
came_from_lane config world node (Loaded channel batch) known came =
    and_both (is_some (node_at world batch.from)) (nat_lt channel (length config.channels)) (known batch.from came.0) (is_lt_test channel (length config.channels) came.1)
came_from_lane config world node (Opened group external token) known came = refl
came_from_lane config world node (Joined kept) known came = refl
came_from_lane config world node (Confirmed peer) known came = refl
came_from_lane config world node (Wrote writer number rows) known came = refl
came_from_lane config world node Routed known came = refl
came_from_lane config world node (Erred from channel error) known came = refl
came_from_lane config world node (Acked peer acks) known came = refl

node_in_step : (config : Config) (world : World) (node : Node) → IsSound config → WorldFacts config world → Reached config node → node_at world (me_of node).id ≡ Some node
    → NodeInStep config world node
node_in_step config world node sound facts reached found = record {
  writes = writes_at config node reached;
  senders = mapped (Came config (state_in config node)) (λ (act : Act). IsTrue (is_from_lane config world act)) node.history.acts
      (λ act came. came_from_lane config world node act (λ other kept. facts.known (me_of node).id other node found kept) came) (facts.nodes (me_of node).id node found).loads;
  routes = routed_at config node sound reached;
}

-- LANES. What is loaded are the first batches
abbrev Number : OutBatch → ℕ
Number batch = batch.id

none_over : (highest : ℕ) (batch : OutBatch) (rest : List OutBatch) → highest < batch.id → All (λ (b : OutBatch). batch.id < b.id) rest → filter (upto highest) rest ≡ []
none_over highest batch rest over are =
    filter_none (upto highest) rest (mapped (λ (b : OutBatch). batch.id < b.id) (λ (b : OutBatch). upto highest b ≡ false) rest
    (λ b less. not_le b.id highest (more highest batch.id b.id over less)) are)
  where
    more : (a b c : ℕ) → a < b → b < c → a < c
    more a b c first second = omega (arith, first, second)

take_none : (batches : List OutBatch) → [] ≡ take 0 batches
take_none [] = refl
take_none (b ∷ batches) = refl

firsts : (highest : ℕ) (batches : List OutBatch) → Ascending Number batches → filter (upto highest) batches ≡ take (length (filter (upto highest) batches)) batches
firsts highest [] ascend = refl
firsts highest (batch ∷ batches) ascend = on (nat_le batch.id highest) refl (firsts highest batches ascend.1)
  where
    on : (b : Bool) → nat_le batch.id highest ≡ b → filter (upto highest) batches ≡ take (length (filter (upto highest) batches)) batches
        → cond b (batch ∷ filter (upto highest) batches) (filter (upto highest) batches)
        ≡ take (length (cond b (batch ∷ filter (upto highest) batches) (filter (upto highest) batches))) (batch ∷ batches)
    on true is rest = ap (λ bs. batch ∷ bs) rest
    on false is rest =
        none_over highest batch batches (from_not_le batch.id highest is) ascend.0
        ∙ (take_none (batch ∷ batches) ∙ ap (λ (bs : List OutBatch). take (length bs) (batch ∷ batches)) (sym (none_over highest batch batches (from_not_le batch.id highest is) ascend.0)))

filter_few : (p : OutBatch → Bool) (batches : List OutBatch) → length (filter p batches) ≤ length batches
filter_few p [] = omega arith
filter_few p (batch ∷ batches) = on (p batch) (filter_few p batches)
  where
    on : (b : Bool) → length (filter p batches) ≤ length batches → length (cond b (batch ∷ filter p batches) (filter p batches)) ≤ suc (length batches)
    on true rest = omega (arith, rest)
    on false rest = omega (arith, rest)

-- a batch of a number is above what all are above
named_over : (number least : ℕ) (batches : List OutBatch) → All (λ (b : OutBatch). least < b.id) batches → list_any (λ (b : OutBatch). b.id == number) batches ≡ true → least ≤ number
named_over number least [] are has = absurd (true≢false (sym has))
named_over number least (batch ∷ batches) are has =
    or_cases (batch.id == number) (list_any (λ (b : OutBatch). b.id == number) batches) has
    (λ here. below (subst (λ n. least < n) (same_number batch.id number here) (all_head (λ (b : OutBatch). least < b.id) batch batches are)))
    (λ rest. named_over number least batches (all_tail (λ (b : OutBatch). least < b.id) batch batches are) rest)
  where
    below : {a b : ℕ} → a < b → a ≤ b
    below {a} less = omega (arith, less)

-- the next batch stands after those that are loaded
next_stands : (highest number : ℕ) (batches : List OutBatch) → Ascending Number batches → IsNext highest batches number
    → option_map_or (λ (batch : OutBatch). batch.id == number) (slice_get batches (length (filter (upto highest) batches))) false ≡ true
next_stands highest number [] ascend is = is.has
next_stands highest number (batch ∷ batches) ascend is = on (nat_le batch.id highest) refl (λ loaded. next_stands highest number batches ascend.1 (record {
  more = is.more;
  has = or_cases (batch.id == number) (list_any (λ (b : OutBatch). b.id == number) batches) is.has
      (λ here. absurd (clash (subst (λ n. n ≤ highest) (same_number batch.id number here) loaded) is.more)) (λ rest. rest);
  next = all_tail (λ (b : OutBatch). Either (b.id ≤ highest) (number ≤ b.id)) batch batches is.next;
}))
  where
    clash : {a b : ℕ} → a ≤ b → b < a → ⊥
    clash {a} one two = omega (arith, one, two)

    equal_by : (a n : ℕ) → n ≤ a → a ≤ n → (a == n) ≡ true
    equal_by a n first second = grind (arith, nat_tests, first, second)

    here_is : highest < batch.id → (batch.id == number) ≡ true
    here_is over =
        or_cases (batch.id == number) (list_any (λ (b : OutBatch). b.id == number) batches) is.has (λ here. here)
        (λ rest. equal_by batch.id number (past (all_head (λ (b : OutBatch). Either (b.id ≤ highest) (number ≤ b.id)) batch batches is.next) over) (named_over number batch.id batches ascend.0 rest))
      where
        past : Either (batch.id ≤ highest) (number ≤ batch.id) → highest < batch.id → number ≤ batch.id
        past (left less) more = absurd (omega (arith, less, more))
        past (right less) more = less

    on : (b : Bool) → nat_le batch.id highest ≡ b
        → (batch.id ≤ highest → option_map_or (λ (o : OutBatch). o.id == number) (slice_get batches (length (filter (upto highest) batches))) false ≡ true)
        → option_map_or (λ (o : OutBatch). o.id == number)
        (slice_get (batch ∷ batches) (length (cond b (batch ∷ filter (upto highest) batches) (filter (upto highest) batches)))) false ≡ true
    on true loaded later = later (from_le batch.id highest loaded)
    on false over later =
        ap (λ (bs : List OutBatch). option_map_or (λ (o : OutBatch). o.id == number) (slice_get (batch ∷ batches) (length bs)) false)
        (none_over highest batch batches (from_not_le batch.id highest over) ascend.0) ∙ here_is (from_not_le batch.id highest over)

loaded_count : (config : Config) (from to : Node) (channel : ℕ) → LaneFacts config (state_in config from) (state_in config to) to.history.acts channel
    → length (loaded_in (record { from = from; to = to; channel = channel }))
    ≡ length (filter (upto (kept_of (state_in config from) (state_in config to) channel).highest) (made (state_in config from) (state_in config to) channel))
loaded_count config from to channel facts =
    ap length facts.loads
    ∙ length-map (filter (upto (kept_of (state_in config from) (state_in config to) channel).highest) (made (state_in config from) (state_in config to) channel))
    (read config (state_in config from) (state_in config to))

lane_in_step : (config : Config) (from to : Node) (channel : ℕ) → Ascending Number (state_in config from).batches
    → LaneFacts config (state_in config from) (state_in config to) to.history.acts channel → LaneInStep config (record { from = from; to = to; channel = channel })
lane_in_step config from to channel ascend facts =
    let highest : ℕ = (kept_of (state_in config from) (state_in config to) channel).highest in
    let lane : List OutBatch = made (state_in config from) (state_in config to) channel in
    let ascends : Ascending Number lane = ascending_filter Number (is_in_lane (me_of to).id channel) (state_in config from).batches ascend in
    let count : length (loaded_in (record { from = from; to = to; channel = channel })) ≡ length (filter (upto highest) lane) = loaded_count config from to channel facts in
    record {
      loads = facts.loads ∙ (ap (map (read config (state_in config from) (state_in config to))) (firsts highest lane ascends)
          ∙ ap (λ n. map (read config (state_in config from) (state_in config to)) (take n lane)) (sym count));
      counts = (
        subst (λ n. length (filter (λ (b : OutBatch). is_acked b.standing) lane) ≤ n) (sym count)
            (fewer (λ (b : OutBatch). is_acked b.standing) (upto highest) lane
            (mapped (AckedOk highest) (λ (b : OutBatch). is_acked b.standing ≡ true → upto highest b ≡ true) lane (λ b ok acked. is_le b.id highest (ok acked)) facts.acked)),
        subst (λ n. n ≤ length lane) (sym count) (filter_few (upto highest) lane),
      );
      error = error_on highest lane (kept_of (state_in config from) (state_in config to) channel).error ascends count facts.error;
    }
  where
    error_on : (highest : ℕ) (lane : List OutBatch) (error : Option LaneError) → Ascending Number lane
        → length (loaded_in (record { from = from; to = to; channel = channel })) ≡ length (filter (upto highest) lane) → ErrorOk highest lane error
        → option_map_or (λ (e : LaneError). option_map_or (λ (batch : OutBatch). batch.id == e.batch)
        (slice_get lane (length (loaded_in (record { from = from; to = to; channel = channel })))) false) error true ≡ true
    error_on highest lane None ascends count ok = refl
    error_on highest lane (Some e) ascends count ok =
        ap (λ n. option_map_or (λ (batch : OutBatch). batch.id == e.batch) (slice_get lane n) false) count ∙ next_stands highest e.batch lane ascends ok

-- a node has no lane to itself
own_lane : (config : Config) (node : Node) (channel : ℕ) → NodeFacts config (state_in config node) node.history.acts
    → LaneInStep config (record { from = node; to = node; channel = channel })
own_lane config node channel facts =
    let state : State = state_in config node in
    let unkept : is_some (kept_peer state.peers (me_of node).id) ≡ false = ap is_some facts.own in
    let none : made state state channel ≡ [] = none_made_to config state (me_of node).id channel unkept facts.batches in
    let nothing : loads_of (me_of node).id channel node.history.acts ≡ [] = none_loaded config state (me_of node).id channel node.history.acts unkept facts.loads in
    let empty : lane_of state.lanes (me_of node).id channel ≡ empty_lane (me_of node).id channel = no_lane config state (me_of node).id channel unkept facts.lanes in
    record {
      loads = nothing ∙ sym (ap (λ (bs : List OutBatch). map (read config state state) (take (length (loads_of (me_of node).id channel node.history.acts)) bs)) none
          ∙ ap (map (read config state state)) (take_nothing (length (loads_of (me_of node).id channel node.history.acts))));
      counts = (
        subst (λ (bs : List OutBatch). length (filter (λ (b : OutBatch). is_acked b.standing) bs) ≤ length (loads_of (me_of node).id channel node.history.acts)) (sym none)
            (least (length (loads_of (me_of node).id channel node.history.acts))),
        subst (λ (ps : List Prepared). length ps ≤ length (made state state channel)) (sym nothing) (least (length (made state state channel))),
      );
      error = ap (λ (lane : LaneIn). option_map_or (is_next_error config (record { from = node; to = node; channel = channel })) lane.error true) empty;
    }
  where
    least : (n : ℕ) → 0 ≤ n
    least n = omega arith

    take_nothing : (n : ℕ) → take {A = OutBatch} n [] ≡ []
    take_nothing zero = refl
    take_nothing (suc n) = refl

lanes_of : (config : Config) (world : World) (from to : Node) (channel : ℕ) → IsSound config → WorldFacts config world → node_at world (me_of from).id ≡ Some from
    → node_at world (me_of to).id ≡ Some to → channel < length config.channels → LaneInStep config (record { from = from; to = to; channel = channel })
lanes_of config world from to channel sound facts is_from is_to within = on (one_or_apart (me_of from).id (me_of to).id)
  where
    on : Either ((me_of from).id ≡ (me_of to).id) ((me_of from).id ≢ (me_of to).id) → LaneInStep config (record { from = from; to = to; channel = channel })
    on (left same) =
        subst (λ (n : Node). LaneInStep config (record { from = from; to = n; channel = channel }))
        (same_some from to (sym is_from ∙ (ap (node_at world) same ∙ is_to))) (own_lane config from channel (facts.nodes (me_of from).id from is_from))
    on (right apart) =
        lane_in_step config from to channel (ids_ascend config (state_in config from) from.history.acts (facts.nodes (me_of from).id from is_from))
        (facts.lanes (me_of from).id (me_of to).id from to channel is_from is_to apart within)

all_in_step : (config : Config) (world : World) → IsSound config → WorldFacts config world → All (LaneInStep config) (all_lanes config world)
all_in_step config world sound facts =
    all_flat (LaneInStep config) (λ (from : Node). flat_map (lanes_between config from) world.nodes) world.nodes
    (mapped (λ (from : Node). node_at world (me_of from).id ≡ Some from) (λ (from : Node). All (LaneInStep config) (flat_map (lanes_between config from) world.nodes)) world.nodes
    (λ from is_from. all_flat (LaneInStep config) (lanes_between config from) world.nodes
    (mapped (λ (to : Node). node_at world (me_of to).id ≡ Some to) (λ (to : Node). All (LaneInStep config) (lanes_between config from to)) world.nodes
    (λ to is_to. map_all (LaneInStep config) (λ (at : At). record { from = from; to = to; channel = at.0 }) (enumerate_from 0 config.channels)
    (mapped (λ (at : At). at.0 < 0 + length config.channels) (λ (at : At). LaneInStep config (record { from = from; to = to; channel = at.0 })) (enumerate_from 0 config.channels)
    (λ at within. lanes_of config world from to at.0 sound facts is_from is_to (from_zero at.0 (length config.channels) within)) (places_within 0 config.channels))) facts.found)) facts.found)
  where
    from_zero : (a n : ℕ) → a < 0 + n → a < n
    from_zero a n less = omega (arith, less)

-- MESSAGES
part_in_step : (config : Config) (world : World) (message : Message) (ok : MessageOk config world message) → WorldFacts config world → (part : MessagePart)
    → PartOk config (state_in config ok.from) (state_in config ok.to) part → IsTrue (is_part_in config (node_at world message.from) (node_at world message.to) part)
part_in_step config world message ok facts part is =
    let lane : LaneFacts config (state_in config ok.from) (state_in config ok.to) ok.to.history.acts part.channel =
    facts.lanes message.from message.to ok.from ok.to part.channel ok.is_from ok.is_to ok.apart is.within in
    ap (λ (found : Option Node). is_part_in config found (node_at world message.to) part) ok.is_from
    ∙ (ap (λ (found : Option Node). is_part_in config (Some ok.from) found part) ok.is_to
    ∙ and_both (nat_le (part.start + part.count) (length (made (state_in config ok.from) (state_in config ok.to) part.channel)))
    (nat_le part.start (length (loaded_in (record { from = ok.from; to = ok.to; channel = part.channel }))))
    (is_le (part.start + part.count) (length (made (state_in config ok.from) (state_in config ok.to) part.channel)) is.whole)
    (is_le part.start (length (loaded_in (record { from = ok.from; to = ok.to; channel = part.channel })))
    (subst (λ n. part.start ≤ n) (sym (loaded_count config ok.from ok.to part.channel lane)) is.start)))

message_in_step : (config : Config) (world : World) (message : Message) → WorldFacts config world → MessageOk config world message → MessageInStep config world message
message_in_step config world message facts ok =
    mapped (PartOk config (state_in config ok.from) (state_in config ok.to))
    (λ (part : MessagePart). IsTrue (is_part_in config (node_at world message.from) (node_at world message.to) part)) message.parts
    (λ part is. part_in_step config world message ok facts part is) ok.parts

-- REPLIES. What is told as loaded is loaded
any_upto : (highest number : ℕ) (batches : List OutBatch) → number ≤ highest → list_any (λ (b : OutBatch). b.id == number) batches ≡ true
    → list_any (λ (b : OutBatch). b.id == number) (filter (upto highest) batches) ≡ true
any_upto highest number [] less has = has
any_upto highest number (batch ∷ batches) less has = on (nat_le batch.id highest) refl (λ rest. any_upto highest number batches less rest)
  where
    on : (b : Bool) → nat_le batch.id highest ≡ b
        → (list_any (λ (o : OutBatch). o.id == number) batches ≡ true → list_any (λ (o : OutBatch). o.id == number) (filter (upto highest) batches) ≡ true)
        → list_any (λ (o : OutBatch). o.id == number) (cond b (batch ∷ filter (upto highest) batches) (filter (upto highest) batches)) ≡ true
    on true is later = or_cases (batch.id == number) (list_any (λ (o : OutBatch). o.id == number) batches) has
        (λ here. or_left (batch.id == number) (list_any (λ (o : OutBatch). o.id == number) (filter (upto highest) batches)) here)
        (λ rest. or_right (batch.id == number) (list_any (λ (o : OutBatch). o.id == number) (filter (upto highest) batches)) (later rest))
    on false over later = or_cases (batch.id == number) (list_any (λ (o : OutBatch). o.id == number) batches) has
        (λ here. absurd (true≢false (sym (is_le batch.id highest (subst (λ n. n ≤ highest) (sym (same_number batch.id number here)) less)) ∙ over)))
        (λ rest. later rest)

one_load : (from : List ℕ) (node : Node) (channel number : ℕ) (act : Act) → list_any (λ (p : Prepared). p.batch == number) (load_in from channel act) ≡ true
    → is_loaded from node number act ≡ true
one_load from node channel number (Loaded place batch) is = on (place == channel) (bytes_eq batch.from from) refl is
  where
    on : (a b : Bool) → bytes_eq batch.from from ≡ b → list_any (λ (p : Prepared). p.batch == number) (cond (a && b) (batch ∷ []) []) ≡ true
        → (batch.batch == number && bytes_eq batch.from from) ≡ true
    on true true same any = and_both (batch.batch == number) (bytes_eq batch.from from) (or_cases (batch.batch == number) false any (λ here. here) (λ no. absurd (true≢false (sym no)))) same
    on true false same any = absurd (true≢false (sym any))
    on false b same any = absurd (true≢false (sym any))
one_load from node channel number (Opened group external token) is = is
one_load from node channel number (Joined kept) is = is
one_load from node channel number (Confirmed peer) is = is
one_load from node channel number (Wrote writer n rows) is = is
one_load from node channel number Routed is = is
one_load from node channel number (Erred peer place error) is = is
one_load from node channel number (Acked peer acks) is = is

any_load : (from : List ℕ) (node : Node) (channel number : ℕ) (acts : List Act) → list_any (λ (p : Prepared). p.batch == number) (loads_of from channel acts) ≡ true
    → list_any (is_loaded from node number) acts ≡ true
any_load from node channel number [] is = is
any_load from node channel number (act ∷ acts) is =
    or_cases (list_any (λ (p : Prepared). p.batch == number) (loads_of from channel acts)) (list_any (λ (p : Prepared). p.batch == number) (load_in from channel act))
    (sym (list_any-append (λ (p : Prepared). p.batch == number) (loads_of from channel acts) (load_in from channel act)) ∙ is)
    (λ rest. or_right (is_loaded from node number act) (list_any (is_loaded from node number) acts) (any_load from node channel number acts rest))
    (λ here. or_left (is_loaded from node number act) (list_any (is_loaded from node number) acts) (one_load from node channel number act here))

loaded_told : (config : Config) (world : World) (a b : List ℕ) (from to : Node) (number : ℕ) → WorldFacts config world → node_at world a ≡ Some from → node_at world b ≡ Some to
    → a ≢ b → LoadedIn config (state_in config from) (state_in config to) number → list_any (is_loaded a to number) to.history.acts ≡ true
loaded_told config world a b from to number facts is_from is_to apart ok =
    let lane : LaneFacts config (state_in config from) (state_in config to) to.history.acts ok.channel = facts.lanes a b from to ok.channel is_from is_to apart ok.within in
    let highest : ℕ = (kept_of (state_in config from) (state_in config to) ok.channel).highest in
    subst (λ i. list_any (is_loaded i to number) to.history.acts ≡ true) (id_of_found world a from is_from)
    (any_load (me_of from).id to ok.channel number to.history.acts
    (ap (list_any (λ (p : Prepared). p.batch == number)) lane.loads
    ∙ (any_map (λ (p : Prepared). p.batch == number) (read config (state_in config from) (state_in config to))
    (filter (upto highest) (made (state_in config from) (state_in config to) ok.channel))
    ∙ any_upto highest number (made (state_in config from) (state_in config to) ok.channel) ok.most ok.has)))

ack_in_step : (config : Config) (world : World) (reply : Reply) (ok : ReplyOk config world reply) → WorldFacts config world → (ack : Ack)
    → AckOk config (state_in config ok.sender) (state_in config ok.receiver) ack
    → IsTrue (is_ack_between config reply (node_at world reply.to) (node_at world reply.from) ack)
ack_in_step config world reply ok facts ack is =
    ap (λ (found : Option Node). is_ack_between config reply found (node_at world reply.from) ack) ok.is_sender
    ∙ (ap (λ (found : Option Node). is_ack_between config reply (Some ok.sender) found ack) ok.is_receiver ∙ on ack.error refl is)
  where
    on : (error : Option (ℕ × ℕ)) → ack.error ≡ error → AckTells config (state_in config ok.sender) (state_in config ok.receiver) ack.batch error
        → is_ack_in config reply.from reply.to ok.sender ok.receiver ack ≡ true
    on None same tells =
        ap (λ (e : Option (ℕ × ℕ)). elim e [
          | None ↦ list_any (is_loaded reply.to ok.receiver ack.batch) ok.receiver.history.acts
          | Some x ↦ list_any (is_batch_to reply.from ack.batch) (state_in config ok.sender).batches
        ]) same
        ∙ loaded_told config world reply.to reply.from ok.sender ok.receiver ack.batch facts ok.is_sender ok.is_receiver ok.apart tells
    on (Some error) same tells =
        ap (λ (e : Option (ℕ × ℕ)). elim e [
          | None ↦ list_any (is_loaded reply.to ok.receiver ack.batch) ok.receiver.history.acts
          | Some x ↦ list_any (is_batch_to reply.from ack.batch) (state_in config ok.sender).batches
        ]) same
        ∙ subst (λ i. list_any (is_batch_to i ack.batch) (state_in config ok.sender).batches ≡ true) (id_of_found world reply.from ok.receiver ok.is_receiver) tells

reply_in_step : (config : Config) (world : World) (reply : Reply) → WorldFacts config world → ReplyOk config world reply → ReplyInStep config world reply
reply_in_step config world reply facts ok =
    mapped (AckOk config (state_in config ok.sender) (state_in config ok.receiver))
    (λ (ack : Ack). IsTrue (is_ack_between config reply (node_at world reply.to) (node_at world reply.from) ack)) reply.acks
    (λ ack is. ack_in_step config world reply ok facts ack is) ok.acks

-- ALL
in_step : (config : Config) (world : World) → IsSound config → WorldFacts config world → InStep config world
in_step config world sound facts = record {
  nodes = λ k d within. node_in_step config world (get_or world.nodes k d) sound facts (facts.reached k d within) (facts.found k d within);
  lanes = all_in_step config world sound facts;
  messages = mapped (MessageOk config world) (MessageInStep config world) world.messages (λ message ok. message_in_step config world message facts ok) facts.messages;
  replies = mapped (ReplyOk config world) (ReplyInStep config world) world.replies (λ reply ok. reply_in_step config world reply facts ok) facts.replies;
}

pub worlds_stay_in_step : WorldsStayInStep
worlds_stay_in_step config sound noise events new = in_step config (world_after config noise events) sound (all_facts config noise events sound new)

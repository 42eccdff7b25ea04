-- A message begins, in each of its channels, with the first batch that isn't acknowledged.
use Rattle.std.proofs.Common.{◌≡◌, ℕ, suc, ◌+◌, ◌-◌, ◌<◌, Bool, true, false, cond, List, [], ◌∷◌, ◌++◌, length, Option, None, Some, Ok, Err, refl, sym, ap, subst, ◌∙◌, arith, ◌==◌, filter, All, take, drop}
use Rattle.std.specs.List.{position, range_with_len}
use Rattle.std.specs.Option.{option_map_or}
use Rattle.std.specs.Prelude.{slice_get}
use Rattle.std.proofs.lemmas.List.Elements.{All-nil, All-cons}
use Rattle.sds_types.specs.declared.batch.OutBatch.{OutBatch}
use Rattle.sds_types.specs.declared.channel.ChannelDef.{ChannelDef}
use Rattle.sds_types.specs.declared.config.Config.{Config}
use Rattle.sds_types.specs.declared.message.Message.{Message}
use Rattle.sds_types.specs.declared.message.MessagePart.{MessagePart}
use Rattle.sds_types.specs.declared.sync.SyncRefusal.TheVariants.{NoWay}
use Rattle.sds_types.specs.declared.world_event.WorldEvent.TheVariants as event
use Rattle.sds_trade.proofs.Lists.{passes}
use Rattle.sds_history.specs.history.Acts.{History, State}
use Rattle.sds_history.specs.history.Messages.{count_through, ends_part, lane_made, lane_waiting, message_channels, part_of, parts_of}
use Rattle.sds_history.specs.history.Standings.{is_acked}
use Rattle.sds_history.specs.history.States.{state_of}
use Rattle.sds_history.specs.history.Links.{has_pull, has_push}
use Rattle.sds_history.specs.world.Exchanging.{exchanged, exchanged_if, may_exchange, next_step, pulled, pushed}
use Rattle.sds_history.specs.world.Happened.{Told, tells}
use Rattle.sds_history.specs.world.Happened.Told.{NoPull, NoPush, Sending}
use Rattle.sds_history.specs.world.Sending.{batch_count, may_send, sent, sent_parts, with_message}
use Rattle.sds_history.specs.world.Worlds.{Node, World, has_id, message_of, node_at, reply_of, state_in}
use Rattle.sds_nodelaws.specs.Acknowledged.{AckedFirst}
use Rattle.sds_nodelaws.proofs.Acknowledged.{acked_come_first}
use Rattle.sds_nodelaws.proofs.Lists.{find_all, in_all, map_all, no_some, same_some}
use Rattle.sds_worldlaws.specs.Nodes.{world_after}
use Rattle.sds_worldlaws.specs.Waiting.{BeginsWaiting, MessagesBeginWaiting, SendsWaiting}
use Rattle.sds_worldlaws.proofs.Everywhere.{all_reached}
use Rattle.sds_worldlaws.proofs.Pushes.{Says, delivered_messages, delivered_says, delivering, last_stands, reply_messages, step_on}
use Rattle.sds_worldlaws.proofs.Pushes.Delivers.{refused, replies, silent}
use Rattle.sds_worldlaws.proofs.Reached.{Reached}

-- LISTS
take_front : {X : Type 0} (xs ys : List X) → take (length xs) (xs ++ ys) ≡ xs
take_front [] [] = refl
take_front [] (y ∷ ys) = refl
take_front (x ∷ xs) ys = ap (λ l. x ∷ l) (take_front xs ys)

drop_front : {X : Type 0} (xs ys : List X) → drop (length xs) (xs ++ ys) ≡ ys
drop_front [] [] = refl
drop_front [] (y ∷ ys) = refl
drop_front (x ∷ xs) ys = drop_front xs ys

-- a part of a lane in which a batch waits has at least one
some_counted : (ends : ℕ → Bool) (batches : List OutBatch) (batch : OutBatch) (others : List OutBatch) → batches ≡ batch ∷ others → 0 < count_through ends batches
some_counted ends batches batch others is = on (position ends (range_with_len 0 (length batches)))
  where
    more : (n : ℕ) → 0 < n + 1
    more n = omega arith

    long : (n : ℕ) → 0 < suc n
    long n = omega arith

    on : (found : Option ℕ) → 0 < option_map_or (λ (place : ℕ). place + 1) found (length batches)
    on (Some place) = more place
    on None = subst (λ (bs : List OutBatch). 0 < length bs) (sym is) (long (length others))

part_begins : (config : Config) (state : State) (to : List ℕ) (at : ℕ × ChannelDef) → AckedFirst state to at.0 → BeginsWaiting state to (part_of config state to at)
part_begins config state to at first =
    let acked : List OutBatch = filter (λ (batch : OutBatch). is_acked batch.standing) (lane_made state to at.0) in
    record {
      before = subst (All (λ (batch : OutBatch). is_acked batch.standing ≡ true))
          (sym (ap (take (length acked)) first ∙ take_front acked (lane_waiting state to at.0)))
          (passes (λ (batch : OutBatch). is_acked batch.standing) (lane_made state to at.0));
      after = ap (drop (length acked)) first ∙ drop_front acked (lane_waiting state to at.0);
      some = λ batch others is. some_counted (ends_part config state at.1.max_batch_to_send (lane_waiting state to at.0)) (lane_waiting state to at.0) batch others is;
    }

parts_begin : (config : Config) (state : State) (to channels : List ℕ) → ((channel : ℕ) → AckedFirst state to channel)
    → All (BeginsWaiting state to) (parts_of config state to channels)
parts_begin config state to channels first =
    map_all (BeginsWaiting state to) (part_of config state to) (message_channels config channels)
    (in_all (λ (at : ℕ × ChannelDef). BeginsWaiting state to (part_of config state to at)) (message_channels config channels)
    (λ at is. part_begins config state to at (first at.0)))

node_first : (config : Config) (node : Node) (to : List ℕ) (channel : ℕ) → Reached config node → AckedFirst (state_in config node) to channel
node_first config node to channel reached =
    subst (λ (h : History). AckedFirst (state_of config h) to channel) (sym reached.same) (acked_come_first config reached.me reached.calls to channel)

-- A MESSAGE that was sent
abbrev number_told : List Told → Option ℕ
number_told (Sending from to (Ok message) ∷ more) = Some message.0
number_told told = None

-- the messages after one that was sent are delivered and answered are the same
stepped_messages : (config : Config) (world : World) (number : ℕ)
    → (next_step config (delivering config world number).world (delivering config world number).told).world.messages ≡ world.messages
stepped_messages config world number = on (delivered_says config world number (message_of world number))
  where
    delivers : (delivering config world number).world.messages ≡ world.messages
    delivers = delivered_messages config world number (message_of world number)

    on : Says number (message_of world number) (delivering config world number)
        → (next_step config (delivering config world number).world (delivering config world number).told).world.messages ≡ world.messages
    on (silent is) = ap (λ t. (next_step config (delivering config world number).world t).world.messages) is ∙ delivers
    on (refused why is) = ap (λ t. (next_step config (delivering config world number).world t).world.messages) is ∙ delivers
    on (replies place acks message found is reply) =
        ap (λ t. (next_step config (delivering config world number).world t).world.messages) is
        ∙ (reply_messages config (delivering config world number).world place (reply_of (delivering config world number).world place) ∙ delivers)

exchanged_messages : (config : Config) (world : World) (from to : List ℕ) (parts : List MessagePart)
    → (exchanged config (sent_parts world from to parts)).world.messages ≡ (with_message world from to parts).messages
exchanged_messages config world from to parts = on (batch_count parts == 0)
  where
    on : (b : Bool) → (next_step config (step_on config (with_message world from to parts) (length world.messages + 1) b).world
        (step_on config (with_message world from to parts) (length world.messages + 1) b).told).world.messages ≡ (with_message world from to parts).messages
    on true = refl
    on false = stepped_messages config (with_message world from to parts) (length world.messages + 1)

-- a message with the parts that its sender makes
made_begins : (config : Config) (world : World) (messages : List Message) (from to channels : List ℕ) (number : ℕ) (message : Message) (node : Node) → Reached config node
    → messages ≡ (with_message world from to (parts_of config (state_in config node) to channels)).messages
    → length world.messages + 1 ≡ number → slice_get messages (number - 1) ≡ Some message
    → All (BeginsWaiting (state_in config node) to) message.parts
made_begins config world messages from to channels number message node reached are at is =
    let made : Message = record { from = from; to = to; parts = parts_of config (state_in config node) to channels } in
    let same : made ≡ message = same_some made message
    (sym (last_stands world.messages made) ∙ (ap (λ n. slice_get (world.messages ++ made ∷ []) (n - 1)) at ∙ (ap (λ ms. slice_get ms (number - 1)) (sym are) ∙ is))) in
    subst (λ (m : Message). All (BeginsWaiting (state_in config node) to) m.parts) same
    (parts_begin config (state_in config node) to channels (λ channel. node_first config node to channel reached))

sent_begins : (config : Config) (world : World) (from to channels : List ℕ) (number : ℕ) (message : Message) (node : Node) (b : Bool) → Reached config node
    → number_told (cond b (sent_parts world from to (parts_of config (state_in config node) to channels)) (tells world (Sending from to (Err NoWay)))).told ≡ Some number
    → message_of (cond b (sent_parts world from to (parts_of config (state_in config node) to channels)) (tells world (Sending from to (Err NoWay)))).world number ≡ Some message
    → All (BeginsWaiting (state_in config node) to) message.parts
sent_begins config world from to channels number message node true reached said is =
    made_begins config world (with_message world from to (parts_of config (state_in config node) to channels)).messages from to channels number message node reached refl
    (same_some (length world.messages + 1) number said) is
sent_begins config world from to channels number message node false reached said is = no_some number said

exchanged_begins : (config : Config) (world : World) (from to : List ℕ) (number : ℕ) (message : Message) (node : Node) (b : Bool) → Reached config node
    → number_told (exchanged config (cond b (sent_parts world from to (parts_of config (state_in config node) to [])) (tells world (Sending from to (Err NoWay))))).told ≡ Some number
    → message_of (exchanged config (cond b (sent_parts world from to (parts_of config (state_in config node) to [])) (tells world (Sending from to (Err NoWay))))).world number
    ≡ Some message
    → All (BeginsWaiting (state_in config node) to) message.parts
exchanged_begins config world from to number message node true reached said is =
    made_begins config world (exchanged config (sent_parts world from to (parts_of config (state_in config node) to []))).world.messages from to [] number message node reached
    (exchanged_messages config world from to (parts_of config (state_in config node) to [])) (same_some (length world.messages + 1) number said) is
exchanged_begins config world from to number message node false reached said is = no_some number said

if_begins : (config : Config) (world : World) (from to : List ℕ) (number : ℕ) (message : Message) (node : Node) (none : Told) (b : Bool) → Reached config node
    → number_told (none ∷ []) ≡ None → number_told (exchanged_if b config world from to node none).told ≡ Some number
    → message_of (exchanged_if b config world from to node none).world number ≡ Some message
    → All (BeginsWaiting (state_in config node) to) message.parts
if_begins config world from to number message node none true reached not said is =
    exchanged_begins config world from to number message node (may_send config (state_in config node) to) reached said is
if_begins config world from to number message node none false reached not said is = no_some number (sym not ∙ said)

pub messages_begin_waiting : MessagesBeginWaiting
messages_begin_waiting config noise events from to channels =
    All-cons (SendsWaiting config noise (world_after config noise events) from to) (event.Send from to channels) (event.Push from to ∷ event.Pull to from ∷ []) sends
    (All-cons (SendsWaiting config noise (world_after config noise events) from to) (event.Push from to) (event.Pull to from ∷ []) pushes
    (All-cons (SendsWaiting config noise (world_after config noise events) from to) (event.Pull to from) [] pulls
    (All-nil (SendsWaiting config noise (world_after config noise events) from to))))
  where
    reached : (sender : Node) → node_at (world_after config noise events) from ≡ Some sender → Reached config sender
    reached sender there = find_all (Reached config) (has_id from) (world_after config noise events).nodes sender (all_reached config noise events) there

    sends : SendsWaiting config noise (world_after config noise events) from to (event.Send from to channels)
    sends number size rest message sender said is there =
        sent_begins config (world_after config noise events) from to channels number message sender (may_send config (state_in config sender) to) (reached sender there)
        (ap (λ (found : Option Node). number_told (sent config (world_after config noise events) from to channels found).told) (sym there) ∙ ap number_told said)
        (ap (λ (found : Option Node). message_of (sent config (world_after config noise events) from to channels found).world number) (sym there) ∙ is)

    pushes : SendsWaiting config noise (world_after config noise events) from to (event.Push from to)
    pushes number size rest message sender said is there =
        if_begins config (world_after config noise events) from to number message sender (NoPush from to) (may_exchange (has_push config) (state_in config sender) to) (reached sender there) refl
        (ap (λ (found : Option Node). number_told (pushed config (world_after config noise events) from to found).told) (sym there) ∙ ap number_told said)
        (ap (λ (found : Option Node). message_of (pushed config (world_after config noise events) from to found).world number) (sym there) ∙ is)

    pulls : SendsWaiting config noise (world_after config noise events) from to (event.Pull to from)
    pulls number size rest message sender said is there =
        if_begins config (world_after config noise events) from to number message sender (NoPull to from) (may_exchange (has_pull config) (state_in config sender) to) (reached sender there) refl
        (ap (λ (found : Option Node). number_told (pulled config (world_after config noise events) to from found).told) (sym there) ∙ ap number_told said)
        (ap (λ (found : Option Node). message_of (pulled config (world_after config noise events) to from found).world number) (sym there) ∙ is)

-- A push all of whose batches were answered without an error leaves each acknowledged.
use Rattle.std.proofs.Common.{◌≡◌, ℕ, zero, suc, ◌+◌, ◌-◌, ◌≤◌, Bool, true, false, true≢false, cond, List, [], ◌∷◌, ◌++◌, length, map, Option, None, Some, Result, Ok, Err, refl, sym, ap, subst, ◌∙◌, arith, ◌==◌, All, take, drop, take-append-drop}
use Rattle.std.specs.Option.{option_map_or}
use Rattle.std.specs.Prelude.{slice_get}
use Rattle.std.specs.Str.{bytes_eq}
use Rattle.std.proofs.lemmas.List.{length-append, length-map}
use Rattle.std.proofs.lemmas.List.Concat.{flat_map-cons}
use Rattle.std.proofs.lemmas.List.Elements.{All-nil}
use Rattle.std.proofs.lemmas.List.Sums.{sum_by-cons}
use Rattle.sds_types.specs.declared.ack.Ack.{Ack}
use Rattle.sds_types.specs.declared.batch.OutBatch.{OutBatch}
use Rattle.sds_types.specs.declared.config.Config.{Config}
use Rattle.sds_types.specs.declared.document.BatchDoc.{BatchDoc}
use Rattle.sds_types.specs.declared.message.Message.{Message}
use Rattle.sds_types.specs.declared.message.MessagePart.{MessagePart}
use Rattle.sds_types.specs.declared.message.Reply.{Reply}
use Rattle.sds_types.specs.declared.node_fault.NodeFault.{NodeFault}
use Rattle.sds_types.specs.declared.sync.SyncRefusal.{SyncRefusal}
use Rattle.sds_types.specs.declared.sync.SyncRefusal.TheVariants.{NoWay}
use Rattle.sds_types.specs.declared.world_event.WorldEvent.{WorldEvent}
use Rattle.sds_types.specs.declared.world_event.WorldEvent.TheVariants as event
use Rattle.sds_types.specs.declared.ack.AckRefusal.TheVariants.{UnknownNode}
use Rattle.sds_trade.proofs.Lists.{all_head, all_tail, passes}
use Rattle.sds_trade.specs.rules.Sound.{IsSound}
use Rattle.sds_history.specs.history.Acts.{State}
use Rattle.sds_history.specs.history.Documents.{doc_of_batch}
use Rattle.sds_history.specs.history.Links.{has_pull, has_push}
use Rattle.sds_history.specs.history.Messages.{batches_in_part, batches_in_parts, is_in_lane, lane_made, parts_of}
use Rattle.sds_history.specs.history.Standings.{is_acked}
use Rattle.sds_history.specs.world.Answering.{answered_at, answered_reply, confirmed}
use Rattle.sds_history.specs.world.Calling.{Called}
use Rattle.sds_history.specs.world.Delivering.{confirm_at, delivered, delivered_at, delivered_between, delivery_of, replied}
use Rattle.sds_history.specs.world.DeliverOrder.{deliver_order}
use Rattle.sds_history.specs.world.Delivery.{Delivery, acks_in_order, delivered_batches}
use Rattle.sds_history.specs.world.Events.{happened}
use Rattle.sds_history.specs.world.Exchanging.{exchanged, exchanged_if, may_exchange, next_step, pulled, pushed}
use Rattle.sds_history.specs.world.Happened.{Happened, Told, quiet, tells}
use Rattle.sds_history.specs.world.Happened.Told.{Answering, Delivering, NoPull, NoPush, Sending}
use Rattle.sds_history.specs.world.InStep.{is_batch_to}
use Rattle.sds_history.specs.world.Sending.{batch_count, may_send, may_take, sent, sent_parts, with_message}
use Rattle.sds_history.specs.world.Worlds.{Node, World, message_of, node_at, reply_of, state_in, with_node}
use Rattle.std.specs.List.{enumerate_from}
use Rattle.sds_nodelaws.proofs.Held.{equal_itself, first_all, last_all}
use Rattle.sds_nodelaws.proofs.Lists.{In, all_flat, all_in, and_both, and_right, in_all, in_filter, in_map, map_twice, same_some, slice_all}
use Rattle.sds_nodelaws.proofs.Lists.Either.{left, right}
use Rattle.sds_worldlaws.specs.Nodes.{world_after}
use Rattle.sds_worldlaws.specs.Progress.{IsCounted, carried}
use Rattle.sds_worldlaws.specs.Pushes.{IsAcknowledged, PullsAcknowledge, PushesAcknowledge}
use Rattle.sds_worldlaws.specs.Stepping.{AreNew}
use Rattle.sds_worldlaws.specs.Written.{written_in}
use Rattle.sds_worldlaws.proofs.AnswersInOrder.{replies_answer_in_order}
use Rattle.sds_worldlaws.proofs.Happens.{all_facts}
use Rattle.sds_worldlaws.proofs.Progress.{taken_replies_count}
use Rattle.sds_worldlaws.proofs.WorldFacts.{MessageOk, PartOk, WorldFacts, id_of_found}
use Rattle.sds_worldlaws.proofs.Written.{messages_stay_written}

-- LISTS. The last of a list stands at its end
pub last_stands : {X : Type 0} (xs : List X) (x : X) → slice_get (xs ++ x ∷ []) (length xs + 1 - 1) ≡ Some x
last_stands {X} xs x = ap (slice_get (xs ++ x ∷ [])) (less (length xs)) ∙ there xs
  where
    less : (n : ℕ) → n + 1 - 1 ≡ n
    less n = omega arith

    there : (ys : List X) → slice_get (ys ++ x ∷ []) (length ys) ≡ Some x
    there [] = refl
    there (y ∷ ys) = there ys

-- lists of other lengths differ
unlike : {X G : Type 0} (xs ys : List X) → xs ≡ ys → (length xs == length ys) ≡ false → G
unlike xs ys is differ = absurd (true≢false (sym (equal_itself (length ys)) ∙ (ap (λ l. length l == length ys) (sym is) ∙ differ)))

same_tail : {X : Type 0} (x y : X) (xs ys : List X) → x ∷ xs ≡ y ∷ ys → xs ≡ ys
same_tail {X} x y xs ys is = ap (λ (l : List X). elim l [ [] ↦ [] | z ∷ zs ↦ zs ]) is

-- A DELIVERY tells nothing, a refusal, or a reply that it made
abbrev pub back : Message → List Ack → Reply
back message acks = record { from = message.to; to = message.from; acks = acks }

pub data Delivers (number : ℕ) (found : Option Message) (world : World) (told : List Told) : Type 0 where
  silent : told ≡ [] → Delivers number found world told
  refused : (why : SyncRefusal) → told ≡ Delivering number (Err why) ∷ [] → Delivers number found world told
  replies : (place : ℕ) → (acks : List Ack) → (message : Message) → found ≡ Some message → told ≡ Delivering number (Ok (place, acks)) ∷ []
      → reply_of world place ≡ Some (back message acks) → Delivers number found world told

abbrev pub Says : ℕ → Option Message → Happened → Type 0
Says number found happened = Delivers number found happened.world happened.told

replied_says : (world : World) (message : Message) (number : ℕ) (acks : List Ack) (refusal : Option SyncRefusal)
    → Says number (Some message) (replied world message number acks refusal)
replied_says world message number acks None = replies (length world.replies + 1) acks message refl refl (last_stands world.replies (back message acks))
replied_says world message number acks (Some why) = refused why refl

at_says : (config : Config) (world : World) (number : ℕ) (message : Message) (sender : State) (node : Node)
    → Says number (Some message) (delivered_at config world number message [] sender node)
at_says config world number message sender node =
    let batches : List (ℕ × OutBatch) = enumerate_from 0 (batches_in_parts sender message.to message.parts) in
    let delivery : Delivery = delivered_batches config sender (delivery_of (confirm_at config node message.from)) (deliver_order [] batches) in
    replied_says (with_node world delivery.node) message number (acks_in_order batches delivery.acks) delivery.refusal

between_says : (config : Config) (world : World) (number : ℕ) (message : Message) (sender found : Option Node)
    → Says number (Some message) (delivered_between config world number message [] sender found)
between_says config world number message None None = silent refl
between_says config world number message None (Some node) = silent refl
between_says config world number message (Some sender) None = silent refl
between_says config world number message (Some sender) (Some node) = on (may_take config (state_in config node) message.from)
  where
    on : (b : Bool) → Says number (Some message)
        (cond b (delivered_at config world number message [] (state_in config sender) node) (tells world (Delivering number (Err NoWay))))
    on true = at_says config world number message (state_in config sender) node
    on false = refused NoWay refl

pub delivered_says : (config : Config) (world : World) (number : ℕ) (found : Option Message) → Says number found (delivered config world number [] found)
delivered_says config world number None = silent refl
delivered_says config world number (Some message) = between_says config world number message (node_at world message.from) (node_at world message.to)

-- neither a delivery nor an answer changes the messages
replied_messages : (world : World) (message : Message) (number : ℕ) (acks : List Ack) (refusal : Option SyncRefusal)
    → (replied world message number acks refusal).world.messages ≡ world.messages
replied_messages world message number acks None = refl
replied_messages world message number acks (Some why) = refl

at_messages : (config : Config) (world : World) (number : ℕ) (message : Message) (sender : State) (node : Node)
    → (delivered_at config world number message [] sender node).world.messages ≡ world.messages
at_messages config world number message sender node =
    let batches : List (ℕ × OutBatch) = enumerate_from 0 (batches_in_parts sender message.to message.parts) in
    let delivery : Delivery = delivered_batches config sender (delivery_of (confirm_at config node message.from)) (deliver_order [] batches) in
    replied_messages (with_node world delivery.node) message number (acks_in_order batches delivery.acks) delivery.refusal

between_messages : (config : Config) (world : World) (number : ℕ) (message : Message) (sender found : Option Node)
    → (delivered_between config world number message [] sender found).world.messages ≡ world.messages
between_messages config world number message None None = refl
between_messages config world number message None (Some node) = refl
between_messages config world number message (Some sender) None = refl
between_messages config world number message (Some sender) (Some node) = on (may_take config (state_in config node) message.from)
  where
    on : (b : Bool) → (cond b (delivered_at config world number message [] (state_in config sender) node) (tells world (Delivering number (Err NoWay)))).world.messages
        ≡ world.messages
    on true = at_messages config world number message (state_in config sender) node
    on false = refl

pub delivered_messages : (config : Config) (world : World) (number : ℕ) (found : Option Message) → (delivered config world number [] found).world.messages ≡ world.messages
delivered_messages config world number None = refl
delivered_messages config world number (Some message) = between_messages config world number message (node_at world message.from) (node_at world message.to)

confirmed_messages : (config : Config) (world : World) (number : ℕ) (reply : Reply) (called : Called (Unit {0}) NodeFault) (told : Result (Unit {0}) NodeFault)
    → (confirmed config world number reply called told).world.messages ≡ world.messages
confirmed_messages config world number reply called (Ok done) = refl
confirmed_messages config world number reply called (Err fault) = refl

answered_messages : (config : Config) (world : World) (number : ℕ) (reply : Reply) (found : Option Node)
    → (answered_at config world number reply found).world.messages ≡ world.messages
answered_messages config world number reply None = refl
answered_messages config world number reply (Some node) = on (may_send config (state_in config node) reply.from)
  where
    on : (b : Bool) → (cond b (confirmed config world number reply (confirm_at config node reply.from) (confirm_at config node reply.from).answer)
        (tells world (Answering number (Err UnknownNode)))).world.messages ≡ world.messages
    on true = confirmed_messages config world number reply (confirm_at config node reply.from) (confirm_at config node reply.from).answer
    on false = refl

pub reply_messages : (config : Config) (world : World) (number : ℕ) (found : Option Reply) → (answered_reply config world number found).world.messages ≡ world.messages
reply_messages config world number None = refl
reply_messages config world number (Some reply) = answered_messages config world number reply (node_at world reply.to)

-- A PUSH is its three parts, one after another
abbrev pub delivering : Config → World → ℕ → Happened
delivering config world number = delivered config world number [] (message_of world number)

abbrev answering : Config → World → ℕ → Happened
answering config world place = answered_reply config world place (reply_of world place)

record Rest (config : Config) (world after : World) (number place count : ℕ) (acks : List Ack) : Type 0 where
  message : Message
  is : message_of world number ≡ Some message
  delivers : (delivering config world number).told ≡ Delivering number (Ok (place, acks)) ∷ []
  reply : reply_of (delivering config world number).world place ≡ Some (back message acks)
  answers : (answering config (delivering config world number).world place).told ≡ Answering place (Ok count) ∷ []
  same : after ≡ (answering config (delivering config world number).world place).world

abbrev place_told : List Told → ℕ
place_told (Delivering number (Ok reply) ∷ more) = reply.0
place_told told = 0

abbrev acks_told : List Told → List Ack
acks_told (Delivering number (Ok reply) ∷ more) = reply.1
acks_told told = []

rest_of : (config : Config) (world after : World) (number other place count : ℕ) (acks : List Ack)
    → (delivering config world number).told ++ (next_step config (delivering config world number).world (delivering config world number).told).told
    ≡ Delivering other (Ok (place, acks)) ∷ Answering place (Ok count) ∷ []
    → after ≡ (next_step config (delivering config world number).world (delivering config world number).told).world
    → Rest config world after number place count acks
rest_of config world after number other place count acks told same = on (delivered_says config world number (message_of world number))
  where
    on : Says number (message_of world number) (delivering config world number) → Rest config world after number place count acks
    on (silent is) = unlike [] (Delivering other (Ok (place, acks)) ∷ Answering place (Ok count) ∷ [])
        (ap (λ t. t ++ (next_step config (delivering config world number).world t).told) (sym is) ∙ told) refl
    on (refused why is) = unlike (Delivering number (Err why) ∷ []) (Delivering other (Ok (place, acks)) ∷ Answering place (Ok count) ∷ [])
        (ap (λ t. t ++ (next_step config (delivering config world number).world t).told) (sym is) ∙ told) refl
    on (replies first those message found is reply) =
        let all : Delivering number (Ok (first, those)) ∷ (answering config (delivering config world number).world first).told
        ≡ Delivering other (Ok (place, acks)) ∷ Answering place (Ok count) ∷ [] =
        ap (λ t. t ++ (next_step config (delivering config world number).world t).told) (sym is) ∙ told in
        let at : first ≡ place = ap place_told all in
        let with_acks : those ≡ acks = ap acks_told all in
        let delivers : (delivering config world number).told ≡ Delivering number (Ok (place, acks)) ∷ [] =
        is ∙ (ap (λ n. Delivering number (Ok (n, those)) ∷ []) at ∙ ap (λ a. Delivering number (Ok (place, a)) ∷ []) with_acks) in
        record {
          message = message;
          is = found;
          delivers = delivers;
          reply = ap (reply_of (delivering config world number).world) (sym at) ∙ (reply ∙ ap (λ a. Some (back message a)) with_acks);
          answers = ap (λ n. (answering config (delivering config world number).world n).told) (sym at)
              ∙ same_tail (Delivering number (Ok (first, those))) (Delivering other (Ok (place, acks)))
              (answering config (delivering config world number).world first).told (Answering place (Ok count) ∷ []) all;
          same = same ∙ ap (λ t. (next_step config (delivering config world number).world t).world) delivers;
        }

record Parts (config : Config) (world after : World) (from to : List ℕ) (number size place count : ℕ) (acks : List Ack) : Type 0 where
  parts : List MessagePart
  sends : sent config world from to [] (node_at world from) ≡ sent_parts world from to parts
  number_is : length world.messages + 1 ≡ number
  size_is : batch_count parts ≡ size
  rest : Rest config (with_message world from to parts) after (length world.messages + 1) place count acks

abbrev sent_told : List Told → ℕ × ℕ
sent_told (Sending from to (Ok message) ∷ more) = message
sent_told told = (0, 0)

abbrev pub step_on : Config → World → ℕ → Bool → Happened
step_on config world number b = cond b (quiet world) (delivering config world number)

parts_after : (config : Config) (world : World) (from to : List ℕ) (parts : List MessagePart) (number size place count : ℕ) (acks : List Ack)
    → sent config world from to [] (node_at world from) ≡ sent_parts world from to parts
    → (exchanged config (sent_parts world from to parts)).told ≡ Sending from to (Ok (number, size)) ∷ Delivering number (Ok (place, acks)) ∷ Answering place (Ok count) ∷ []
    → Parts config world (exchanged config (sent_parts world from to parts)).world from to number size place count acks
parts_after config world from to parts number size place count acks sends told = record {
  parts = parts;
  sends = sends;
  number_is = ap (λ t. (sent_told t).0) told;
  size_is = ap (λ t. (sent_told t).1) told;
  rest = on (batch_count parts == 0) (same_tail (Sending from to (Ok (length world.messages + 1, batch_count parts))) (Sending from to (Ok (number, size))) _ _ told);
}
  where
    on : (b : Bool)
        → (step_on config (with_message world from to parts) (length world.messages + 1) b).told ++ (next_step config (step_on config (with_message world from to parts) (length world.messages + 1) b).world (step_on config (with_message world from to parts) (length world.messages + 1) b).told).told ≡ Delivering number (Ok (place, acks)) ∷ Answering place (Ok count) ∷ []
        → Rest config (with_message world from to parts) (next_step config (step_on config (with_message world from to parts) (length world.messages + 1) b).world (step_on config (with_message world from to parts) (length world.messages + 1) b).told).world (length world.messages + 1) place count acks
    on true is = unlike [] (Delivering number (Ok (place, acks)) ∷ Answering place (Ok count) ∷ []) is refl
    on false is = rest_of config (with_message world from to parts) _ (length world.messages + 1) number place count acks is refl

node_parts : (config : Config) (world : World) (from to : List ℕ) (node : Node) (none : Told) (leads : Bool) (number size place count : ℕ) (acks : List Ack)
    → node_at world from ≡ Some node
    → (exchanged_if leads config world from to node none).told ≡ Sending from to (Ok (number, size)) ∷ Delivering number (Ok (place, acks)) ∷ Answering place (Ok count) ∷ []
    → Parts config world (exchanged_if leads config world from to node none).world from to number size place count acks
node_parts config world from to node none leads number size place count acks is told = on leads told
  where
    send_on : (b : Bool) → sent config world from to [] (Some node) ≡ cond b (sent_parts world from to (parts_of config (state_in config node) to [])) (tells world (Sending from to (Err NoWay)))
        → (exchanged config (cond b (sent_parts world from to (parts_of config (state_in config node) to [])) (tells world (Sending from to (Err NoWay))))).told
        ≡ Sending from to (Ok (number, size)) ∷ Delivering number (Ok (place, acks)) ∷ Answering place (Ok count) ∷ []
        → Parts config world (exchanged config (cond b (sent_parts world from to (parts_of config (state_in config node) to [])) (tells world (Sending from to (Err NoWay))))).world
        from to number size place count acks
    send_on true sends said =
        parts_after config world from to (parts_of config (state_in config node) to []) number size place count acks (ap (sent config world from to []) is ∙ sends) said
    send_on false sends said = unlike (Sending from to (Err NoWay) ∷ []) (Sending from to (Ok (number, size)) ∷ Delivering number (Ok (place, acks)) ∷ Answering place (Ok count) ∷ []) said refl

    on : (b : Bool) → (exchanged_if b config world from to node none).told
        ≡ Sending from to (Ok (number, size)) ∷ Delivering number (Ok (place, acks)) ∷ Answering place (Ok count) ∷ []
        → Parts config world (exchanged_if b config world from to node none).world from to number size place count acks
    on true said = send_on (may_send config (state_in config node) to) refl said
    on false said = unlike (none ∷ []) (Sending from to (Ok (number, size)) ∷ Delivering number (Ok (place, acks)) ∷ Answering place (Ok count) ∷ []) said refl

push_parts : (config : Config) (world : World) (from to : List ℕ) (found : Option Node) (number size place count : ℕ) (acks : List Ack)
    → node_at world from ≡ found
    → (pushed config world from to found).told ≡ Sending from to (Ok (number, size)) ∷ Delivering number (Ok (place, acks)) ∷ Answering place (Ok count) ∷ []
    → Parts config world (pushed config world from to found).world from to number size place count acks
push_parts config world from to None number size place count acks is told = unlike [] (Sending from to (Ok (number, size)) ∷ Delivering number (Ok (place, acks)) ∷ Answering place (Ok count) ∷ []) told refl
push_parts config world from to (Some node) number size place count acks is told =
    node_parts config world from to node (NoPush from to) (may_exchange (has_push config) (state_in config node) to) number size place count acks is told

pull_parts : (config : Config) (world : World) (from to : List ℕ) (found : Option Node) (number size place count : ℕ) (acks : List Ack)
    → node_at world from ≡ found
    → (pulled config world to from found).told ≡ Sending from to (Ok (number, size)) ∷ Delivering number (Ok (place, acks)) ∷ Answering place (Ok count) ∷ []
    → Parts config world (pulled config world to from found).world from to number size place count acks
pull_parts config world from to None number size place count acks is told = unlike [] (Sending from to (Ok (number, size)) ∷ Delivering number (Ok (place, acks)) ∷ Answering place (Ok count) ∷ []) told refl
pull_parts config world from to (Some node) number size place count acks is told =
    node_parts config world from to node (NoPull to from) (may_exchange (has_pull config) (state_in config node) to) number size place count acks is told

-- THE BATCHES of a message are of its sender, and go to its receiver
abbrev IsTo : State → List ℕ → OutBatch → Type 0
IsTo state to batch = In batch state.batches × (bytes_eq batch.peer to ≡ true)

part_to : (state : State) (to : List ℕ) (part : MessagePart) → All (IsTo state to) (batches_in_part state to part)
part_to state to part = take_all part.count (drop part.start (lane_made state to part.channel)) (drop_all part.start (lane_made state to part.channel)
    (in_all (IsTo state to) (lane_made state to part.channel)
    (λ batch is. (
      in_filter (is_in_lane to part.channel) batch state.batches is,
      and_right (batch.channel == part.channel) (bytes_eq batch.peer to)
          (all_in (λ (b : OutBatch). is_in_lane to part.channel b ≡ true) batch (lane_made state to part.channel) (passes (is_in_lane to part.channel) state.batches) is),
    ))))
  where
    take_all : (n : ℕ) (bs : List OutBatch) → All (IsTo state to) bs → All (IsTo state to) (take n bs)
    take_all n bs are = first_all (IsTo state to) (take n bs) (drop n bs) (subst (All (IsTo state to)) (sym (take-append-drop n bs)) are)

    drop_all : (n : ℕ) (bs : List OutBatch) → All (IsTo state to) bs → All (IsTo state to) (drop n bs)
    drop_all n bs are = last_all (IsTo state to) (take n bs) (drop n bs) (subst (All (IsTo state to)) (sym (take-append-drop n bs)) are)

parts_to : (state : State) (to : List ℕ) (parts : List MessagePart) → All (IsTo state to) (batches_in_parts state to parts)
parts_to state to parts = all_flat (IsTo state to) (batches_in_part state to) parts
    (in_all (λ (part : MessagePart). All (IsTo state to) (batches_in_part state to part)) parts (λ part is. part_to state to part))

-- a batch that an ack without an error names is acknowledged
named : (state : State) (to : List ℕ) (batch : OutBatch) (acks : List Ack) → IsTo state to batch → In batch.id (map (λ (ack : Ack). ack.batch) acks)
    → All (IsCounted state to) acks → All (λ (ack : Ack). ack.error ≡ None) acks → is_acked batch.standing ≡ true
named state to batch [] is among counted fine = absurd among
named state to batch (ack ∷ acks) is (left same) counted fine =
    all_in (λ (b : OutBatch). is_batch_to to ack.batch b ≡ true → is_acked b.standing ≡ true) batch state.batches
    (all_head (IsCounted state to) ack acks counted (all_head (λ (a : Ack). a.error ≡ None) ack acks fine)) is.0
    (and_both (batch.id == ack.batch) (bytes_eq batch.peer to) (ap (λ n. n == ack.batch) same ∙ equal_itself ack.batch) is.1)
named state to batch (ack ∷ acks) is (right among) counted fine =
    named state to batch acks is among (all_tail (IsCounted state to) ack acks counted) (all_tail (λ (a : Ack). a.error ≡ None) ack acks fine)

-- COUNTS. A message has the batches that its parts count
take_length : (n : ℕ) (bs : List OutBatch) → n ≤ length bs → length (take n bs) ≡ n
take_length zero [] less = refl
take_length zero (b ∷ bs) less = refl
take_length (suc n) [] less = absurd (omega (arith, less))
take_length (suc n) (b ∷ bs) less = ap suc (take_length n bs (omega (arith, less)))

part_length : (start count : ℕ) (bs : List OutBatch) → start + count ≤ length bs → length (take count (drop start bs)) ≡ count
part_length zero count [] less = take_length count [] (omega (arith, less))
part_length zero count (b ∷ bs) less = take_length count (b ∷ bs) (omega (arith, less))
part_length (suc start) count [] less = absurd (omega (arith, less))
part_length (suc start) count (b ∷ bs) less = part_length start count bs (omega (arith, less))

parts_length : (state : State) (to : List ℕ) (parts : List MessagePart)
    → ((part : MessagePart) → In part parts → part.start + part.count ≤ length (lane_made state to part.channel))
    → length (batches_in_parts state to parts) ≡ batch_count parts
parts_length state to [] whole = refl
parts_length state to (part ∷ parts) whole =
    ap length (flat_map-cons (batches_in_part state to) part parts)
    ∙ (length-append (batches_in_part state to part) (batches_in_parts state to parts)
    ∙ (ap (λ n. n + length (batches_in_parts state to parts)) (part_length part.start part.count (lane_made state to part.channel) (whole part (left refl)))
    ∙ (ap (λ n. part.count + n) (parts_length state to parts (λ other is. whole other (right is)))
    ∙ sym (sum_by-cons (λ (p : MessagePart). p.count) part parts))))

carried_length : (config : Config) (world : World) (message : Message) → MessageOk config world message → length (carried config world message) ≡ batch_count message.parts
carried_length config world message ok =
    ap (λ (found : Option Node). length (option_map_or (λ (s : Node). batches_in_parts (state_in config s) message.to message.parts) found [])) ok.is_from
    ∙ parts_length (state_in config ok.from) message.to message.parts
    (λ part is. subst (λ i. part.start + part.count ≤ length (lane_made (state_in config ok.from) i part.channel)) (id_of_found world message.to ok.to ok.is_to)
    (all_in (PartOk config (state_in config ok.from) (state_in config ok.to)) part message.parts ok.parts is).whole)

-- NUMBERS. They are those of the message's documents
abbrev ids : List OutBatch → List ℕ
ids batches = map (λ (b : OutBatch). b.id) batches

written_ids : (config : Config) (world : World) (message : Message)
    → map (λ (doc : BatchDoc). doc.batch) (written_in config world message) ≡ ids (carried config world message)
written_ids config world message = on (node_at world message.from)
  where
    on : (found : Option Node)
        → map (λ (doc : BatchDoc). doc.batch) (option_map_or (λ (s : Node). map (doc_of_batch config (state_in config s)) (batches_in_parts (state_in config s) message.to message.parts)) found [])
        ≡ ids (option_map_or (λ (s : Node). batches_in_parts (state_in config s) message.to message.parts) found [])
    on None = refl
    on (Some s) = map_twice (λ (doc : BatchDoc). doc.batch) (doc_of_batch config (state_in config s)) (batches_in_parts (state_in config s) message.to message.parts)

all_acked : (config : Config) (world : World) (message : Message) (acks : List Ack) (found : Option Node)
    → ((sender : Node) → found ≡ Some sender → All (IsCounted (state_in config sender) message.to) acks)
    → map (λ (ack : Ack). ack.batch) acks ≡ ids (option_map_or (λ (s : Node). batches_in_parts (state_in config s) message.to message.parts) found [])
    → All (λ (ack : Ack). ack.error ≡ None) acks
    → All (λ (b : OutBatch). is_acked b.standing ≡ true) (option_map_or (λ (s : Node). batches_in_parts (state_in config s) message.to message.parts) found [])
all_acked config world message acks None counted order fine = All-nil (λ (b : OutBatch). is_acked b.standing ≡ true)
all_acked config world message acks (Some sender) counted order fine =
    let batches : List OutBatch = batches_in_parts (state_in config sender) message.to message.parts in
    in_all (λ (b : OutBatch). is_acked b.standing ≡ true) batches
    (λ batch is. named (state_in config sender) message.to batch acks
    (all_in (IsTo (state_in config sender) message.to) batch batches (parts_to (state_in config sender) message.to message.parts) is)
    (subst (In batch.id) (sym order) (in_map (λ (b : OutBatch). b.id) batch batches is))
    (counted sender refl) fine)

-- THE LAW, of the three parts as three events
three_events : (config : Config) (noise : List ℕ) (events : List WorldEvent) (from to : List ℕ) (number size place count : ℕ) (acks : List Ack) (message : Message)
    → IsSound config → AreNew config noise events
    → message_of (world_after config noise (event.Send from to [] ∷ events)) number ≡ Some message
    → batch_count message.parts ≡ size
    → (delivering config (world_after config noise (event.Send from to [] ∷ events)) number).told ≡ Delivering number (Ok (place, acks)) ∷ []
    → reply_of (world_after config noise (event.Deliver number [] ∷ event.Send from to [] ∷ events)) place ≡ Some (back message acks)
    → (answering config (world_after config noise (event.Deliver number [] ∷ event.Send from to [] ∷ events)) place).told ≡ Answering place (Ok count) ∷ []
    → length acks ≡ size → All (λ (ack : Ack). ack.error ≡ None) acks
    → IsAcknowledged config (world_after config noise (event.Answer place ∷ event.Deliver number [] ∷ event.Send from to [] ∷ events)) message size
three_events config noise events from to number size place count acks message sound new is size_is delivers reply answers many fine =
    let sent_then : List WorldEvent = event.Send from to [] ∷ events in
    let mid : World = world_after config noise (event.Send from to [] ∷ events) in
    let now : World = world_after config noise (event.Answer place ∷ event.Deliver number [] ∷ event.Send from to [] ∷ events) in
    let facts : WorldFacts config mid = all_facts config noise (event.Send from to [] ∷ events) sound (tt, new) in
    let ok : MessageOk config mid message = slice_all (MessageOk config mid) mid.messages (number - 1) message facts.messages is in
    let long : length (carried config mid message) ≡ size = carried_length config mid message ok ∙ size_is in
    let order : map (λ (ack : Ack). ack.batch) acks ≡ ids (carried config mid message) =
    replies_answer_in_order config noise (event.Send from to [] ∷ events) number place [] acks message is delivers (many ∙ sym long) in
    let stays : written_in config now message ≡ written_in config mid message =
    slice_all (λ (m : Message). written_in config now m ≡ written_in config mid m) mid.messages (number - 1) message
    (messages_stay_written config sound noise (event.Send from to [] ∷ events) (event.Answer place ∷ event.Deliver number [] ∷ []) (tt, new)) is in
    let same : ids (carried config now message) ≡ ids (carried config mid message) =
    sym (written_ids config now message) ∙ (ap (map (λ (doc : BatchDoc). doc.batch)) stays ∙ written_ids config mid message) in (
      sym (length-map (carried config now message) (λ (b : OutBatch). b.id)) ∙ (ap length same ∙ (length-map (carried config mid message) (λ (b : OutBatch). b.id) ∙ long)),
      all_acked config now message acks (node_at now message.from)
          (λ sender there. taken_replies_count config noise (event.Deliver number [] ∷ event.Send from to [] ∷ events) place count (back message acks) sender reply answers there)
          (order ∙ sym same) fine,
    )

parts_acknowledge : (config : Config) (noise : List ℕ) (events : List WorldEvent) (after : World) (from to : List ℕ) (number size place count : ℕ) (acks : List Ack)
    (message : Message) → IsSound config → AreNew config noise events
    → Parts config (world_after config noise events) after from to number size place count acks
    → length acks ≡ size → All (λ (ack : Ack). ack.error ≡ None) acks → message_of after number ≡ Some message
    → IsAcknowledged config after message size
parts_acknowledge config noise events after from to number size place count acks message sound new it many fine is =
    let world : World = world_after config noise events in
    let made : Message = record { from = from; to = to; parts = it.parts } in
    let mid_is : with_message world from to it.parts ≡ world_after config noise (event.Send from to [] ∷ events) = ap (λ (h : Happened). h.world) (sym it.sends) in
    let rest : Rest config (world_after config noise (event.Send from to [] ∷ events)) after number place count acks =
    subst (λ w. Rest config w after number place count acks) mid_is
    (subst (λ n. Rest config (with_message world from to it.parts) after n place count acks) it.number_is it.rest) in
    let there : message_of (world_after config noise (event.Send from to [] ∷ events)) number ≡ Some made =
    ap (λ (w : World). message_of w number) (sym mid_is) ∙ (ap (message_of (with_message world from to it.parts)) (sym it.number_is) ∙ last_stands world.messages made) in
    let messages : after.messages ≡ (world_after config noise (event.Send from to [] ∷ events)).messages =
    ap (λ (w : World). w.messages) rest.same
    ∙ (reply_messages config (world_after config noise (event.Deliver number [] ∷ event.Send from to [] ∷ events)) place
    (reply_of (world_after config noise (event.Deliver number [] ∷ event.Send from to [] ∷ events)) place)
    ∙ delivered_messages config (world_after config noise (event.Send from to [] ∷ events)) number (message_of (world_after config noise (event.Send from to [] ∷ events)) number)) in
    let now_is : message ≡ made = same_some message made (sym is ∙ (ap (λ ms. slice_get ms (number - 1)) messages ∙ there)) in
    let rest_is : rest.message ≡ made = same_some rest.message made (sym rest.is ∙ there) in
    subst (λ (m : Message). IsAcknowledged config after m size) (sym now_is)
    (subst (λ (w : World). IsAcknowledged config w made size) (sym rest.same)
    (three_events config noise events from to number size place count acks made sound new there it.size_is rest.delivers
    (rest.reply ∙ ap (λ (m : Message). Some (back m acks)) rest_is) rest.answers many fine))

pub pushes_acknowledge : PushesAcknowledge
pushes_acknowledge config sound noise events new from to number size place count acks message said many fine is =
    parts_acknowledge config noise events (happened config noise (world_after config noise events) (event.Push from to)).world from to number size place count acks message sound new
    (push_parts config (world_after config noise events) from to (node_at (world_after config noise events) from) number size place count acks refl said) many fine is

pub pulls_acknowledge : PullsAcknowledge
pulls_acknowledge config sound noise events new from to number size place count acks message said many fine is =
    parts_acknowledge config noise events (happened config noise (world_after config noise events) (event.Pull to from)).world from to number size place count acks message sound new
    (pull_parts config (world_after config noise events) from to (node_at (world_after config noise events) from) number size place count acks refl said) many fine is

-- Messages and replies go between the nodes of a stage as in the world that it plays.
use Rattle.std.proofs.Common.{◌≡◌, ◌+◌, ◌<◌, ◌≤◌, drop, ℕ, zero, suc, arith, Bool, true, false, cond, List, [], ◌∷◌, ◌++◌, length, map, Option, None, Some, Result, refl, sym, ap, subst, ◌∙◌}
use Rattle.std.specs.Prelude.{Ok, Err, slice_index_or, slice_set}
use Rattle.std.specs.List.{All, AllPairs}
use Rattle.std.proofs.lemmas.List.Elements.{All-cons, All-nil}
use Rattle.sds_outside.specs.declared.mem_keeper.MemKeeper.{MemKeeper}
use Rattle.sds_types.specs.declared.ack.Ack.{Ack}
use Rattle.sds_types.specs.declared.ack.AckRefusal.{AckRefusal}
use Rattle.sds_types.specs.declared.ack.AckRefusal.TheVariants as acks
use Rattle.sds_types.specs.declared.batch.OutBatch.{OutBatch}
use Rattle.sds_types.specs.declared.config.Config.{Config}
use Rattle.sds_types.specs.declared.link.Action.{Action}
use Rattle.sds_types.specs.declared.load_answer.LoadAnswer.{LoadAnswer}
use Rattle.sds_types.specs.declared.load_answer.LoadAnswer.TheVariants as loads
use Rattle.sds_types.specs.declared.load_answer.PeerRefusal.{PeerRefusal}
use Rattle.sds_types.specs.declared.load_answer.PeerRefusal.TheVariants as peer
use Rattle.sds_types.specs.declared.message.Message.{Message}
use Rattle.sds_types.specs.declared.message.MessagePart.{MessagePart}
use Rattle.sds_types.specs.declared.message.Reply.{Reply}
use Rattle.sds_types.specs.declared.node_fault.NodeFault.{NodeFault}
use Rattle.sds_types.specs.declared.sync.SyncRefusal.{SyncRefusal}
use Rattle.sds_types.specs.declared.sync.SyncRefusal.TheVariants.{NoWay}
use Rattle.sds_batchtext.specs.Writing.{text_of}
use Rattle.sds_nodelaws.proofs.Lists.{Either}
use Rattle.sds_nodelaws.proofs.Lists.Either.{left, right}
use Rattle.sds_doclaws.specs.Writable.{HasFewKeys}
use Rattle.sds_trade.specs.rules.Outcomes.{prepared_batch}
use Rattle.sds_history.specs.history.Acks.{acks_act, acks_answer}
use Rattle.sds_history.specs.history.Acts.{State}
use Rattle.sds_history.specs.history.Documents.{doc_of_batch, way_from}
use Rattle.sds_history.specs.history.Loads.{load_act, load_answer}
use Rattle.sds_history.specs.history.Registrations.{confirm_act, confirm_answer}
use Rattle.sds_history.specs.world.Answering.{answered_at, answered_reply, confirmed, take_at}
use Rattle.sds_history.specs.world.Calling.{Called, call}
use Rattle.sds_history.specs.world.DeliverOrder.{deliver_order}
use Rattle.sds_history.specs.world.Delivering.{confirm_at, delivered, delivered_at, delivered_between, delivery_of, replied}
use Rattle.sds_history.specs.world.Delivery.{Delivery, acks_in_order, answered, delivered_batches, is_over, load_at, with_load}
use Rattle.sds_history.specs.world.Happened.{Happened, quiet, tells}
use Rattle.sds_history.specs.world.Happened.Told.{Answering, Delivering}
use Rattle.sds_history.specs.world.Sending.{may_send, may_take}
use Rattle.sds_history.specs.world.Worlds as world
use Rattle.std.specs.List.{enumerate_from}
use Rattle.sds_history.specs.history.Messages.{batches_in_parts}
use Rattle.sds_node.specs.Meaning.{has}
use Rattle.sds_node.specs.declared.node.Node.{Node}
use Rattle.sds_screen.specs.Shown.{message_docs}
use Rattle.sds_stage.specs.Answering.{Answers, AnswersIf, taken_after, taken_at}
use Rattle.sds_stage.specs.Delivering.{IsTextOf, Takes, TakesIf, answer_of, whole_delivery}
use Rattle.sds_stage.specs.Placed.{AreApart, IsNowhere, IsPlaced, NodeAt}
use Rattle.sds_stage.specs.Playing.{IsStage, PlaysWorld}
use Rattle.sds_stage.specs.Sending.{AsksWay, Exchanges, Happens, HasAnswered, HasDelivered, MadeAt, MakesMessage, Sends, answer_told, delivery_told, text_in, told_or}
use Rattle.sds_stage.specs.Standing.{AllStand, Stands}
use Rattle.sds_stage.specs.declared.stage.Stage.{Stage}
use Rattle.sds_stage.proofs.Staged.{apart_stays, call_me, with_node_at}

abbrev Nodes : Type 0
Nodes = List (Node MemKeeper)

-- THE NODE of an id, and the one that it stands for
pub node_of : (old : Stage) (seen : Nodes) (id : List ℕ) (place : ℕ) (played : world.World) → seen ≡ old.nodes.items → IsPlaced id seen place → PlaysWorld old played
    → NodeAt old.config id old.nodes.items place played.nodes
node_of old seen id place played same placed plays =
    (subst (λ (l : Nodes). IsPlaced id l place) same placed).at old.config played.nodes plays.apart plays.nodes

pub nobody : (old : Stage) (seen : Nodes) (id : List ℕ) (played : world.World) → seen ≡ old.nodes.items → IsNowhere id seen → PlaysWorld old played
    → world.node_at played id ≡ None
nobody old seen id played same nowhere plays =
    (subst (λ (l : Nodes). IsNowhere id l) same nowhere).absent old.config played.nodes plays.nodes

-- a node has the configuration of the stage
pub config_at : (old : Stage) (seen : Nodes) (id : List ℕ) (place : ℕ) (node : Node MemKeeper) (played : world.World) → seen ≡ old.nodes.items → IsPlaced id seen place
    → node ≡ slice_index_or old.nodes.items place node → PlaysWorld old played → node.config ≡ old.config
config_at old seen id place node played same placed is plays = ((node_of old seen id place played same placed plays).stands node is).config_is

-- a sure node has what the one has for which it stands
pub seen_of : {X : Type 0} (see : Config → State → X) (config : Config) (node : Node MemKeeper) (stood : world.Node) → Stands config node stood → node.sure ≡ true
    → see node.config (has node) ≡ see config (world.state_in config stood)
seen_of see config node stood stands sure = ap (λ (c : Config). see c (has node)) stands.config_is ∙ ap (see config) (stands.has_is sure)

-- ITEMS that are left of a list
pub with_one : {X : Type 0} (P : X → Type 0) (xs : List X) (i : ℕ) (x : X) → i < length xs → P (slice_index_or xs i x) → All P (drop (i + 1) xs) → All P (drop i xs)
with_one P [] i x within is rest = absurd (omega (arith, within))
with_one P (y ∷ xs) zero x within is rest = All-cons P y xs is rest
with_one P (y ∷ xs) (suc i) x within is rest =
    with_one P xs i x (omega (arith, within)) is (subst (λ (k : ℕ). All P (drop k (y ∷ xs))) (let same : suc i + 1 ≡ suc (i + 1) = omega arith in same) rest)

pub all_left : {X : Type 0} (P : X → Type 0) (xs : List X) (i : ℕ) → length xs ≤ i → All P (drop i xs)
all_left P [] zero over = All-nil P
all_left P [] (suc i) over = All-nil P
all_left P (x ∷ xs) zero over = absurd (omega (arith, over))
all_left P (x ∷ xs) (suc i) over = all_left P xs i (omega (arith, over))

-- a node that goes on standing for the same
pub plays_on : (old : Stage) (seen : Nodes) (id : List ℕ) (place : ℕ) (before next : Node MemKeeper) (played : world.World) → seen ≡ old.nodes.items → IsPlaced id seen place
    → before ≡ slice_index_or old.nodes.items place before
    → ((config : Config) (stood : world.Node) → Stands config before stood → Stands config next stood)
    → PlaysWorld old played → PlaysWorld (with_node_at old place next) played
plays_on old seen id place before next played same placed is stays plays =
    let at = node_of old seen id place played same placed plays in
    record { nodes = at.stay next (stays old.config at.stood (at.stands before is)); apart = plays.apart }

-- what it was asked stands of the one for which it stands
pub made_at : (old : Stage) (seen : Nodes) (id : List ℕ) (place : ℕ) (before : Node MemKeeper) (made : world.Node → Type 0) (played : world.World)
    → seen ≡ old.nodes.items → IsPlaced id seen place → before ≡ slice_index_or old.nodes.items place before
    → ((stood : world.Node) → Stands old.config before stood → made stood) → PlaysWorld old played → MadeAt played id made
made_at old seen id place before made played same placed is makes plays =
    let at = node_of old seen id place played same placed plays in
    record { stood = at.stood; found = at.found; is = makes at.stood (at.stands before is) }

-- a node that stands for another of its id
pub plays_with : (old : Stage) (id : List ℕ) (place : ℕ) (next : Node MemKeeper) (stood : world.Node) (played : world.World) → PlaysWorld old played
    → NodeAt old.config id old.nodes.items place played.nodes → (world.me_of stood).id ≡ id → Stands old.config next stood
    → PlaysWorld (with_node_at old place next) (world.with_node played stood)
plays_with old id place next stood played plays at named stands =
    record { nodes = at.put next stood named stands; apart = apart_stays stood played.nodes plays.apart }

-- A DELIVERY leaves the receiver who it is
answered_node : (delivery : Delivery) (at : ℕ × OutBatch) (answer : Result LoadAnswer PeerRefusal) → (answered delivery at answer).node ≡ delivery.node
answered_node delivery at (Ok (loads.Loaded place)) = refl
answered_node delivery at (Ok (loads.Ignored place)) = refl
answered_node delivery at (Ok loads.Again) = refl
answered_node delivery at (Ok (loads.Erred row rule)) = refl
answered_node delivery at (Ok (loads.Held batch row rule)) = refl
answered_node delivery at (Err refusal) = refl

loaded_me : (config : Config) (sender : State) (delivery : Delivery) (at : ℕ × OutBatch)
    → world.me_of (with_load delivery at (load_at config delivery.node sender at.1)).node ≡ world.me_of delivery.node
loaded_me config sender delivery at =
    let state = world.state_in config delivery.node in
    let prepared = prepared_batch config (way_from state sender.me.id) (doc_of_batch config sender at.1) in
    let called = load_at config delivery.node sender at.1 in
    ap world.me_of (answered_node (record delivery { node = called.node }) at called.answer)
    ∙ call_me peer.Fault delivery.node (load_act config state sender.me.id prepared) (load_answer config state sender.me.id prepared)

delivered_me : (config : Config) (sender : State) (delivery : Delivery) (batches : List (ℕ × OutBatch))
    → world.me_of (delivered_batches config sender delivery batches).node ≡ world.me_of delivery.node
delivered_me config sender delivery [] = refl
delivered_me config sender delivery (at ∷ batches) = on (λ other. delivered_me config sender other batches) (is_over delivery at.1)
  where
    on : ((other : Delivery) → world.me_of (delivered_batches config sender other batches).node ≡ world.me_of other.node) → (over : Bool)
        → world.me_of (delivered_batches config sender (cond over delivery (with_load delivery at (load_at config delivery.node sender at.1))) batches).node
        ≡ world.me_of delivery.node
    on rest true = rest delivery
    on rest false = rest (with_load delivery at (load_at config delivery.node sender at.1)) ∙ loaded_me config sender delivery at

confirmed_me : (config : Config) (stood : world.Node) (from : List ℕ) → world.me_of (confirm_at config stood from).node ≡ world.me_of stood
confirmed_me config stood from =
    call_me (λ (fault : NodeFault). fault) stood (confirm_act config (world.state_in config stood) from) (confirm_answer config (world.state_in config stood) from)

whole_me : (config : Config) (sender : State) (to : List ℕ) (parts : List MessagePart) (from channels : List ℕ) (stood : world.Node)
    → world.me_of (whole_delivery config sender to parts from channels stood).node ≡ world.me_of stood
whole_me config sender to parts from channels stood =
    delivered_me config sender (delivery_of (confirm_at config stood from)) (deliver_order channels (enumerate_from 0 (batches_in_parts sender to parts)))
    ∙ confirmed_me config stood from

-- WHAT IS TOLD of a delivery
told_of : (played next : world.World) (message : Message) (number : ℕ) (sender : State) (delivery : Delivery) (refusal : Option SyncRefusal)
    → next.replies ≡ played.replies
    → replied next message number (acks_in_order (enumerate_from 0 (batches_in_parts sender message.to message.parts)) delivery.acks) refusal
    ≡ delivery_told played message number (answer_of sender message.to message.parts delivery refusal) next
told_of played next message number sender delivery (Some refusal) same = refl
told_of played next message number sender delivery None same =
    let acks = acks_in_order (enumerate_from 0 (batches_in_parts sender message.to message.parts)) delivery.acks in
    ap (λ (l : List Reply). tells (record next { replies = next.replies ++ record { from = message.to; to = message.from; acks = acks } ∷ [] })
    (Delivering number (Ok (length l + 1, acks)))) same

-- an item at a place
item_at : {X : Type 0} (xs : List X) (place : ℕ) → place < length xs → (x : X) × (x ≡ slice_index_or xs place x)
item_at [] place within = absurd (omega (arith, within))
item_at (x ∷ xs) zero within = (x, refl)
item_at (x ∷ xs) (suc place) within = item_at xs place (omega (arith, within))

-- the receiver took it, or no way leads to it
took_by : (old : Stage) (to : List ℕ) (place : ℕ) (next : Node MemKeeper) (channels : List ℕ) (answer : Result (List Ack) SyncRefusal) (played : world.World)
    (message : Message) (number : ℕ) (sender : State) (at : NodeAt old.config to old.nodes.items place played.nodes) (may : Bool) → PlaysWorld old played
    → TakesIf may old.config sender message.to message.parts message.from channels at.stood (Stands old.config next) answer
    → Happens (with_node_at old place next) played
    (cond may (delivered_at old.config played number message channels sender at.stood) (tells played (Delivering number (Err NoWay))))
    (told_or (delivery_told played message number) (Some answer))
took_by old to place next channels answer played message number sender at false plays takes = record {
  next = played;
  nodes = record { messages = refl; replies = refl };
  plays = record { nodes = at.stay next takes.0; apart = plays.apart };
  happens = ap (λ (a : Result (List Ack) SyncRefusal). delivery_told played message number a played) (sym takes.1);
}
took_by old to place next channels answer played message number sender at true plays takes =
    let whole : Delivery = whole_delivery old.config sender message.to message.parts message.from channels at.stood in
    record {
      next = world.with_node played whole.node;
      nodes = record { messages = refl; replies = refl };
      plays = plays_with old to place next whole.node played plays at
          (ap (λ own. own.id) (whole_me old.config sender message.to message.parts message.from channels at.stood) ∙ at.called) takes.0;
      happens = told_of played (world.with_node played whole.node) message number sender whole whole.refusal refl
          ∙ ap (λ (a : Result (List Ack) SyncRefusal). delivery_told played message number a (world.with_node played whole.node)) (sym takes.1);
    }

-- a message goes between two nodes
pub has_delivered : (old : Stage) (seen : Nodes) (from to : List ℕ) (place sending : ℕ) (before next : Node MemKeeper) (text channels : List ℕ)
    (answer : Result (List Ack) SyncRefusal) (played : world.World) (message : Message) → IsStage old → All (HasFewKeys old.config) old.config.transforms
    → seen ≡ old.nodes.items → IsPlaced from seen sending → IsPlaced to seen place → before ≡ slice_index_or old.nodes.items place before
    → ((config : Config) (stood : world.Node) (sender : State) (to : List ℕ) (parts : List MessagePart) → Stands config before stood
    → IsTextOf config sender to parts from text → Takes config sender to parts from channels stood (Stands config next) answer)
    → PlaysWorld old played → message.from ≡ from → message.to ≡ to
    → HasDelivered old (with_node_at old place next) played message text channels (Some answer)
has_delivered old seen from to place sending before next text channels answer played message stage few same sent placed is takes plays from_is to_is number written =
    let first = node_of old seen from sending played same sent plays in
    let at = node_of old seen to place played same placed plays in
    let sender : State = world.state_in old.config first.stood in
    let own = item_at old.nodes.items sending (subst (λ (l : Nodes). sending < length l) same sent.within) in
    let there : world.node_at played message.from ≡ Some first.stood = subst (λ (id : List ℕ). world.node_at played id ≡ Some first.stood) (sym from_is) first.found in
    let here : world.node_at played message.to ≡ Some at.stood = subst (λ (id : List ℕ). world.node_at played id ≡ Some at.stood) (sym to_is) at.found in
    let is_text : IsTextOf old.config sender message.to message.parts from text = record {
      config_sound = stage.config;
      few = few;
      sound = (first.stands own.0 own.1).keeps.sound;
      from_is = sym first.called;
      text_is = written first.stood there ∙ ap (λ (id : List ℕ). text_of id (message_docs old.config sender message)) (from_is ∙ sym first.called);
    } in
    subst (λ (h : Happened). Happens (with_node_at old place next) played h (told_or (delivery_told played message number) (Some answer)))
    (sym (ap (λ o. delivered_between old.config played number message channels o (world.node_at played message.to)) there
    ∙ ap (λ o. delivered_between old.config played number message channels (Some first.stood) o) here))
    (took_by old to place next channels answer played message number sender at (may_take old.config (world.state_in old.config at.stood) message.from) plays
    (subst (λ (id : List ℕ). Takes old.config sender message.to message.parts id channels at.stood (Stands old.config next) answer) (sym from_is)
    (takes old.config at.stood sender message.to message.parts (at.stands before is) is_text)))

-- or one of them isn't there
pub none_delivered : (old : Stage) (text channels : List ℕ) (played : world.World) (message : Message) → PlaysWorld old played
    → Either (world.node_at played message.from ≡ None) (world.node_at played message.to ≡ None)
    → HasDelivered old old played message text channels None
none_delivered old text channels played message plays (left none) number written = record {
  next = played;
  nodes = record { messages = refl; replies = refl };
  plays = plays;
  happens = ap (λ o. delivered_between old.config played number message channels o (world.node_at played message.to)) none;
}
none_delivered old text channels played message plays (right none) number written = record {
  next = played;
  nodes = record { messages = refl; replies = refl };
  plays = plays;
  happens = ap (λ o. delivered_between old.config played number message channels (world.node_at played message.from) o) none
      ∙ quiet_from (world.node_at played message.from);
}
  where
    quiet_from : (sender : Option world.Node) → delivered_between old.config played number message channels sender None ≡ quiet played
    quiet_from None = refl
    quiet_from (Some sender) = refl

-- A REPLY comes back to the node that sent its message
confirmed_by : (config : Config) (played : world.World) (number : ℕ) (reply : Reply) (called : Called (Unit {0}) NodeFault) (end : Result (Unit {0}) NodeFault)
    → confirmed config played number reply called end
    ≡ tells (world.with_node played (taken_after config reply called.node end).node) (Answering number (taken_after config reply called.node end).answer)
confirmed_by config played number reply called (Ok done) = refl
confirmed_by config played number reply called (Err fault) = refl

taken_me : (config : Config) (reply : Reply) (node : world.Node) (end : Result (Unit {0}) NodeFault) → world.me_of (taken_after config reply node end).node ≡ world.me_of node
taken_me config reply node (Ok done) =
    call_me acks.Fault node (acks_act config (world.state_in config node) reply.from reply.acks) (acks_answer config (world.state_in config node) reply.from reply.acks)
taken_me config reply node (Err fault) = refl

answered_by : (old : Stage) (to : List ℕ) (place : ℕ) (next : Node MemKeeper) (answer : Result ℕ AckRefusal) (played : world.World) (reply : Reply) (number : ℕ)
    (at : NodeAt old.config to old.nodes.items place played.nodes) (may : Bool) → PlaysWorld old played
    → AnswersIf may old.config at.stood reply (Stands old.config next) answer
    → Happens (with_node_at old place next) played
    (cond may (confirmed old.config played number reply (confirm_at old.config at.stood reply.from) (confirm_at old.config at.stood reply.from).answer)
    (tells played (Answering number (Err acks.UnknownNode))))
    (told_or (answer_told number) (Some answer))
answered_by old to place next answer played reply number at false plays answers = record {
  next = played;
  nodes = record { messages = refl; replies = refl };
  plays = record { nodes = at.stay next answers.0; apart = plays.apart };
  happens = ap (λ (a : Result ℕ AckRefusal). answer_told number a played) (sym answers.1);
}
answered_by old to place next answer played reply number at true plays answers =
    let called = confirm_at old.config at.stood reply.from in
    let taken = taken_at old.config at.stood reply in
    record {
      next = world.with_node played taken.node;
      nodes = record { messages = refl; replies = refl };
      plays = plays_with old to place next taken.node played plays at
          (ap (λ own. own.id) (taken_me old.config reply called.node called.answer ∙ confirmed_me old.config at.stood reply.from) ∙ at.called) answers.0;
      happens = confirmed_by old.config played number reply called called.answer
          ∙ ap (λ (a : Result ℕ AckRefusal). answer_told number a (world.with_node played taken.node)) (sym answers.1);
    }

pub has_answered : (old : Stage) (seen : Nodes) (place : ℕ) (before next : Node MemKeeper) (answer : Result ℕ AckRefusal) (played : world.World) (reply : Reply)
    (to : List ℕ) → seen ≡ old.nodes.items → IsPlaced to seen place → to ≡ reply.to → before ≡ slice_index_or old.nodes.items place before
    → ((config : Config) (stood : world.Node) → Stands config before stood → Answers config stood reply (Stands config next) answer)
    → PlaysWorld old played → HasAnswered old (with_node_at old place next) played reply (Some answer)
has_answered old seen place before next answer played reply to same placed to_is is answers plays number =
    let at = node_of old seen to place played same placed plays in
    let here : world.node_at played reply.to ≡ Some at.stood = subst (λ (id : List ℕ). world.node_at played id ≡ Some at.stood) to_is at.found in
    subst (λ (h : Happened). Happens (with_node_at old place next) played h (told_or (answer_told number) (Some answer)))
    (sym (ap (λ o. answered_at old.config played number reply o) here))
    (answered_by old to place next answer played reply number at (may_send old.config (world.state_in old.config at.stood) reply.from) plays
    (answers old.config at.stood (at.stands before is)))

pub none_answered : (old : Stage) (played : world.World) (reply : Reply) → PlaysWorld old played → world.node_at played reply.to ≡ None
    → HasAnswered old old played reply None
none_answered old played reply plays none number = record {
  next = played;
  nodes = record { messages = refl; replies = refl };
  plays = plays;
  happens = ap (λ o. answered_at old.config played number reply o) none;
}

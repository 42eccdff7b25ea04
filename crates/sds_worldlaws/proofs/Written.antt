-- A message that was written is what its sender would write of the same batches later.
use Rattle.std.proofs.Common.{◌≡◌, ◌≢◌, ℕ, zero, suc, ◌+◌, ◌≤◌, Bool, true, false, cond, List, [], ◌∷◌, ◌++◌, length, map, Option, None, Some, refl, sym, ap, subst, ◌∙◌, arith, All, take, drop, append_assoc}
use Rattle.std.specs.List.{flat_map}
use Rattle.std.specs.Option.{option_map_or}
use Rattle.std.proofs.lemmas.List.{map-append}
use Rattle.std.proofs.lemmas.List.Concat.{flat_map-cons}
use Rattle.std.proofs.lemmas.List.{length-map}
use Rattle.sds_value.specs.declared.row.Peer.{Peer}
use Rattle.sds_types.specs.declared.batch.OutBatch.{OutBatch}
use Rattle.sds_types.specs.declared.config.Config.{Config}
use Rattle.sds_types.specs.declared.document.BatchDoc.{BatchDoc}
use Rattle.sds_types.specs.declared.message.Message.{Message}
use Rattle.sds_types.specs.declared.message.MessagePart.{MessagePart}
use Rattle.sds_types.specs.declared.world_event.WorldEvent.{WorldEvent}
use Rattle.sds_trade.proofs.Lists.{all_head, all_tail}
use Rattle.sds_trade.specs.rules.Sound.{IsSound}
use Rattle.sds_history.specs.history.Acts.{Act, History, State}
use Rattle.sds_history.specs.history.Documents.{doc_of_batch}
use Rattle.sds_history.specs.history.Messages.{batches_in_part, batches_in_parts, lane_made}
use Rattle.sds_history.specs.history.States.{state_of}
use Rattle.sds_history.specs.world.Calling.{after_act, after_call}
use Rattle.sds_history.specs.world.Worlds.{Node, World, has_id, me_of, new_node, node_at, state_in, with_new_node, with_node}
use Rattle.sds_nodelaws.specs.Calls.{Call, act_of, begun, called, called_all, with_made}
use Rattle.sds_nodelaws.proofs.Documents.{LaneGrows, lanes_grow}
use Rattle.sds_nodelaws.proofs.Held.{mapped}
use Rattle.sds_nodelaws.proofs.Items.{find_first}
use Rattle.sds_nodelaws.proofs.Lists.{Either, find_all, same_some}
use Rattle.sds_nodelaws.proofs.Lists.Either.{left, right}
use Rattle.sds_worldlaws.specs.Nodes.{world_after}
use Rattle.sds_worldlaws.specs.Stepping.{AreNew}
use Rattle.sds_worldlaws.specs.Written.{MessagesStayWritten, message_docs, written_in}
use Rattle.sds_worldlaws.proofs.CallSteps.{me_stays}
use Rattle.sds_worldlaws.proofs.Happens.{all_facts}
use Rattle.sds_worldlaws.proofs.Keeping.{Stays, one_event}
use Rattle.sds_worldlaws.proofs.Reached.{Reached}
use Rattle.sds_worldlaws.proofs.WorldFacts.{MessageOk, PartOk, WorldFacts, at_other, at_same, id_of_found, one_or_apart}

-- HISTORIES only get longer by calls
record Longer (config : Config) (old node : Node) : Type 0 where
  calls : List Call
  same : node.history ≡ called_all config old.history calls

record There (config : Config) (world : World) (id : List ℕ) (old : Node) : Type 0 where
  node : Node
  is : node_at world id ≡ Some node
  longer : Longer config old node

abbrev Extends : Config → World → World → Type 0
Extends config base world = (id : List ℕ) (old : Node) → node_at base id ≡ Some old → There config world id old

called_on : (config : Config) (old node : Node) (call : Call) → Longer config old node → Longer config old (after_call node (act_of config (state_in config node) call))
called_on config old node call longer = on (act_of config (state_in config node) call) refl
  where
    more : (act : Act) (faults : List Bool) → act_of config (state_in config node) call ≡ Some act
        → with_made node.history (Some act) ≡ called_all config old.history (call ∷ longer.calls)
    more act faults made = sym (ap (with_made node.history) made) ∙ ap (λ (h : History). called config h call) longer.same

    act_on : (act : Act) (faults : List Bool) → act_of config (state_in config node) call ≡ Some act → Longer config old (after_act node act faults)
    act_on act [] made = record { calls = call ∷ longer.calls; same = more act [] made }
    act_on act (true ∷ faults) made = record { calls = call ∷ longer.calls; same = more act faults made }
    act_on act (false ∷ faults) made = record { calls = longer.calls; same = longer.same }

    on : (made : Option Act) → act_of config (state_in config node) call ≡ made → Longer config old (after_call node made)
    on None made = longer
    on (Some act) made = act_on act node.faults made

-- a node in the place of one that is there
replaced : (config : Config) (base world : World) (id : List ℕ) (node new : Node) → node_at world id ≡ Some node → (me_of new).id ≡ id
    → ((old : Node) → Longer config old node → Longer config old new) → Extends config base world → Extends config base (with_node world new)
replaced config base world id node new is me longer extends other old found = on (one_or_apart id other)
  where
    on : Either (id ≡ other) (id ≢ other) → There config (with_node world new) other old
    on (left same) =
        let there : There config world other old = extends other old found in record {
          node = new;
          is = ap (node_at (with_node world new)) (sym same) ∙ at_same world id node new is me;
          longer = longer old (subst (Longer config old) (same_some there.node node (sym there.is ∙ (ap (node_at world) (sym same) ∙ is))) there.longer);
        }
    on (right apart) =
        let there : There config world other old = extends other old found in record {
          node = there.node;
          is = at_other world id other new me apart ∙ there.is;
          longer = there.longer;
        }

extends_stays : (config : Config) (base : World) → Stays config (Extends config base)
extends_stays config base = record {
  calls = λ world id node call is extends. replaced config base world id node (after_call node (act_of config (state_in config node) call)) is
      (ap (λ (p : Peer). p.id) (me_stays node (act_of config (state_in config node) call)) ∙ id_of_found world id node is)
      (λ old longer. called_on config old node call longer) extends;
  faults = λ world id node faults is extends. replaced config base world id node (record { history = node.history; faults = faults }) is (id_of_found world id node is)
      (λ old longer. record { calls = longer.calls; same = longer.same }) extends;
  news = λ world me extends id old found. let there : There config world id old = extends id old found in
      record { node = there.node; is = find_first (has_id id) world.nodes (new_node me ∷ []) there.node there.is; longer = there.longer };
  said = λ world messages replies extends id old found. let there : There config world id old = extends id old found in
      record { node = there.node; is = there.is; longer = there.longer };
}

extends_on : (config : Config) (noise : List ℕ) (older newer : List WorldEvent)
    → Extends config (world_after config noise older) (world_after config noise (newer ++ older))
extends_on config noise older [] = λ id old found. record { node = old; is = found; longer = record { calls = []; same = refl } }
extends_on config noise older (e ∷ newer) =
    one_event config (Extends config (world_after config noise older)) (extends_stays config (world_after config noise older)) noise (world_after config noise (newer ++ older)) e
    (extends_on config noise older newer)

-- LISTS
map_take : {X Y : Type 0} (f : X → Y) (n : ℕ) (xs : List X) → map f (take n xs) ≡ take n (map f xs)
map_take f zero [] = refl
map_take f zero (x ∷ xs) = refl
map_take f (suc n) [] = refl
map_take f (suc n) (x ∷ xs) = ap (λ ys. f x ∷ ys) (map_take f n xs)

map_drop : {X Y : Type 0} (f : X → Y) (n : ℕ) (xs : List X) → map f (drop n xs) ≡ drop n (map f xs)
map_drop f zero [] = refl
map_drop f zero (x ∷ xs) = refl
map_drop f (suc n) [] = refl
map_drop f (suc n) (x ∷ xs) = map_drop f n xs

take_first : {X : Type 0} (n : ℕ) (xs ys : List X) → n ≤ length xs → take n (xs ++ ys) ≡ take n xs
take_first zero [] ys less = take_none ys
  where
    take_none : {X : Type 0} (l : List X) → take 0 l ≡ []
    take_none [] = refl
    take_none (z ∷ zs) = refl
take_first zero (x ∷ xs) ys less = refl
take_first (suc n) [] ys less = absurd (omega (arith, less))
take_first (suc n) (x ∷ xs) ys less = ap (λ l. x ∷ l) (take_first n xs ys (omega (arith, less)))

part_first : {X : Type 0} (start count : ℕ) (xs ys : List X) → start + count ≤ length xs → take count (drop start (xs ++ ys)) ≡ take count (drop start xs)
part_first zero count xs ys less = ap (take count) (drop_none (xs ++ ys)) ∙ (take_first count xs ys (omega (arith, less)) ∙ ap (take count) (sym (drop_none xs)))
  where
    drop_none : {X : Type 0} (l : List X) → drop 0 l ≡ l
    drop_none [] = refl
    drop_none (z ∷ zs) = refl
part_first (suc start) count [] ys less = absurd (omega (arith, less))
part_first (suc start) count (x ∷ xs) ys less = part_first start count xs ys (omega (arith, less))

-- MESSAGES. The documents of a part
part_docs : (config : Config) (before now : State) (to : List ℕ) (part : MessagePart) → LaneGrows config now before to part.channel
    → part.start + part.count ≤ length (lane_made before to part.channel)
    → map (doc_of_batch config now) (batches_in_part now to part) ≡ map (doc_of_batch config before) (batches_in_part before to part)
part_docs config before now to part grows whole =
    map_take (doc_of_batch config now) part.count (drop part.start (lane_made now to part.channel))
    ∙ (ap (take part.count) (map_drop (doc_of_batch config now) part.start (lane_made now to part.channel))
    ∙ (ap (λ ds. take part.count (drop part.start ds)) grows.same
    ∙ (part_first part.start part.count (map (doc_of_batch config before) (lane_made before to part.channel)) grows.extra
    (subst (λ n. part.start + part.count ≤ n) (sym (length-map (lane_made before to part.channel) (doc_of_batch config before))) whole)
    ∙ (ap (take part.count) (sym (map_drop (doc_of_batch config before) part.start (lane_made before to part.channel)))
    ∙ sym (map_take (doc_of_batch config before) part.count (drop part.start (lane_made before to part.channel)))))))

parts_docs : (config : Config) (before now : State) (to : List ℕ) (parts : List MessagePart) → ((channel : ℕ) → LaneGrows config now before to channel)
    → All (λ (part : MessagePart). part.start + part.count ≤ length (lane_made before to part.channel)) parts
    → map (doc_of_batch config now) (batches_in_parts now to parts) ≡ map (doc_of_batch config before) (batches_in_parts before to parts)
parts_docs config before now to [] grows whole = refl
parts_docs config before now to (part ∷ parts) grows whole =
    ap (map (doc_of_batch config now)) (flat_map-cons (batches_in_part now to) part parts)
    ∙ (map-append (doc_of_batch config now) (batches_in_part now to part) (batches_in_parts now to parts)
    ∙ (ap (λ ds. ds ++ map (doc_of_batch config now) (batches_in_parts now to parts)) (part_docs config before now to part (grows part.channel)
    (all_head (λ (p : MessagePart). p.start + p.count ≤ length (lane_made before to p.channel)) part parts whole))
    ∙ (ap (λ ds. map (doc_of_batch config before) (batches_in_part before to part) ++ ds) (parts_docs config before now to parts grows
    (all_tail (λ (p : MessagePart). p.start + p.count ≤ length (lane_made before to p.channel)) part parts whole))
    ∙ (sym (map-append (doc_of_batch config before) (batches_in_part before to part) (batches_in_parts before to parts))
    ∙ ap (map (doc_of_batch config before)) (sym (flat_map-cons (batches_in_part before to) part parts))))))

-- calls after calls
called_twice : (config : Config) (history : History) (first second : List Call)
    → called_all config (called_all config history first) second ≡ called_all config history (second ++ first)
called_twice config history first [] = refl
called_twice config history first (call ∷ second) = ap (λ (h : History). called config h call) (called_twice config history first second)

lane_grows : (config : Config) (old node : Node) (to : List ℕ) (channel : ℕ) → IsSound config → Reached config old → Longer config old node
    → LaneGrows config (state_in config node) (state_in config old) to channel
lane_grows config old node to channel sound reached longer =
    subst (λ (h : History). LaneGrows config (state_of config h) (state_in config old) to channel)
    (sym (longer.same ∙ (ap (λ (h : History). called_all config h longer.calls) reached.same ∙ called_twice config (begun reached.me) reached.calls longer.calls)))
    (subst (λ (h : History). LaneGrows config (state_of config (called_all config (begun reached.me) (longer.calls ++ reached.calls))) (state_of config h) to channel)
    (sym reached.same) (lanes_grow config sound reached.me reached.calls longer.calls to channel))

message_docs_stay : (config : Config) (older now : World) (message : Message) → IsSound config → WorldFacts config older → Extends config older now
    → MessageOk config older message → written_in config now message ≡ written_in config older message
message_docs_stay config older now message sound facts extends ok =
    let there : There config now message.from ok.from = extends message.from ok.from ok.is_from in
    ap (λ (found : Option Node). option_map_or (λ (sender : Node). message_docs config (state_in config sender) message) found []) there.is
    ∙ (parts_docs config (state_in config ok.from) (state_in config there.node) message.to message.parts
    (λ channel. lane_grows config ok.from there.node message.to channel sound (find_all (Reached config) (has_id message.from) older.nodes ok.from facts.reached ok.is_from) there.longer)
    (mapped (PartOk config (state_in config ok.from) (state_in config ok.to))
    (λ (part : MessagePart). part.start + part.count ≤ length (lane_made (state_in config ok.from) message.to part.channel)) message.parts
    (λ part is. subst (λ i. part.start + part.count ≤ length (lane_made (state_in config ok.from) i part.channel)) (id_of_found older message.to ok.to ok.is_to) is.whole) ok.parts)
    ∙ ap (λ (found : Option Node). option_map_or (λ (sender : Node). message_docs config (state_in config sender) message) found []) (sym ok.is_from))

pub messages_stay_written : MessagesStayWritten
messages_stay_written config sound noise older newer new =
    let facts : WorldFacts config (world_after config noise older) = all_facts config noise older sound new in
    mapped (MessageOk config (world_after config noise older))
    (λ (message : Message). written_in config (world_after config noise (newer ++ older)) message ≡ written_in config (world_after config noise older) message)
    (world_after config noise older).messages
    (λ message ok. message_docs_stay config (world_after config noise older) (world_after config noise (newer ++ older)) message sound facts
    (extends_on config noise older newer) ok) facts.messages

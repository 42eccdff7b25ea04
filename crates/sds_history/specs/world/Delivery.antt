-- The batches of a message are loaded one after another at its receiver, and answered.
use Rattle.std.specs.Prelude.{ℕ, Bool, ◌||◌, ◌==◌, if◌then◌else◌, List, [], ◌∷◌, ◌++◌, map, Option, None, Some, is_some, Result, Ok, Err}
use Rattle.std.specs.List.{filter_map, find, list_any}
use Rattle.sds_types.specs.Rules.{number_of}
use Rattle.sds_types.specs.declared.ack.Ack.{Ack}
use Rattle.sds_types.specs.declared.batch.OutBatch.{OutBatch}
use Rattle.sds_types.specs.declared.config.Config.{Config}
use Rattle.sds_types.specs.declared.load_answer.LoadAnswer.{LoadAnswer}
use Rattle.sds_types.specs.declared.load_answer.LoadAnswer.TheVariants as answer
use Rattle.sds_types.specs.declared.load_answer.PeerRefusal.{PeerRefusal}
use Rattle.sds_types.specs.declared.load_answer.PeerRefusal.TheVariants as peer
use Rattle.sds_types.specs.declared.sync.SyncRefusal.{SyncRefusal}
use Rattle.sds_types.specs.declared.sync.SyncRefusal.TheVariants.{NoWay, Fault}
use Rattle.sds_trade.specs.rules.Outcomes.{prepared_batch}
use Rattle.sds_history.specs.history.Acts.{State}
use Rattle.sds_history.specs.history.Documents.{doc_of_batch, way_from}
use Rattle.sds_history.specs.history.Loads.{load_act, load_answer}
use Rattle.sds_history.specs.world.Calling.{Called, call}
use Rattle.sds_history.specs.world.Worlds.{Node, state_in}

-- a delivery on its way: the receiver, the acks of the batches so far, each with the batch's place
-- in the message, the channels that are held, and why it goes on no more
pub record Delivery : Type 0 where
  pub node : Node
  pub acks : List (ℕ × Ack)
  pub held : List ℕ
  pub refusal : Option SyncRefusal

-- a batch is loaded at the receiver
abbrev pub load_at : Config → Node → State → OutBatch → Called LoadAnswer PeerRefusal
load_at config node sender batch =
    let state = state_in config node in
    let prepared = prepared_batch config (way_from state sender.me.id)
    (doc_of_batch config sender batch) in
    call peer.Fault node (load_act config state sender.me.id prepared)
    (load_answer config state sender.me.id prepared)

abbrev pub ack_of : OutBatch → Option (ℕ × ℕ) → Ack
ack_of batch error = record { batch = batch.id; error = error }

abbrev pub with_ok : Delivery → ℕ × OutBatch → Delivery
with_ok delivery at =
    record delivery { acks = delivery.acks ++ (at.0, ack_of at.1 None) ∷ [] }

-- the rest of a channel isn't loaded
abbrev pub with_held : Delivery → ℕ → Delivery
with_held delivery channel = record delivery { held = channel ∷ delivery.held }

abbrev pub with_error : Delivery → ℕ × OutBatch → ℕ × ℕ → Delivery
with_error delivery at error = with_held
    (record delivery { acks = delivery.acks ++ (at.0, ack_of at.1 (Some error)) ∷ [] })
    at.1.channel

abbrev pub sync_refusal : PeerRefusal → SyncRefusal
sync_refusal peer.UnknownNode = NoWay
sync_refusal (peer.Fault fault) = Fault fault

-- the delivery after a batch's answer
abbrev pub answered : Delivery → ℕ × OutBatch → Result LoadAnswer PeerRefusal → Delivery
answered delivery at (Ok (answer.Loaded place)) = with_ok delivery at
answered delivery at (Ok (answer.Ignored place)) = with_ok delivery at
answered delivery at (Ok answer.Again) = with_ok delivery at
answered delivery at (Ok (answer.Erred row rule)) =
    with_error delivery at (row, number_of rule)
answered delivery at (Ok (answer.Held batch row rule)) = with_held delivery at.1.channel
answered delivery at (Err refusal) =
    record delivery { refusal = Some (sync_refusal refusal) }

-- a batch isn't loaded where its channel is held or the delivery goes on no more
abbrev pub is_over : Delivery → OutBatch → Bool
is_over delivery batch = is_some delivery.refusal
    || list_any (λ (channel : ℕ). channel == batch.channel) delivery.held

abbrev pub with_load : Delivery → ℕ × OutBatch → Called LoadAnswer PeerRefusal → Delivery
with_load delivery at called =
    answered (record delivery { node = called.node }) at called.answer

abbrev pub delivered_batches : Config → State → Delivery → List (ℕ × OutBatch) → Delivery
delivered_batches config sender delivery [] = delivery
delivered_batches config sender delivery (at ∷ batches) = delivered_batches config sender
    (if is_over delivery at.1 then delivery
    else with_load delivery at (load_at config delivery.node sender at.1)) batches

-- the acks in the order of the message
abbrev pub ack_at : List (ℕ × Ack) → ℕ → Option (ℕ × Ack)
ack_at acks place = find (λ (at : ℕ × Ack). at.0 == place) acks

abbrev pub acks_in_order : List (ℕ × OutBatch) → List (ℕ × Ack) → List Ack
acks_in_order batches acks = map (λ (at : ℕ × Ack). at.1)
    (filter_map (λ (at : ℕ × OutBatch). ack_at acks at.0) batches)

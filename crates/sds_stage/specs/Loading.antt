-- A batch of a document that came from a node, loaded at another.
use Rattle.std.specs.Prelude.{◌≡◌, ℕ, List, map, Option}
use Rattle.sds_outside.specs.declared.mem_keeper.MemKeeper.{MemKeeper}
use Rattle.sds_types.specs.declared.ack.Ack.{Ack}
use Rattle.sds_types.specs.declared.batch.OutBatch.{OutBatch}
use Rattle.sds_types.specs.declared.config.Config.{Config}
use Rattle.sds_types.specs.declared.document.BatchDoc.{BatchDoc}
use Rattle.sds_types.specs.declared.load_answer.LoadAnswer.{LoadAnswer}
use Rattle.sds_types.specs.declared.load_answer.PeerRefusal.{PeerRefusal}
use Rattle.sds_types.specs.declared.load_answer.PeerRefusal.TheVariants as peer
use Rattle.sds_types.specs.declared.sync.SyncRefusal.{SyncRefusal}
use Rattle.sds_trade.specs.rules.Outcomes.{prepared_batch}
use Rattle.sds_history.specs.history.Acts.{State}
use Rattle.sds_history.specs.history.Documents.{doc_of_batch, way_from}
use Rattle.sds_history.specs.history.Loads.{load_act, load_answer}
use Rattle.sds_history.specs.world.Calling.{Called, call}
use Rattle.sds_history.specs.world.Delivery.{Delivery, delivered_batches}
use Rattle.sds_history.specs.world.Worlds.{Node, state_in}
use Rattle.sds_delivery.specs.Placing.{at_places}
use Rattle.sds_node.specs.declared.node.Node as nodes
use Rattle.sds_stage.specs.Standing.{Stands}

-- the document's batch is read for the receiver's tables and loaded: as a batch of the sender is
-- whose document it is
abbrev pub load_doc_at : Config → Node → List ℕ → BatchDoc → Called LoadAnswer PeerRefusal
load_doc_at config node from document =
    let state = state_in config node in
    let prepared = prepared_batch config (way_from state from) document in
    call peer.Fault node (load_act config state from prepared)
    (load_answer config state from prepared)

-- a delivery of these parts
abbrev pub delivery_with : Node → List (ℕ × Ack) → List ℕ → Option SyncRefusal → Delivery
delivery_with node acks held refusal =
    record { node = node; acks = acks; held = held; refusal = refusal }

-- documents and channels of these batches of a sender, whose id is this
pub record AreOf (config : Config) (sender : State) (batches : List OutBatch) (from : List ℕ)
    (documents : List BatchDoc) (channels : List ℕ) : Type 0 where
  pub from_is : from ≡ sender.me.id
  pub documents_are : documents ≡ map (doc_of_batch config sender) batches
  pub channels_are : channels ≡ map (λ (batch : OutBatch). batch.channel) batches

-- the delivery of the batches at places goes on, at a node and with these parts, by those that are
-- left
pub record GoesOn (config : Config) (sender : State) (batches : List OutBatch)
    (delivery : Delivery) (places : List ℕ) (node : nodes.Node MemKeeper) (acks : List (ℕ × Ack))
    (held : List ℕ) (refusal : Option SyncRefusal) (left : List ℕ) : Type 0 where
  pub stood : Node
  pub stands : Stands config node stood
  pub goes : delivered_batches config sender delivery (at_places batches places)
      ≡ delivered_batches config sender (delivery_with stood acks held refusal)
      (at_places batches left)

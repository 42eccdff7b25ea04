-- How a message that travels as text is delivered at a node.
use Rattle.std.specs.Prelude.{◌≡◌, ℕ, Bool, true, false, List, [], map, Option, None, Some, Result, Ok, Err}
use Rattle.std.specs.List.{All, enumerate_from}
use Rattle.sds_types.specs.declared.ack.Ack.{Ack}
use Rattle.sds_types.specs.declared.config.Config.{Config}
use Rattle.sds_types.specs.declared.message.MessagePart.{MessagePart}
use Rattle.sds_types.specs.declared.sync.SyncRefusal.{SyncRefusal}
use Rattle.sds_types.specs.declared.sync.SyncRefusal.TheVariants.{NoWay}
use Rattle.sds_batchtext.specs.Writing.{text_of}
use Rattle.sds_trade.specs.rules.Sound.{IsSound}
use Rattle.sds_doclaws.specs.Writable.{HasFewKeys}
use Rattle.sds_history.specs.history.Acts.{State}
use Rattle.sds_history.specs.history.Documents.{doc_of_batch}
use Rattle.sds_history.specs.history.Messages.{batches_in_parts}
use Rattle.sds_history.specs.history.SoundStates.{IsSoundState}
use Rattle.sds_history.specs.world.DeliverOrder.{deliver_order}
use Rattle.sds_history.specs.world.Delivering.{confirm_at, delivery_of}
use Rattle.sds_history.specs.world.Delivery.{Delivery, acks_in_order, delivered_batches}
use Rattle.sds_history.specs.world.Sending.{may_take}
use Rattle.sds_history.specs.world.Worlds.{Node, state_in}
use Rattle.sds_stage.specs.Loading.{delivery_with}

-- the text of a message of a sound node: a document of its batches in these parts of its lanes
pub record IsTextOf (config : Config) (sender : State) (to : List ℕ) (parts : List MessagePart)
    (from text : List ℕ) : Type 0 where
  pub config_sound : IsSound config
  pub few : All (HasFewKeys config) config.transforms
  pub sound : IsSoundState config sender
  pub from_is : from ≡ sender.me.id
  pub text_is : text
      ≡ text_of sender.me.id (map (doc_of_batch config sender) (batches_in_parts sender to parts))

-- the delivery of a message that goes on at a node
abbrev pub loads_from : Config → State → List ℕ → List MessagePart → List ℕ → Node → Delivery
loads_from config sender to parts channels node =
    delivered_batches config sender (delivery_with node [] [] None)
    (deliver_order channels (enumerate_from 0 (batches_in_parts sender to parts)))

-- the delivery of a message at a node that may take it
abbrev pub whole_delivery : Config → State → List ℕ → List MessagePart → List ℕ → List ℕ → Node
    → Delivery
whole_delivery config sender to parts from channels node = delivered_batches config sender
    (delivery_of (confirm_at config node from))
    (deliver_order channels (enumerate_from 0 (batches_in_parts sender to parts)))

-- what is answered of a delivery: its acks in the order of the message
abbrev pub answer_of : State → List ℕ → List MessagePart → Delivery → Option SyncRefusal
    → Result (List Ack) SyncRefusal
answer_of sender to parts delivery (Some refusal) = Err refusal
answer_of sender to parts delivery None =
    Ok (acks_in_order (enumerate_from 0 (batches_in_parts sender to parts)) delivery.acks)

-- a node that has confirmed the sender loads the batches
abbrev pub LoadsAll : Config → State → List ℕ → List MessagePart → List ℕ → Node
    → (Node → Type 0) → Result (List Ack) SyncRefusal → Type 0
LoadsAll config sender to parts channels node stands answer =
    stands (loads_from config sender to parts channels node).node
    × (answer ≡ answer_of sender to parts (loads_from config sender to parts channels node)
    (loads_from config sender to parts channels node).refusal)

-- a node took a message, or no way leads to it
abbrev pub TakesIf : Bool → Config → State → List ℕ → List MessagePart → List ℕ → List ℕ → Node
    → (Node → Type 0) → Result (List Ack) SyncRefusal → Type 0
TakesIf false config sender to parts from channels node stands answer =
    stands node × (answer ≡ Err NoWay)
TakesIf true config sender to parts from channels node stands answer =
    stands (whole_delivery config sender to parts from channels node).node
    × (answer ≡ answer_of sender to parts
    (whole_delivery config sender to parts from channels node)
    (whole_delivery config sender to parts from channels node).refusal)

abbrev pub Takes : Config → State → List ℕ → List MessagePart → List ℕ → List ℕ → Node
    → (Node → Type 0) → Result (List Ack) SyncRefusal → Type 0
Takes config sender to parts from channels node stands answer =
    TakesIf (may_take config (state_in config node) from) config sender to parts from channels
    node stands answer

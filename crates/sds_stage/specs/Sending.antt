-- How messages and replies go between the nodes of a stage.
use Rattle.std.specs.Prelude.{◌≡◌, ◌+◌, ℕ, Bool, true, false, List, ◌++◌, length, Option, None, Some, Result, Ok, Err}
use Rattle.sds_types.specs.declared.ack.Ack.{Ack}
use Rattle.sds_types.specs.declared.ack.AckRefusal.{AckRefusal}
use Rattle.sds_types.specs.declared.config.Config.{Config}
use Rattle.sds_types.specs.declared.link.Action.{Action}
use Rattle.sds_types.specs.declared.message.Message.{Message}
use Rattle.sds_types.specs.declared.message.Reply.{Reply}
use Rattle.sds_types.specs.declared.sync.SyncRefusal.{SyncRefusal}
use Rattle.sds_types.specs.declared.sync.SyncRefusal.TheVariants.{NoWay}
use Rattle.sds_batchtext.specs.Writing.{text_of}
use Rattle.sds_history.specs.history.Messages.{parts_of}
use Rattle.sds_history.specs.world.Answering.{answered_reply}
use Rattle.sds_history.specs.world.Delivering.{delivered, with_reply}
use Rattle.sds_history.specs.world.Exchanging.{may_exchange}
use Rattle.sds_history.specs.world.Happened.{Happened, Told, quiet, tells}
use Rattle.sds_history.specs.world.Happened.Told.{Answering, Delivering}
use Rattle.sds_history.specs.world.Sending.{batch_count, may_send}
use Rattle.sds_history.specs.world.Worlds.{Node, World, node_at, state_in}
use Rattle.sds_messages.specs.Texts.{written_message}
use Rattle.sds_screen.specs.Shown.{message_docs}
use Rattle.sds_stage.specs.Playing.{PlaysWorld}
use Rattle.sds_stage.specs.Ways.{leads_by}
use Rattle.sds_stage.specs.declared.stage.Stage.{Stage}

-- a stage plays some world
pub record IsPlaying (stage : Stage) : Type 0 where
  pub world : World
  pub plays : PlaysWorld stage world

-- the message that goes next to a peer was written, or no way leads there
pub record HasSent (config : Config) (stood : Node) (to : List ℕ) (channels before after : List ℕ)
    (count : ℕ) : Type 0 where
  pub way : may_send config (state_in config stood) to ≡ true
  pub count_is : count ≡ batch_count (parts_of config (state_in config stood) to channels)
  pub text_is : after ≡ before ++ written_message config (state_in config stood) to channels

abbrev pub Sends : Config → Node → List ℕ → List ℕ → List ℕ → List ℕ → Result ℕ SyncRefusal
    → Type 0
Sends config stood to channels before after (Ok count) =
    HasSent config stood to channels before after count
Sends config stood to channels before after (Err refusal) =
    (may_send config (state_in config stood) to ≡ false) × (refusal ≡ NoWay)

-- the node of the id made it
pub record MadeAt (world : World) (id : List ℕ) (made : Node → Type 0) : Type 0 where
  pub stood : Node
  pub found : node_at world id ≡ Some stood
  pub is : made stood

abbrev pub MakesMessage : Config → World → List ℕ → List ℕ → List ℕ → List ℕ → List ℕ
    → Option (Result ℕ SyncRefusal) → Type 0
MakesMessage config world from to channels before after None = node_at world from ≡ None
MakesMessage config world from to channels before after (Some answer) =
    MadeAt world from (λ stood. Sends config stood to channels before after answer)

-- a link of the kind leads from a node to a peer, or none does
abbrev pub Exchanges : Config → Node → List ℕ → Action → Bool → Type 0
Exchanges config stood to action answer =
    answer ≡ may_exchange (leads_by config action) (state_in config stood) to

abbrev pub AsksWay : Config → World → List ℕ → List ℕ → Action → Option Bool → Type 0
AsksWay config world from to action None = node_at world from ≡ None
AsksWay config world from to action (Some answer) =
    MadeAt world from (λ stood. Exchanges config stood to action answer)

-- A DELIVERY. The text is what the sender writes of the message
abbrev pub text_in : Config → Node → Message → List ℕ
text_in config sender message =
    text_of message.from (message_docs config (state_in config sender) message)

-- a world in which only nodes are others
pub record HasNodes (world next : World) : Type 0 where
  pub messages : next.messages ≡ world.messages
  pub replies : next.replies ≡ world.replies

-- something else happened at a node, and is told
pub record Happens (new : Stage) (world : World) (happening : Happened)
    (after : World → Happened) : Type 0 where
  pub next : World
  pub nodes : HasNodes world next
  pub plays : PlaysWorld new next
  pub happens : happening ≡ after next

abbrev pub delivery_told : World → Message → ℕ → Result (List Ack) SyncRefusal → World → Happened
delivery_told world message number (Err refusal) next =
    tells next (Delivering number (Err refusal))
delivery_told world message number (Ok acks) next =
    tells (with_reply next message acks)
    (Delivering number (Ok (length world.replies + 1, acks)))

abbrev pub told_or : {A : Type 0} → (A → World → Happened) → Option A → World → Happened
told_or told None world = quiet world
told_or told (Some answer) world = told answer world

-- whatever its number, a message goes as in the world, where its text is what its sender writes
abbrev pub HasDelivered : Stage → Stage → World → Message → List ℕ → List ℕ
    → Option (Result (List Ack) SyncRefusal) → Type 0
HasDelivered old new world message text channels answer = (number : ℕ)
    → ((sender : Node) → node_at world message.from ≡ Some sender
    → text ≡ text_in old.config sender message)
    → Happens new world (delivered old.config world number channels (Some message))
    (told_or (delivery_told world message number) answer)

-- A REPLY goes as in the world
abbrev pub answer_told : ℕ → Result ℕ AckRefusal → World → Happened
answer_told number answer next = tells next (Answering number answer)

abbrev pub HasAnswered : Stage → Stage → World → Reply → Option (Result ℕ AckRefusal) → Type 0
HasAnswered old new world reply answer = (number : ℕ)
    → Happens new world (answered_reply old.config world number (Some reply))
    (told_or (answer_told number) answer)

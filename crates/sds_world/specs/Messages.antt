-- What a rehearsal keeps and tells of messages and replies.
use Rattle.std.specs.Prelude.{◌≡◌, ◌+◌, ◌==◌, if◌then◌else◌, ℕ, List, [], ◌∷◌, ◌++◌, length, Option, None, Some, Result, Ok, Err}
use Rattle.sds_types.specs.declared.ack.Ack.{Ack}
use Rattle.sds_types.specs.declared.message.Reply.{Reply}
use Rattle.sds_types.specs.declared.sync.SyncRefusal.{SyncRefusal}
use Rattle.sds_history.specs.world.Exchanging.{exchanged}
use Rattle.sds_history.specs.world.Happened.{Told}
use Rattle.sds_history.specs.world.Happened.Told.{Delivering, Sending}
use Rattle.sds_history.specs.world.Sending.{sent}
use Rattle.sds_history.specs.world.Worlds.{World, node_at}
use Rattle.sds_screen.specs.Screen.{text_of_happened}
use Rattle.sds_world.specs.Playing.{PlaysWorld}
use Rattle.sds_world.specs.declared.rehearsal.Rehearsal.{Rehearsal}
use Rattle.sds_world.specs.declared.rehearsal.SentMessage.{SentMessage}

-- the message with a batch that was told last, and the reply
abbrev pub message_next : List Told → Option ℕ
message_next (Sending from to (Ok message) ∷ []) =
    if message.1 == 0 then None else Some message.0
message_next told = None

abbrev pub reply_next : List Told → Option ℕ
reply_next (Delivering number (Ok reply) ∷ []) = Some reply.0
reply_next told = None

-- a message that was written is kept, and told by its number and how many batches it has
abbrev pub sent_more : List SentMessage → List ℕ → List ℕ → List ℕ → Result ℕ SyncRefusal
    → List SentMessage
sent_more messages from to text (Ok count) =
    messages ++ record { from = from; to = to; text = text } ∷ []
sent_more messages from to text (Err refusal) = messages

abbrev pub sent_answer : List SentMessage → Result ℕ SyncRefusal → Result (ℕ × ℕ) SyncRefusal
sent_answer messages (Ok count) = Ok (length messages + 1, count)
sent_answer messages (Err refusal) = Err refusal

abbrev pub number_next : List SentMessage → Result ℕ SyncRefusal → Option ℕ
number_next messages (Ok count) = if count == 0 then None else Some (length messages + 1)
number_next messages (Err refusal) = None

-- the reply of a receiver to a sender
abbrev pub reply_from : List ℕ → List ℕ → Result (List Ack) SyncRefusal
    → Result Reply SyncRefusal
reply_from from to (Ok acks) = Ok (record { from = from; to = to; acks = acks })
reply_from from to (Err refusal) = Err refusal

-- a reply that was made is kept, and told by its number
abbrev pub replies_more : List Reply → Result Reply SyncRefusal → List Reply
replies_more replies (Ok reply) = replies ++ reply ∷ []
replies_more replies (Err refusal) = replies

abbrev pub reply_answer : List Reply → Result Reply SyncRefusal
    → Result (ℕ × List Ack) SyncRefusal
reply_answer replies (Ok reply) = Ok (length replies + 1, reply.acks)
reply_answer replies (Err refusal) = Err refusal

abbrev pub place_next : List Reply → Result Reply SyncRefusal → Option ℕ
place_next replies (Ok reply) = Some (length replies + 1)
place_next replies (Err refusal) = None

-- a message was sent, delivered and answered as far as it went
pub record HasExchanged (old new : Rehearsal) (before after from to : List ℕ) (world : World)
    : Type 0 where
  pub plays : PlaysWorld new (exchanged old.stage.config
      (sent old.stage.config world from to [] (node_at world from))).world
  pub writes : after ≡ before ++ text_of_happened old.stage.config (exchanged old.stage.config
      (sent old.stage.config world from to [] (node_at world from)))
  pub config : new.stage.config ≡ old.stage.config
  pub noise : new.stage.noise ≡ old.stage.noise

abbrev pub Exchanges : Rehearsal → Rehearsal → List ℕ → List ℕ → List ℕ → List ℕ → Type 0
Exchanges old new before after from to = (world : World) → PlaysWorld old world
    → HasExchanged old new before after from to world

-- A rehearsal plays a world: its nodes stand for those of the world, and it holds the world's
-- messages as texts, and its replies.
use Rattle.std.specs.Prelude.{◌≡◌, ℕ, IsTrue, ◌&&◌, List, ◌++◌, map}
use Rattle.std.specs.List.{All, list_all}
use Rattle.sds_value.specs.Names.{is_name_text}
use Rattle.sds_types.specs.declared.config.Config.{Config}
use Rattle.sds_types.specs.declared.message.Message.{Message}
use Rattle.sds_types.specs.declared.message.Reply.{Reply}
use Rattle.sds_types.specs.declared.world_event.WorldEvent.{WorldEvent}
use Rattle.sds_types.specs.declared.world_event.WorldEvent.TheVariants as event
use Rattle.sds_batchtext.specs.Writing.{text_of}
use Rattle.sds_history.specs.world.Events.{happened}
use Rattle.sds_history.specs.world.Worlds.{World}
use Rattle.sds_nodelaws.specs.Asked.{are_spelt, is_ack, is_named_peer, is_noise}
use Rattle.sds_doclaws.specs.Writable.{HasFewKeys, IsOfCharacters}
use Rattle.sds_worldlaws.specs.Nodes.{world_after}
use Rattle.sds_worldlaws.specs.Stepping.{AreNew, IsNew}
use Rattle.sds_worldlaws.specs.Written.{written_in}
use Rattle.sds_screen.specs.Screen.{text_of_happened}
use Rattle.sds_stage.specs.Playing as stage
use Rattle.sds_world.specs.declared.rehearsal.Rehearsal.{Rehearsal}
use Rattle.sds_world.specs.declared.rehearsal.SentMessage.{SentMessage}

-- a message as it travels: its text is what its sender writes of its batches
abbrev pub sent_of : Config → World → Message → SentMessage
sent_of config world message = record {
  from = message.from;
  to = message.to;
  text = text_of message.from (written_in config world message);
}

-- a world that events have made, in which each new node has an id of its own
pub record IsReached (config : Config) (noise : List ℕ) (world : World) : Type 0 where
  pub events : List WorldEvent
  pub new : AreNew config noise events
  pub made : world ≡ world_after config noise events

pub record PlaysWorld (rehearsal : Rehearsal) (world : World) : Type 0 where
  pub stage : stage.PlaysWorld rehearsal.stage world
  pub messages : rehearsal.messages.items
      ≡ map (sent_of rehearsal.stage.config world) world.messages
  pub replies : rehearsal.replies.items ≡ world.replies
  pub reached : IsReached rehearsal.stage.config rehearsal.stage.noise world

-- a rehearsal plays some world, under a sound configuration whose batches have written forms; its
-- replies tell of errors by the rules' numbers
pub record IsRehearsal (rehearsal : Rehearsal) : Type 0 where
  pub stage : stage.IsStage rehearsal.stage
  pub few : All (HasFewKeys rehearsal.stage.config) rehearsal.stage.config.transforms
  pub noise : IsTrue (is_noise rehearsal.stage.noise)
  pub replies : All (λ (reply : Reply). IsTrue (list_all is_ack reply.acks))
      rehearsal.replies.items
  pub world : World
  pub plays : PlaysWorld rehearsal world

-- what an event is asked with: names, and rows of characters
abbrev pub IsAskedEvent : WorldEvent → Type 0
IsAskedEvent (event.Node me) = IsTrue (is_named_peer me)
IsAskedEvent (event.Open at group external) =
    IsTrue (is_name_text group && is_name_text external)
IsAskedEvent (event.Write node writer number rows) =
    IsTrue (is_name_text writer && are_spelt rows)
IsAskedEvent other = Unit {0}

-- an event that is about nodes alone: no message or reply is made
abbrev pub IsOfNodes : WorldEvent → Type 0
IsOfNodes (event.Send from to channels) = ⊥
IsOfNodes (event.Deliver message channels) = ⊥
IsOfNodes (event.Answer reply) = ⊥
IsOfNodes (event.Push from to) = ⊥
IsOfNodes (event.Pull to from) = ⊥
IsOfNodes (event.Wire message) = ⊥
IsOfNodes other = Unit {0}

-- an event goes as in the world, what it prints is written, and the configuration and the noise
-- stay
pub record HasPlayed (old new : Rehearsal) (before after : List ℕ) (world : World)
    (event : WorldEvent) : Type 0 where
  pub plays : PlaysWorld new (happened old.stage.config old.stage.noise world event).world
  pub writes : after ≡ before ++ text_of_happened old.stage.config
      (happened old.stage.config old.stage.noise world event)
  pub config : new.stage.config ≡ old.stage.config
  pub noise : new.stage.noise ≡ old.stage.noise

abbrev pub Plays : Rehearsal → Rehearsal → List ℕ → List ℕ → WorldEvent → Type 0
Plays old new before after event = (world : World) → PlaysWorld old world → IsNew world event
    → HasPlayed old new before after world event

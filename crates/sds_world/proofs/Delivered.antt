-- Messages are delivered and replies answered by a rehearsal as in the world that it plays.
use Rattle.std.proofs.Common.{◌≡◌, ◌+◌, ◌-◌, ℕ, Bool, true, false, ◌==◌, cond, List, [], ◌∷◌, ◌++◌, length, map, Option, None, Some, Result, refl, sym, ap, subst, ◌∙◌, append-nil, All, slice_get}
use Rattle.std.specs.Prelude.{Ok, Err, IfOk, IsTrue, is_some}
use Rattle.std.specs.List.{list_all}
use Rattle.std.specs.Option.{option_map_or}
use Rattle.std.proofs.lemmas.List.Elements.{All-append, All-cons, All-nil}
use Rattle.sds_nodelaws.specs.Asked.{is_ack}
use Rattle.sds_trade.specs.rules.Sound.{IsSound}
use Rattle.sds_types.specs.declared.ack.Ack.{Ack}
use Rattle.sds_types.specs.declared.ack.AckRefusal.{AckRefusal}
use Rattle.sds_types.specs.declared.config.Config.{Config}
use Rattle.sds_types.specs.declared.message.Message.{Message}
use Rattle.sds_types.specs.declared.message.Reply.{Reply}
use Rattle.sds_types.specs.declared.sync.SyncRefusal.{SyncRefusal}
use Rattle.sds_types.specs.declared.world_event.WorldEvent.TheVariants as event
use Rattle.sds_batchtext.specs.Writing.{text_of}
use Rattle.sds_history.specs.world.Answering.{answered_reply}
use Rattle.sds_history.specs.world.Delivering.{delivered, with_reply}
use Rattle.sds_history.specs.world.Happened.{Happened, Told, quiet, tells}
use Rattle.sds_history.specs.world.Happened.Told.{Answering, Bytes, Delivering}
use Rattle.sds_history.specs.world.Worlds.{Node, World, message_of, node_at, reply_of, state_in}
use Rattle.sds_screen.specs.Lines.{answering_line, delivering_line, wire_of}
use Rattle.sds_screen.specs.Causes.{is_node}
use Rattle.sds_screen.specs.Shown.{message_text}
use Rattle.sds_worldlaws.proofs.WorldFacts.{id_of_found}
use Rattle.sds_screen.specs.Screen.{text_of_happened}
use Rattle.sds_stage.specs.Playing as stage
use Rattle.sds_stage.specs.Sending as stages
use Rattle.sds_stage.specs.declared.stage.Stage.{Stage}
use Rattle.sds_worldlaws.specs.Written.{message_docs}
use Rattle.sds_world.specs.Messages.{place_next, reply_from, replies_more, reply_answer, reply_next}
use Rattle.sds_world.specs.Playing.{HasPlayed, PlaysWorld, sent_of}
use Rattle.sds_world.specs.declared.rehearsal.Rehearsal.{Rehearsal}
use Rattle.sds_world.specs.declared.rehearsal.SentMessage.{SentMessage}
use Rattle.sds_world.proofs.Messaged.{Holds, StaysSame, goes_by, message_at, no_message, one_line, sent_config, sent_noise, tells_on, the_same}

-- THE TEXT of a message is what its sender writes of it
pub sent_text : (config : Config) (played : World) (message : SentMessage) (made : Message) → message ≡ sent_of config played made
    → (sender : Node) → node_at played made.from ≡ Some sender → message.text ≡ stages.text_in config sender made
sent_text config played message made is sender found =
    ap (λ (m : SentMessage). m.text) is
    ∙ ap (λ (o : Option Node). text_of made.from (option_map_or (λ (s : Node). message_docs config (state_in config s) made) o [])) found

-- A REPLY as its message's receiver makes it
abbrev pub reply_to : Message → Result (List Ack) SyncRefusal → Result Reply SyncRefusal
reply_to message answer = reply_from message.to message.from answer

same_count : (old : Rehearsal) (played : World) → PlaysWorld old played → length old.replies.items ≡ length played.replies
same_count old played plays = ap length plays.replies

at_message : (config : Config) (played : World) (number : ℕ) (channels : List ℕ) (message : Message) → message_of played number ≡ Some message
    → delivered config played number channels (message_of played number) ≡ delivered config played number channels (Some message)
at_message config played number channels message found = ap (λ o. delivered config played number channels o) found

pub delivers_none : (old : Rehearsal) (played : World) (number : ℕ) (channels before : List ℕ) → IsSound old.stage.config → PlaysWorld old played
    → slice_get old.messages.items (number - 1) ≡ None → HasPlayed old old before before played (event.Deliver number channels)
delivers_none old played number channels before sound plays none =
    tells_on old old old.stage played played (event.Deliver number channels) [] before before [] sound plays tt
    (record { nodes = refl; messages_are = refl; replies_are = refl }) (record { config = refl; noise = refl })
    (ap (λ o. delivered old.stage.config played number channels o) (no_message old played number plays none)) plays.stage (the_same played) refl (sym (append-nil before))

-- without an answer: the sender or the receiver isn't there
pub delivers_nowhere : (old new : Rehearsal) (next : Stage) (played : World) (number : ℕ) (channels before : List ℕ) (message : SentMessage) (made : Message) → IsSound old.stage.config
    → PlaysWorld old played → Holds old new next old.messages.items old.replies.items → StaysSame old next → message_of played number ≡ Some made
    → stages.Happens next played (delivered old.stage.config played number channels (Some made)) (stages.told_or (stages.delivery_told played made number) None)
    → HasPlayed old new before before played (event.Deliver number channels)
delivers_nowhere old new next played number channels before message made sound plays holds same found happens =
    tells_on old new next played happens.next (event.Deliver number channels) [] before before [] sound plays tt holds same
    (at_message old.stage.config played number channels made found ∙ happens.happens) happens.plays happens.nodes refl (sym (append-nil before))

pub delivers_some : (old new : Rehearsal) (next : Stage) (played : World) (number : ℕ) (channels before after : List ℕ) (made : Message) (answer : Result (List Ack) SyncRefusal)
    → IsSound old.stage.config → PlaysWorld old played → Holds old new next old.messages.items (replies_more old.replies.items (reply_to made answer)) → StaysSame old next
    → message_of played number ≡ Some made
    → stages.Happens next played (delivered old.stage.config played number channels (Some made)) (stages.told_or (stages.delivery_told played made number) (Some answer))
    → after ≡ before ++ delivering_line number (reply_answer old.replies.items (reply_to made answer))
    → HasPlayed old new before after played (event.Deliver number channels)
delivers_some old new next played number channels before after made (Err refusal) sound plays holds same found happens writes =
    tells_on old new next played happens.next (event.Deliver number channels) (Delivering number (Err refusal) ∷ []) before after (delivering_line number (Err refusal))
    sound plays tt holds same (at_message old.stage.config played number channels made found ∙ happens.happens) happens.plays happens.nodes
    (one_line old.stage.config happens.next (Delivering number (Err refusal))) writes
delivers_some old new next played number channels before after made (Ok acks) sound plays holds same found happens writes =
    let reply : Reply = record { from = made.to; to = made.from; acks = acks } in
    let told : Told = Delivering number (Ok (length played.replies + 1, acks)) in
    goes_by old new played (event.Deliver number channels) (tells (with_reply happens.next made acks) told) [] before after sound plays tt
    (sent_config old new next old.messages.items (old.replies.items ++ reply ∷ []) holds same)
    (sent_noise old new next old.messages.items (old.replies.items ++ reply ∷ []) holds same)
    (at_message old.stage.config played number channels made found ∙ happens.happens)
    (subst (λ (s : Stage). stage.PlaysWorld s (with_reply happens.next made acks)) (sym holds.nodes) (record { nodes = happens.plays.nodes; apart = happens.plays.apart }))
    (happens.nodes.messages ∙ sym (append-nil played.messages)) (holds.messages_are ∙ sym (append-nil old.messages.items))
    (holds.replies_are ∙ ap (λ (l : List Reply). l ++ reply ∷ []) (plays.replies ∙ sym happens.nodes.replies))
    (writes ∙ (ap (λ (n : ℕ). before ++ delivering_line number (Ok (n + 1, acks))) (same_count old played plays)
    ∙ ap (λ (t : List ℕ). before ++ t) (sym (one_line old.stage.config (with_reply happens.next made acks) told))))

-- the number of the reply
pub replies_none : (config : Config) (played : World) (number : ℕ) (channels : List ℕ) → message_of played number ≡ None
    → None ≡ reply_next (delivered config played number channels (message_of played number)).told
replies_none config played number channels none = sym (ap (λ o. reply_next (delivered config played number channels o).told) none)

pub replies_nowhere : (config : Config) (next : Stage) (played : World) (number : ℕ) (channels : List ℕ) (made : Message) → message_of played number ≡ Some made
    → stages.Happens next played (delivered config played number channels (Some made)) (stages.told_or (stages.delivery_told played made number) None)
    → None ≡ reply_next (delivered config played number channels (message_of played number)).told
replies_nowhere config next played number channels made found happens =
    sym (ap (λ (h : Happened). reply_next h.told) (at_message config played number channels made found ∙ happens.happens))

pub replies_some : (old : Rehearsal) (next : Stage) (played : World) (number : ℕ) (channels : List ℕ) (made : Message) (answer : Result (List Ack) SyncRefusal)
    → PlaysWorld old played → message_of played number ≡ Some made
    → stages.Happens next played (delivered old.stage.config played number channels (Some made)) (stages.told_or (stages.delivery_told played made number) (Some answer))
    → place_next old.replies.items (reply_to made answer) ≡ reply_next (delivered old.stage.config played number channels (message_of played number)).told
replies_some old next played number channels made (Err refusal) plays found happens =
    sym (ap (λ (h : Happened). reply_next h.told) (at_message old.stage.config played number channels made found ∙ happens.happens))
replies_some old next played number channels made (Ok acks) plays found happens =
    ap (λ (n : ℕ). Some (n + 1)) (same_count old played plays)
    ∙ sym (ap (λ (h : Happened). reply_next h.told) (at_message old.stage.config played number channels made found ∙ happens.happens))

-- A REPLY by its number
at_reply : (config : Config) (played : World) (number : ℕ) (found : Option Reply) → reply_of played number ≡ found
    → answered_reply config played number (reply_of played number) ≡ answered_reply config played number found
at_reply config played number found is = ap (λ o. answered_reply config played number o) is

reply_at : (old : Rehearsal) (played : World) (number : ℕ) (found : Option Reply) → PlaysWorld old played → slice_get old.replies.items (number - 1) ≡ found
    → reply_of played number ≡ found
reply_at old played number found plays is = ap (λ (l : List Reply). slice_get l (number - 1)) (sym plays.replies) ∙ is

pub answers_none : (old : Rehearsal) (played : World) (number : ℕ) (before : List ℕ) → IsSound old.stage.config → PlaysWorld old played
    → slice_get old.replies.items (number - 1) ≡ None → HasPlayed old old before before played (event.Answer number)
answers_none old played number before sound plays none =
    tells_on old old old.stage played played (event.Answer number) [] before before [] sound plays tt
    (record { nodes = refl; messages_are = refl; replies_are = refl }) (record { config = refl; noise = refl })
    (at_reply old.stage.config played number None (reply_at old played number None plays none)) plays.stage (the_same played) refl (sym (append-nil before))

pub answers_nowhere : (old new : Rehearsal) (next : Stage) (played : World) (number : ℕ) (before : List ℕ) (reply : Reply) → IsSound old.stage.config → PlaysWorld old played
    → Holds old new next old.messages.items old.replies.items → StaysSame old next → slice_get old.replies.items (number - 1) ≡ Some reply
    → stages.HasAnswered old.stage next played reply None → HasPlayed old new before before played (event.Answer number)
answers_nowhere old new next played number before reply sound plays holds same is answers =
    let happens = answers number in
    tells_on old new next played happens.next (event.Answer number) [] before before [] sound plays tt holds same
    (at_reply old.stage.config played number (Some reply) (reply_at old played number (Some reply) plays is) ∙ happens.happens) happens.plays happens.nodes refl
    (sym (append-nil before))

pub answers_some : (old new : Rehearsal) (next : Stage) (played : World) (number : ℕ) (before after : List ℕ) (reply : Reply) (answer : Result ℕ AckRefusal) → IsSound old.stage.config
    → PlaysWorld old played → Holds old new next old.messages.items old.replies.items → StaysSame old next → slice_get old.replies.items (number - 1) ≡ Some reply
    → stages.HasAnswered old.stage next played reply (Some answer) → after ≡ before ++ answering_line number answer
    → HasPlayed old new before after played (event.Answer number)
answers_some old new next played number before after reply answer sound plays holds same is answers writes =
    let happens = answers number in
    tells_on old new next played happens.next (event.Answer number) (Answering number answer ∷ []) before after (answering_line number answer) sound plays tt holds same
    (at_reply old.stage.config played number (Some reply) (reply_at old played number (Some reply) plays is) ∙ happens.happens) happens.plays happens.nodes
    (one_line old.stage.config happens.next (Answering number answer)) writes

-- A CALL of a stage delivers what a rehearsal holds
pub record IsDelivered (old : Rehearsal) (next : Stage) (played : World) (number : ℕ) (channels : List ℕ) (message : SentMessage)
    (answer : Option (Result (List Ack) SyncRefusal)) : Type 0 where
  pub made : Message
  pub found : message_of played number ≡ Some made
  pub is : message ≡ sent_of old.stage.config played made
  pub happens : stages.Happens next played (delivered old.stage.config played number channels (Some made)) (stages.told_or (stages.delivery_told played made number) answer)

pub delivers_by : (old : Rehearsal) (next : Stage) (played : World) (number : ℕ) (channels text from to : List ℕ) (message : SentMessage)
    (before answer : Option (Result (List Ack) SyncRefusal)) → PlaysWorld old played → slice_get old.messages.items (number - 1) ≡ Some message → from ≡ message.from
    → to ≡ message.to → text ≡ message.text → before ≡ answer
    → ((made : Message) → made.from ≡ from → made.to ≡ to → stages.HasDelivered old.stage next played made text channels before)
    → IsDelivered old next played number channels message answer
delivers_by old next played number channels text from to message before answer plays at from_is to_is text_is same delivers =
    let found = message_at old played number message plays at in
    let made : Message = found.0 in
    let is : message ≡ sent_of old.stage.config played made = found.1.1 in
    record {
      made = made;
      found = found.1.0;
      is = is;
      happens = subst (λ (o : Option (Result (List Ack) SyncRefusal)). stages.Happens next played (delivered old.stage.config played number channels (Some made))
          (stages.told_or (stages.delivery_told played made number) o)) same
          (delivers made (sym (from_is ∙ ap (λ (m : SentMessage). m.from) is)) (sym (to_is ∙ ap (λ (m : SentMessage). m.to) is)) number
          (λ sender stands. text_is ∙ sent_text old.stage.config played message made is sender stands));
    }

pub same_reply : (config : Config) (played : World) (message : SentMessage) (made : Message) (answer : Result (List Ack) SyncRefusal) (reply : Result Reply SyncRefusal)
    → reply ≡ reply_from message.to message.from answer → message ≡ sent_of config played made → reply ≡ reply_to made answer
same_reply config played message made answer reply is same = is ∙ ap (λ (m : SentMessage). reply_from m.to m.from answer) same

abbrev pub IsAcked : Reply → Type 0
IsAcked reply = IsTrue (list_all is_ack reply.acks)

pub acked_more : (replies : List Reply) (from to : List ℕ) (answer : Result (List Ack) SyncRefusal) → All IsAcked replies
    → IfOk answer (λ (acks : List Ack). IsTrue (list_all is_ack acks)) → All IsAcked (replies_more replies (reply_from from to answer))
acked_more replies from to (Err refusal) all acked = all
acked_more replies from to (Ok acks) all acked =
    let reply : Reply = record { from = from; to = to; acks = acks } in
    All-append IsAcked replies (reply ∷ []) all (All-cons IsAcked reply [] acked (All-nil IsAcked))

-- THE BYTES of a message are shown
wire_text : (config : Config) (played : World) (message : SentMessage) (made : Message) → message ≡ sent_of config played made → is_node played made.from ≡ true
    → message.text ≡ wire_of config played (Some made)
wire_text config played message made is there = ap (λ (m : SentMessage). m.text) is ∙ on (node_at played made.from) refl
  where
    on : (found : Option Node) → node_at played made.from ≡ found
        → text_of made.from (option_map_or (λ (s : Node). message_docs config (state_in config s) made) (node_at played made.from) [])
        ≡ option_map_or (λ (s : Node). message_text config (state_in config s) made) (node_at played made.from) []
    on None none = absurd (let no : true ≡ false = sym there ∙ ap is_some none in cc)
    on (Some sender) found =
        ap (λ (o : Option Node). text_of made.from (option_map_or (λ (s : Node). message_docs config (state_in config s) made) o [])) found
        ∙ (ap (λ (id : List ℕ). text_of id (message_docs config (state_in config sender) made)) (sym (id_of_found played made.from sender found))
        ∙ sym (ap (λ (o : Option Node). option_map_or (λ (s : Node). message_text config (state_in config s) made) o []) found))

pub wires : (old : Rehearsal) (played : World) (number : ℕ) (before after text id : List ℕ) (message : SentMessage) → IsSound old.stage.config → PlaysWorld old played
    → slice_get old.messages.items (number - 1) ≡ Some message → id ≡ message.from → text ≡ message.text → is_node played id ≡ true → after ≡ before ++ text
    → HasPlayed old old before after played (event.Wire number)
wires old played number before after text id message sound plays at from_is text_is there writes =
    let found = message_at old played number message plays at in
    let made : Message = found.0 in
    let is : message ≡ sent_of old.stage.config played made = found.1.1 in
    tells_on old old old.stage played played (event.Wire number) (Bytes number ∷ []) before after text sound plays tt
    (record { nodes = refl; messages_are = refl; replies_are = refl }) (record { config = refl; noise = refl }) refl plays.stage (the_same played)
    (one_line old.stage.config played (Bytes number) ∙ (ap (λ (o : Option Message). wire_of old.stage.config played o) found.1.0
    ∙ sym (text_is ∙ wire_text old.stage.config played message made is
    (sym (ap (λ (i : List ℕ). is_node played i) (from_is ∙ ap (λ (m : SentMessage). m.from) is)) ∙ there)))) writes

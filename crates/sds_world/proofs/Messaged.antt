-- The messages and replies of a rehearsal go as in the world that it plays.
use Rattle.std.proofs.Common.{◌≡◌, ◌+◌, ◌-◌, ℕ, zero, suc, Bool, true, false, ◌==◌, cond, List, [], ◌∷◌, ◌++◌, length, map, Option, None, Some, option_map, Result, refl, sym, ap, subst, ◌∙◌, append-nil, append_assoc, All, slice_get}
use Rattle.std.specs.Prelude.{Ok, Err, IsTrue}
use Rattle.std.specs.List.{flat_map, list_all}
use Rattle.std.specs.Option.{option_map_or}
use Rattle.std.proofs.lemmas.List.{length-map}
use Rattle.sds_trade.specs.rules.Sound.{IsSound}
use Rattle.sds_types.specs.declared.ack.Ack.{Ack}
use Rattle.sds_types.specs.declared.ack.AckRefusal.{AckRefusal}
use Rattle.sds_types.specs.declared.config.Config.{Config}
use Rattle.sds_types.specs.declared.message.Message.{Message}
use Rattle.sds_types.specs.declared.message.MessagePart.{MessagePart}
use Rattle.sds_types.specs.declared.message.Reply.{Reply}
use Rattle.sds_types.specs.declared.sync.SyncRefusal.{SyncRefusal}
use Rattle.sds_types.specs.declared.sync.SyncRefusal.TheVariants.{NoWay}
use Rattle.sds_types.specs.declared.world_event.WorldEvent.{WorldEvent}
use Rattle.sds_types.specs.declared.world_event.WorldEvent.TheVariants as event
use Rattle.sds_batchtext.specs.Writing.{text_of}
use Rattle.sds_history.specs.history.Messages.{parts_of}
use Rattle.sds_history.specs.world.Events.{happened}
use Rattle.sds_history.specs.world.Happened.{Happened, Told, quiet, tells}
use Rattle.sds_history.specs.world.Happened.Told.{Answering, Delivering, Sending}
use Rattle.sds_history.specs.world.Sending.{batch_count, may_send, sent, sent_parts, with_message}
use Rattle.sds_history.specs.world.Worlds.{Node, World, message_of, node_at, reply_of, state_in}
use Rattle.sds_messages.specs.Texts.{written_message}
use Rattle.sds_screen.specs.Lines.{answering_line, delivering_line, send_line, told_text}
use Rattle.sds_screen.specs.Screen.{text_of_happened}
use Rattle.sds_stage.specs.Playing as stage
use Rattle.sds_stage.specs.Sending as stages
use Rattle.sds_stage.specs.declared.stage.Stage.{Stage}
use Rattle.sds_worldlaws.specs.Stepping.{IsNew}
use Rattle.sds_worldlaws.specs.Written.{message_docs, written_in}
use Rattle.sds_worldlaws.proofs.WorldFacts.{id_of_found}
use Rattle.sds_world.specs.Messages.{message_next, number_next, place_next, replies_more, reply_answer, reply_next, sent_answer, sent_more}
use Rattle.sds_world.specs.Playing.{HasPlayed, IsReached, Plays, PlaysWorld, sent_of}
use Rattle.sds_world.specs.declared.rehearsal.Rehearsal.{Rehearsal}
use Rattle.sds_world.specs.declared.rehearsal.SentMessage.{SentMessage}
use Rattle.sds_world.proofs.Rehearsed.{goes_on, with_stage}

-- WHAT HAPPENS is said otherwise: then the rehearsal plays on by that
abbrev GoesBy : Rehearsal → Rehearsal → World → List Message → Happened → Type 0
GoesBy old new played more happening = stage.PlaysWorld new.stage happening.world → happening.world.messages ≡ played.messages ++ more
    → new.messages.items ≡ old.messages.items ++ map (sent_of old.stage.config happening.world) more → new.replies.items ≡ happening.world.replies
    → PlaysWorld new happening.world

pub goes_by : (old new : Rehearsal) (played : World) (happens : WorldEvent) (happening : Happened) (more : List Message) (before after : List ℕ)
    → IsSound old.stage.config → PlaysWorld old played → IsNew played happens
    → new.stage.config ≡ old.stage.config → new.stage.noise ≡ old.stage.noise → happened old.stage.config old.stage.noise played happens ≡ happening
    → stage.PlaysWorld new.stage happening.world → happening.world.messages ≡ played.messages ++ more
    → new.messages.items ≡ old.messages.items ++ map (sent_of old.stage.config happening.world) more → new.replies.items ≡ happening.world.replies
    → after ≡ before ++ text_of_happened old.stage.config happening → HasPlayed old new before after played happens
goes_by old new played happens happening more before after sound plays fresh config noise is nodes grown messages replies writes =
    let on : GoesBy old new played more (happened old.stage.config old.stage.noise played happens) =
    λ nodes grown messages replies. goes_on old new played happens more sound plays fresh config noise nodes grown messages replies in
    record {
      plays = subst (λ (h : Happened). PlaysWorld new h.world) (sym is) (subst (GoesBy old new played more) is on nodes grown messages replies);
      writes = writes ∙ ap (λ (h : Happened). before ++ text_of_happened old.stage.config h) (sym is);
      config = config;
      noise = noise;
    }

-- one thing that is told
pub one_line : (config : Config) (played : World) (told : Told) → text_of_happened config (tells played told) ≡ told_text config played told
one_line config played told = append-nil (told_text config played told)

-- A MESSAGE is sent
sent_here : (config : Config) (played : World) (from to channels : List ℕ) (stood : Node) → node_at played from ≡ Some stood
    → may_send config (state_in config stood) to ≡ true
    → sent config played from to channels (node_at played from) ≡ sent_parts played from to (parts_of config (state_in config stood) to channels)
sent_here config played from to channels stood found may =
    ap (λ o. sent config played from to channels o) found
    ∙ ap (λ b. cond b (sent_parts played from to (parts_of config (state_in config stood) to channels)) (tells played (Sending from to (Err NoWay)))) may

refused_here : (config : Config) (played : World) (from to channels : List ℕ) (stood : Node) → node_at played from ≡ Some stood
    → may_send config (state_in config stood) to ≡ false
    → sent config played from to channels (node_at played from) ≡ tells played (Sending from to (Err NoWay))
refused_here config played from to channels stood found may =
    ap (λ o. sent config played from to channels o) found
    ∙ ap (λ b. cond b (sent_parts played from to (parts_of config (state_in config stood) to channels)) (tells played (Sending from to (Err NoWay)))) may

same_length : (old : Rehearsal) (played : World) → PlaysWorld old played → length old.messages.items ≡ length played.messages
same_length old played plays = ap length plays.messages ∙ length-map played.messages (sent_of old.stage.config played)

-- the text that was written is what the message's sender writes
written_text : (config : Config) (played : World) (from to channels text : List ℕ) (stood : Node) → node_at played from ≡ Some stood
    → (state_in config stood).me.id ≡ from → text ≡ written_message config (state_in config stood) to channels
    → record { from = from; to = to; text = text }
    ≡ sent_of config (with_message played from to (parts_of config (state_in config stood) to channels))
    (record { from = from; to = to; parts = parts_of config (state_in config stood) to channels })
written_text config played from to channels text stood found named is =
    let message : Message = record { from = from; to = to; parts = parts_of config (state_in config stood) to channels } in
    ap (λ (t : List ℕ). record { from = from; to = to; text = t })
    (is ∙ (ap (λ (id : List ℕ). text_of id (message_docs config (state_in config stood) message)) named
    ∙ ap (λ (o : Option Node). text_of from (option_map_or (λ (sender : Node). message_docs config (state_in config sender) message) o [])) (sym found)))

-- what a rehearsal holds after it
pub record Holds (old new : Rehearsal) (next : Stage) (messages : List SentMessage) (replies : List Reply) : Type 0 where
  pub nodes : new.stage ≡ next
  pub messages_are : new.messages.items ≡ messages
  pub replies_are : new.replies.items ≡ replies

pub record StaysSame (old : Rehearsal) (next : Stage) : Type 0 where
  pub config : next.config ≡ old.stage.config
  pub noise : next.noise ≡ old.stage.noise

pub sent_config : (old new : Rehearsal) (next : Stage) (messages : List SentMessage) (replies : List Reply) → Holds old new next messages replies → StaysSame old next
    → new.stage.config ≡ old.stage.config
sent_config old new next messages replies holds same = ap (λ (s : Stage). s.config) holds.nodes ∙ same.config

pub sent_noise : (old new : Rehearsal) (next : Stage) (messages : List SentMessage) (replies : List Reply) → Holds old new next messages replies → StaysSame old next
    → new.stage.noise ≡ old.stage.noise
sent_noise old new next messages replies holds same = ap (λ (s : Stage). s.noise) holds.nodes ∙ same.noise

-- nothing but the nodes is another, and something may be told
pub tells_on : (old new : Rehearsal) (next : Stage) (played nexts : World) (happens : WorldEvent) (told : List Told) (before after text : List ℕ)
    → IsSound old.stage.config → PlaysWorld old played → IsNew played happens → Holds old new next old.messages.items old.replies.items → StaysSame old next
    → happened old.stage.config old.stage.noise played happens ≡ record { world = nexts; told = told } → stage.PlaysWorld next nexts → stages.HasNodes played nexts
    → text_of_happened old.stage.config (record { world = nexts; told = told }) ≡ text → after ≡ before ++ text
    → HasPlayed old new before after played happens
tells_on old new next played nexts happens told before after text sound plays fresh holds same is nodes has says writes =
    goes_by old new played happens (record { world = nexts; told = told }) [] before after sound plays fresh
    (sent_config old new next old.messages.items old.replies.items holds same) (sent_noise old new next old.messages.items old.replies.items holds same) is
    (subst (λ (s : Stage). stage.PlaysWorld s nexts) (sym holds.nodes) nodes)
    (has.messages ∙ sym (append-nil played.messages)) (holds.messages_are ∙ sym (append-nil old.messages.items))
    (holds.replies_are ∙ (plays.replies ∙ sym has.replies))
    (writes ∙ ap (λ (t : List ℕ). before ++ t) (sym says))

pub the_same : (played : World) → stages.HasNodes played played
the_same played = record { messages = refl; replies = refl }

pub sends_none : (old new : Rehearsal) (next : Stage) (played : World) (from to channels before : List ℕ) → IsSound old.stage.config → PlaysWorld old played
    → Holds old new next old.messages.items old.replies.items → StaysSame old next → stage.PlaysWorld next played → node_at played from ≡ None
    → HasPlayed old new before before played (event.Send from to channels)
sends_none old new next played from to channels before sound plays holds same nodes none =
    tells_on old new next played played (event.Send from to channels) [] before before [] sound plays tt holds same
    (ap (λ o. sent old.stage.config played from to channels o) none) nodes (the_same played) refl (sym (append-nil before))

pub sends_some : (old new : Rehearsal) (next : Stage) (played : World) (from to channels text before after : List ℕ) (answer : Result ℕ SyncRefusal) → IsSound old.stage.config
    → PlaysWorld old played → Holds old new next (sent_more old.messages.items from to text answer) old.replies.items → StaysSame old next → stage.PlaysWorld next played
    → stages.MadeAt played from (λ stood. stages.Sends old.stage.config stood to channels [] text answer)
    → after ≡ before ++ send_line from to (sent_answer old.messages.items answer)
    → HasPlayed old new before after played (event.Send from to channels)
sends_some old new next played from to channels text before after (Err refusal) sound plays holds same nodes made writes =
    tells_on old new next played played (event.Send from to channels) (Sending from to (Err NoWay) ∷ []) before after (send_line from to (Err NoWay)) sound plays tt holds same
    (refused_here old.stage.config played from to channels made.stood made.found made.is.0) nodes (the_same played)
    (one_line old.stage.config played (Sending from to (Err NoWay)))
    (writes ∙ ap (λ (r : SyncRefusal). before ++ send_line from to (Err r)) made.is.1)
sends_some old new next played from to channels text before after (Ok count) sound plays holds same nodes made writes =
    let parts : List MessagePart = parts_of old.stage.config (state_in old.stage.config made.stood) to channels in
    let message : Message = record { from = from; to = to; parts = parts } in
    let told : Told = Sending from to (Ok (length played.messages + 1, batch_count parts)) in
    goes_by old new played (event.Send from to channels) (sent_parts played from to parts) (message ∷ []) before after sound plays tt
    (sent_config old new next (sent_more old.messages.items from to text (Ok count)) old.replies.items holds same)
    (sent_noise old new next (sent_more old.messages.items from to text (Ok count)) old.replies.items holds same)
    (sent_here old.stage.config played from to channels made.stood made.found made.is.way)
    (subst (λ (s : Stage). stage.PlaysWorld s (with_message played from to parts)) (sym holds.nodes) (record { nodes = nodes.nodes; apart = nodes.apart }))
    refl
    (holds.messages_are ∙ ap (λ (m : SentMessage). old.messages.items ++ m ∷ []) (written_text old.stage.config played from to channels text made.stood made.found
    (id_of_found played from made.stood made.found) made.is.text_is))
    (holds.replies_are ∙ plays.replies)
    (writes ∙ (ap (λ (n : ℕ). before ++ send_line from to (Ok (n + 1, count))) (same_length old played plays)
    ∙ (ap (λ (n : ℕ). before ++ send_line from to (Ok (length played.messages + 1, n))) made.is.count_is
    ∙ ap (λ (t : List ℕ). before ++ t) (sym (one_line old.stage.config (with_message played from to parts) told)))))

-- the number of a message with a batch
pub next_none : (config : Config) (played : World) (from to channels : List ℕ) → node_at played from ≡ None
    → None ≡ message_next (sent config played from to channels (node_at played from)).told
next_none config played from to channels none = sym (ap (λ o. message_next (sent config played from to channels o).told) none)

pub next_some : (old : Rehearsal) (played : World) (from to channels text : List ℕ) (answer : Result ℕ SyncRefusal) → PlaysWorld old played
    → stages.MadeAt played from (λ stood. stages.Sends old.stage.config stood to channels [] text answer)
    → number_next old.messages.items answer ≡ message_next (sent old.stage.config played from to channels (node_at played from)).told
next_some old played from to channels text (Err refusal) plays made =
    sym (ap (λ (h : Happened). message_next h.told) (refused_here old.stage.config played from to channels made.stood made.found made.is.0))
next_some old played from to channels text (Ok count) plays made =
    ap (λ (n : ℕ). cond (count == 0) None (Some (n + 1))) (same_length old played plays)
    ∙ (ap (λ (n : ℕ). cond (n == 0) None (Some (length played.messages + 1))) made.is.count_is
    ∙ sym (ap (λ (h : Happened). message_next h.told) (sent_here old.stage.config played from to channels made.stood made.found made.is.way)))

-- A MESSAGE by its number
got_mapped : {A B : Type 0} (f : A → B) (xs : List A) (place : ℕ) (y : B) → slice_get (map f xs) place ≡ Some y
    → (x : A) × ((slice_get xs place ≡ Some x) × (y ≡ f x))
got_mapped f [] place y is = absurd (cc)
got_mapped f (x ∷ xs) zero y is = (x, (refl, (let same : y ≡ f x = cc in same)))
got_mapped f (x ∷ xs) (suc place) y is = got_mapped f xs place y is

lost_mapped : {A B : Type 0} (f : A → B) (xs : List A) (place : ℕ) → slice_get (map f xs) place ≡ None → slice_get xs place ≡ None
lost_mapped f [] place is = refl
lost_mapped f (x ∷ xs) zero is = absurd (cc)
lost_mapped f (x ∷ xs) (suc place) is = lost_mapped f xs place is

pub message_at : (old : Rehearsal) (played : World) (number : ℕ) (message : SentMessage) → PlaysWorld old played → slice_get old.messages.items (number - 1) ≡ Some message
    → (made : Message) × ((message_of played number ≡ Some made) × (message ≡ sent_of old.stage.config played made))
message_at old played number message plays is =
    got_mapped (sent_of old.stage.config played) played.messages (number - 1) message (ap (λ l. slice_get l (number - 1)) (sym plays.messages) ∙ is)

pub no_message : (old : Rehearsal) (played : World) (number : ℕ) → PlaysWorld old played → slice_get old.messages.items (number - 1) ≡ None → message_of played number ≡ None
no_message old played number plays is =
    lost_mapped (sent_of old.stage.config played) played.messages (number - 1) (ap (λ l. slice_get l (number - 1)) (sym plays.messages) ∙ is)

-- A push or a pull is a message that is sent, delivered and answered.
use Rattle.std.proofs.Common.{◌≡◌, ◌+◌, ℕ, Bool, true, false, ◌==◌, cond, List, [], ◌∷◌, ◌++◌, length, Option, None, Some, Result, refl, sym, ap, subst, ◌∙◌, append-nil, append_assoc, All}
use Rattle.std.specs.Prelude.{Ok, Err}
use Rattle.std.specs.List.{flat_map}
use Rattle.std.proofs.lemmas.List.Concat.{flat_map-cons}
use Rattle.std.proofs.lemmas.List.Elements.{All-cons, All-nil}
use Rattle.sds_trade.proofs.Lists.{all_head, all_tail}
use Rattle.sds_nodelaws.proofs.Lists.{Either}
use Rattle.sds_nodelaws.proofs.Lists.Either.{left, right}
use Rattle.sds_types.specs.declared.ack.Ack.{Ack}
use Rattle.sds_types.specs.declared.config.Config.{Config}
use Rattle.sds_types.specs.declared.message.Message.{Message}
use Rattle.sds_types.specs.declared.message.Reply.{Reply}
use Rattle.sds_types.specs.declared.sync.SyncRefusal.{SyncRefusal}
use Rattle.sds_types.specs.declared.sync.SyncRefusal.TheVariants.{NoWay}
use Rattle.sds_types.specs.declared.world_event.WorldEvent.TheVariants as event
use Rattle.sds_history.specs.history.Messages.{parts_of}
use Rattle.sds_history.specs.world.Answering.{answered_at, answered_reply, confirmed}
use Rattle.sds_history.specs.world.Delivering.{confirm_at, delivered, delivered_at, delivered_between, replied}
use Rattle.sds_history.specs.world.Delivery.{Delivery}
use Rattle.sds_history.specs.world.Exchanging.{after_told, exchanged, exchanged_if, next_step, pulled, pushed, then_next}
use Rattle.sds_history.specs.world.Happened.{Happened, Told, quiet, tells}
use Rattle.sds_history.specs.world.Happened.Told.{Answering, Batches, Bytes, Crashed, Delivering, NoPull, NoPush, Opening, Registering, Routing, Sending, Tables, Writing}
use Rattle.sds_history.specs.world.Sending.{may_send, sent, sent_parts}
use Rattle.sds_history.specs.world.Worlds.{Node, World, message_of, node_at, reply_of, state_in}
use Rattle.sds_screen.specs.Lines.{told_text}
use Rattle.sds_screen.specs.Screen.{text_of_happened}
use Rattle.std.specs.List.{enumerate_from}
use Rattle.sds_types.specs.declared.world_event.WorldEvent.{WorldEvent}
use Rattle.sds_history.specs.history.Messages.{batches_in_parts}
use Rattle.sds_history.specs.world.DeliverOrder.{deliver_order}
use Rattle.sds_history.specs.world.Delivering.{delivery_of}
use Rattle.sds_history.specs.world.Delivery.{acks_in_order, delivered_batches}
use Rattle.sds_history.specs.world.Events.{happened}
use Rattle.sds_history.specs.world.Sending.{batch_count, may_take}
use Rattle.sds_history.specs.world.Worlds.{with_node}
use Rattle.sds_types.specs.declared.link.Action.TheVariants.{P, W}
use Rattle.sds_stage.specs.Sending as stages
use Rattle.sds_world.specs.Messages.{Exchanges, HasExchanged, message_next, reply_next}
use Rattle.sds_world.specs.Playing.{HasPlayed, Plays, PlaysWorld}
use Rattle.sds_world.specs.declared.rehearsal.Rehearsal.{Rehearsal}

-- WHAT IS TOLD of a message that is sent: nothing, or that alone
record OneSent (told : List Told) : Type 0 where
  from : List ℕ
  to : List ℕ
  answer : Result (ℕ × ℕ) SyncRefusal
  is : told ≡ Sending from to answer ∷ []

abbrev Sent : List Told → Type 0
Sent told = Either (told ≡ []) (OneSent told)

record OneDelivered (told : List Told) : Type 0 where
  number : ℕ
  answer : Result (ℕ × List Ack) SyncRefusal
  is : told ≡ Delivering number answer ∷ []

abbrev Delivered : List Told → Type 0
Delivered told = Either (told ≡ []) (OneDelivered told)

one_sent : (from to : List ℕ) (answer : Result (ℕ × ℕ) SyncRefusal) → Sent (Sending from to answer ∷ [])
one_sent from to answer = right (record { from = from; to = to; answer = answer; is = refl })

one_delivered : (number : ℕ) (answer : Result (ℕ × List Ack) SyncRefusal) → Delivered (Delivering number answer ∷ [])
one_delivered number answer = right (record { number = number; answer = answer; is = refl })

sent_told : (config : Config) (played : World) (from to channels : List ℕ) (found : Option Node) → Sent (sent config played from to channels found).told
sent_told config played from to channels None = left refl
sent_told config played from to channels (Some node) = on (may_send config (state_in config node) to)
  where
    on : (b : Bool) → Sent (cond b (sent_parts played from to (parts_of config (state_in config node) to channels)) (tells played (Sending from to (Err NoWay)))).told
    on true = one_sent from to (Ok (length played.messages + 1, batch_count (parts_of config (state_in config node) to channels)))
    on false = one_sent from to (Err NoWay)

replied_told : (played : World) (message : Message) (number : ℕ) (acks : List Ack) (refusal : Option SyncRefusal) → Delivered (replied played message number acks refusal).told
replied_told played message number acks (Some refusal) = one_delivered number (Err refusal)
replied_told played message number acks None = one_delivered number (Ok (length played.replies + 1, acks))

between_told : (config : Config) (played : World) (number : ℕ) (message : Message) (channels : List ℕ) (sender other : Option Node)
    → Delivered (delivered_between config played number message channels sender other).told
between_told config played number message channels None other = left refl
between_told config played number message channels (Some sender) None = left refl
between_told config played number message channels (Some sender) (Some node) = on (may_take config (state_in config node) message.from)
  where
    on : (b : Bool) → Delivered (cond b (delivered_at config played number message channels (state_in config sender) node) (tells played (Delivering number (Err NoWay)))).told
    on true =
        let batches = enumerate_from 0 (batches_in_parts (state_in config sender) message.to message.parts) in
        let delivery : Delivery = delivered_batches config (state_in config sender) (delivery_of (confirm_at config node message.from)) (deliver_order channels batches) in
        replied_told (with_node played delivery.node) message number (acks_in_order batches delivery.acks) delivery.refusal
    on false = one_delivered number (Err NoWay)

delivered_told : (config : Config) (played : World) (number : ℕ) (channels : List ℕ) (found : Option Message) → Delivered (delivered config played number channels found).told
delivered_told config played number channels None = left refl
delivered_told config played number channels (Some message) =
    between_told config played number message channels (node_at played message.from) (node_at played message.to)

-- WHAT COMES NEXT after it
abbrev NextIs : Config → World → (World → ℕ → Happened) → List Told → Option ℕ → Type 0
NextIs config played at told next = next_step config played told ≡ elim next [ None ↦ quiet played | Some number ↦ at played number ]

abbrev second_of : Config → World → ℕ → Happened
second_of config played number = delivered config played number [] (message_of played number)

abbrev third_of : Config → World → ℕ → Happened
third_of config played number = answered_reply config played number (reply_of played number)

none_next : (config : Config) (played : World) (at : World → ℕ → Happened) (next : Option ℕ) → None ≡ next → NextIs config played at [] next
none_next config played at None is = refl
none_next config played at (Some number) is = absurd (cc)

sent_next : (config : Config) (played : World) (from to : List ℕ) (answer : Result (ℕ × ℕ) SyncRefusal) (next : Option ℕ) → message_next (Sending from to answer ∷ []) ≡ next
    → NextIs config played (second_of config) (Sending from to answer ∷ []) next
sent_next config played from to (Err refusal) None is = refl
sent_next config played from to (Err refusal) (Some number) is = absurd (cc)
sent_next config played from to (Ok message) next is = on (message.1 == 0) next is
  where
    on : (b : Bool) (next : Option ℕ) → cond b None (Some message.0) ≡ next
        → cond b (quiet played) (delivered config played message.0 [] (message_of played message.0))
        ≡ elim next [ None ↦ quiet played | Some number ↦ second_of config played number ]
    on true None is = refl
    on true (Some number) is = absurd (cc)
    on false None is = absurd (cc)
    on false (Some number) is = ap (λ (n : ℕ). second_of config played n) (let same : message.0 ≡ number = cc in same)

after_sent : (config : Config) (played : World) (told : List Told) → Sent told → (next : Option ℕ) → message_next told ≡ next → NextIs config played (second_of config) told next
after_sent config played told (left none) next is =
    subst (λ (t : List Told). NextIs config played (second_of config) t next) (sym none) (none_next config played (second_of config) next (sym (ap message_next none) ∙ is))
after_sent config played told (right one) next is =
    subst (λ (t : List Told). NextIs config played (second_of config) t next) (sym one.is) (sent_next config played one.from one.to one.answer next (sym (ap message_next one.is) ∙ is))

delivered_next : (config : Config) (played : World) (number : ℕ) (answer : Result (ℕ × List Ack) SyncRefusal) (next : Option ℕ)
    → reply_next (Delivering number answer ∷ []) ≡ next → NextIs config played (third_of config) (Delivering number answer ∷ []) next
delivered_next config played number (Err refusal) None is = refl
delivered_next config played number (Err refusal) (Some place) is = absurd (cc)
delivered_next config played number (Ok reply) None is = absurd (cc)
delivered_next config played number (Ok reply) (Some place) is = ap (λ (n : ℕ). third_of config played n) (let same : reply.0 ≡ place = cc in same)

after_delivered : (config : Config) (played : World) (told : List Told) → Delivered told → (next : Option ℕ) → reply_next told ≡ next → NextIs config played (third_of config) told next
after_delivered config played told (left none) next is =
    subst (λ (t : List Told). NextIs config played (third_of config) t next) (sym none) (none_next config played (third_of config) next (sym (ap reply_next none) ∙ is))
after_delivered config played told (right one) next is =
    subst (λ (t : List Told). NextIs config played (third_of config) t next) (sym one.is) (delivered_next config played one.number one.answer next (sym (ap reply_next one.is) ∙ is))

-- LINES that are told read the same in every world
abbrev IsLine : Told → Type 0
IsLine (Bytes number) = ⊥
IsLine (Tables node) = ⊥
IsLine (Batches node) = ⊥
IsLine other = Unit {0}

line_anywhere : (config : Config) (first second : World) (told : Told) → IsLine told → told_text config first told ≡ told_text config second told
line_anywhere config first second (Opening at group external answer) is = refl
line_anywhere config first second (Registering asks at answer) is = refl
line_anywhere config first second (Writing node writer number answer) is = refl
line_anywhere config first second (Routing node answer) is = refl
line_anywhere config first second (Sending from to answer) is = refl
line_anywhere config first second (Delivering message answer) is = refl
line_anywhere config first second (Answering reply answer) is = refl
line_anywhere config first second (NoPush from to) is = refl
line_anywhere config first second (NoPull to from) is = refl
line_anywhere config first second (Bytes number) is = absurd is
line_anywhere config first second (Tables node) is = absurd is
line_anywhere config first second (Batches node) is = absurd is
line_anywhere config first second (Crashed node) is = refl

lines_anywhere : (config : Config) (first second : World) (told : List Told) → All IsLine told → flat_map (told_text config first) told ≡ flat_map (told_text config second) told
lines_anywhere config first second [] all = refl
lines_anywhere config first second (one ∷ told) all =
    flat_map-cons (told_text config first) one told
    ∙ (ap (λ t. t ++ flat_map (told_text config first) told) (line_anywhere config first second one (all_head IsLine one told all))
    ∙ (ap (λ t. told_text config second one ++ t) (lines_anywhere config first second told (all_tail IsLine one told all))
    ∙ sym (flat_map-cons (told_text config second) one told)))

lines_joined : (config : Config) (last : World) (told more : List Told) → flat_map (told_text config last) (told ++ more)
    ≡ flat_map (told_text config last) told ++ flat_map (told_text config last) more
lines_joined config last [] more = refl
lines_joined config last (one ∷ told) more =
    flat_map-cons (told_text config last) one (told ++ more)
    ∙ (ap (λ t. told_text config last one ++ t) (lines_joined config last told more)
    ∙ (sym (append_assoc (told_text config last one) (flat_map (told_text config last) told) (flat_map (told_text config last) more))
    ∙ ap (λ t. t ++ flat_map (told_text config last) more) (sym (flat_map-cons (told_text config last) one told))))

sent_lines : (told : List Told) → Sent told → All IsLine told
sent_lines told (left none) = subst (All IsLine) (sym none) (All-nil IsLine)
sent_lines told (right one) = subst (All IsLine) (sym one.is) (All-cons IsLine (Sending one.from one.to one.answer) [] tt (All-nil IsLine))

delivered_lines : (told : List Told) → Delivered told → All IsLine told
delivered_lines told (left none) = subst (All IsLine) (sym none) (All-nil IsLine)
delivered_lines told (right one) = subst (All IsLine) (sym one.is) (All-cons IsLine (Delivering one.number one.answer) [] tt (All-nil IsLine))

-- TWO STEPS print one after the other
pub after_text : (config : Config) (first next : Happened) → All IsLine first.told
    → text_of_happened config (after_told first next) ≡ text_of_happened config first ++ text_of_happened config next
after_text config first next lines =
    lines_joined config next.world first.told next.told
    ∙ ap (λ t. t ++ flat_map (told_text config next.world) next.told) (lines_anywhere config next.world first.world first.told lines)

quiet_after : (config : Config) (first : Happened) → after_told first (quiet first.world) ≡ first
quiet_after config first = ap (λ (told : List Told). record { world = first.world; told = told }) (append-nil first.told)

-- AN EXCHANGE ends with the message, with the delivery, or with the answer
abbrev first_of : Config → World → List ℕ → List ℕ → Happened
first_of config played from to = sent config played from to [] (node_at played from)

ends_sent : (config : Config) (played : World) (from to : List ℕ) → None ≡ message_next (first_of config played from to).told
    → exchanged config (first_of config played from to) ≡ first_of config played from to
ends_sent config played from to none =
    let first = first_of config played from to in
    ap (λ (h : Happened). after_told first (then_next config h)) (after_sent config first.world first.told (sent_told config played from to [] (node_at played from)) None (sym none))
    ∙ quiet_after config first

goes_delivered : (config : Config) (played : World) (from to : List ℕ) (number : ℕ) → Some number ≡ message_next (first_of config played from to).told
    → exchanged config (first_of config played from to)
    ≡ after_told (first_of config played from to) (then_next config (second_of config (first_of config played from to).world number))
goes_delivered config played from to number some =
    let first = first_of config played from to in
    ap (λ (h : Happened). after_told first (then_next config h))
    (after_sent config first.world first.told (sent_told config played from to [] (node_at played from)) (Some number) (sym some))

ends_delivered : (config : Config) (played : World) (number : ℕ) → None ≡ reply_next (second_of config played number).told
    → then_next config (second_of config played number) ≡ second_of config played number
ends_delivered config played number none =
    let second = second_of config played number in
    ap (λ (h : Happened). after_told second h)
    (after_delivered config second.world second.told (delivered_told config played number [] (message_of played number)) None (sym none))
    ∙ quiet_after config second

ends_answered : (config : Config) (played : World) (number place : ℕ) → Some place ≡ reply_next (second_of config played number).told
    → then_next config (second_of config played number)
    ≡ after_told (second_of config played number) (third_of config (second_of config played number).world place)
ends_answered config played number place some =
    let second = second_of config played number in
    ap (λ (h : Happened). after_told second h)
    (after_delivered config second.world second.told (delivered_told config played number [] (message_of played number)) (Some place) (sym some))

-- EVENTS under the configuration with which an exchange begins
record Goes (config : Config) (noise : List ℕ) (new : Rehearsal) (before after : List ℕ) (played : World) (happens : WorldEvent) : Type 0 where
  plays : PlaysWorld new (happened config noise played happens).world
  writes : after ≡ before ++ text_of_happened config (happened config noise played happens)

goes_under : (config : Config) (noise : List ℕ) (old new : Rehearsal) (before after : List ℕ) (played : World) (happens : WorldEvent) → old.stage.config ≡ config
    → old.stage.noise ≡ noise → HasPlayed old new before after played happens → Goes config noise new before after played happens
goes_under config noise old new before after played happens same still went =
    let by : Goes old.stage.config old.stage.noise new before after played happens = record { plays = went.plays; writes = went.writes } in
    subst (λ (c : Config). Goes c noise new before after played happens) same (subst (λ (n : List ℕ). Goes old.stage.config n new before after played happens) still by)

record HasExchangedUnder (config : Config) (old new : Rehearsal) (before after from to : List ℕ) (played : World) : Type 0 where
  plays : PlaysWorld new (exchanged config (first_of config played from to)).world
  writes : after ≡ before ++ text_of_happened config (exchanged config (first_of config played from to))

-- what an exchange comes to
exchanges_by : (old new : Rehearsal) (before after from to : List ℕ) (played : World) (whole : Happened)
    → exchanged old.stage.config (first_of old.stage.config played from to) ≡ whole → PlaysWorld new whole.world → after ≡ before ++ text_of_happened old.stage.config whole
    → new.stage.config ≡ old.stage.config → new.stage.noise ≡ old.stage.noise → HasExchanged old new before after from to played
exchanges_by old new before after from to played whole is plays writes config noise = record {
  plays = subst (λ (h : Happened). PlaysWorld new h.world) (sym is) plays;
  writes = writes ∙ ap (λ (h : Happened). before ++ text_of_happened old.stage.config h) (sym is);
  config = config;
  noise = noise;
}

pub exchanged_sent : (old new : Rehearsal) (before after from to : List ℕ) → Plays old new before after (event.Send from to [])
    → ((played : World) → PlaysWorld old played → None ≡ message_next (first_of old.stage.config played from to).told)
    → Exchanges old new before after from to
exchanged_sent old new before after from to sends none played plays =
    let went = sends played plays tt in
    exchanges_by old new before after from to played (first_of old.stage.config played from to) (ends_sent old.stage.config played from to (none played plays))
    went.plays went.writes went.config went.noise

text_two : (config : Config) (first second : Happened) (before middle after : List ℕ) → All IsLine first.told → middle ≡ before ++ text_of_happened config first
    → after ≡ middle ++ text_of_happened config second → after ≡ before ++ text_of_happened config (after_told first second)
text_two config first second before middle after lines one two =
    two ∙ (ap (λ t. t ++ text_of_happened config second) one
    ∙ (append_assoc before (text_of_happened config first) (text_of_happened config second)
    ∙ ap (λ t. before ++ t) (sym (after_text config first second lines))))

pub exchanged_delivered : (old mid new : Rehearsal) (before middle after from to : List ℕ) (number : ℕ) → Plays old mid before middle (event.Send from to [])
    → ((played : World) → PlaysWorld old played → Some number ≡ message_next (first_of old.stage.config played from to).told)
    → Plays mid new middle after (event.Deliver number [])
    → ((played : World) → PlaysWorld mid played → None ≡ reply_next (second_of mid.stage.config played number).told)
    → Exchanges old new before after from to
exchanged_delivered old mid new before middle after from to number sends some delivers none played plays =
    let config : Config = old.stage.config in
    let first = first_of config played from to in
    let sent = sends played plays tt in
    let went = delivers first.world sent.plays tt in
    let goes = goes_under config old.stage.noise mid new middle after first.world (event.Deliver number []) sent.config sent.noise went in
    let nothing : None ≡ reply_next (second_of config first.world number).told =
    subst (λ (c : Config). None ≡ reply_next (second_of c first.world number).told) sent.config (none first.world sent.plays) in
    exchanges_by old new before after from to played (after_told first (second_of config first.world number))
    (goes_delivered config played from to number (some played plays) ∙ ap (after_told first) (ends_delivered config first.world number nothing))
    goes.plays
    (text_two config first (second_of config first.world number) before middle after (sent_lines first.told (sent_told config played from to [] (node_at played from))) sent.writes goes.writes)
    (went.config ∙ sent.config) (went.noise ∙ sent.noise)

pub exchanged_answered : (old mid last new : Rehearsal) (before middle later after from to : List ℕ) (number place : ℕ) → Plays old mid before middle (event.Send from to [])
    → ((played : World) → PlaysWorld old played → Some number ≡ message_next (first_of old.stage.config played from to).told)
    → Plays mid last middle later (event.Deliver number [])
    → ((played : World) → PlaysWorld mid played → Some place ≡ reply_next (second_of mid.stage.config played number).told)
    → Plays last new later after (event.Answer place)
    → Exchanges old new before after from to
exchanged_answered old mid last new before middle later after from to number place sends some delivers some_reply answers played plays =
    let config : Config = old.stage.config in
    let first = first_of config played from to in
    let second = second_of config first.world number in
    let sent = sends played plays tt in
    let went = delivers first.world sent.plays tt in
    let goes = goes_under config old.stage.noise mid last middle later first.world (event.Deliver number []) sent.config sent.noise went in
    let reply : Some place ≡ reply_next second.told =
    subst (λ (c : Config). Some place ≡ reply_next (second_of c first.world number).told) sent.config (some_reply first.world sent.plays) in
    let answered = answers second.world goes.plays tt in
    let ends = goes_under config old.stage.noise last new later after second.world (event.Answer place) (went.config ∙ sent.config) (went.noise ∙ sent.noise) answered in
    exchanges_by old new before after from to played (after_told first (after_told second (third_of config second.world place)))
    (goes_delivered config played from to number (some played plays) ∙ ap (after_told first) (ends_answered config first.world number place reply))
    ends.plays
    (text_two config first (after_told second (third_of config second.world place)) before middle after (sent_lines first.told (sent_told config played from to [] (node_at played from))) sent.writes
    (text_two config second (third_of config second.world place) middle later after (delivered_lines second.told (delivered_told config first.world number [] (message_of first.world number)))
    goes.writes ends.writes))
    (answered.config ∙ (went.config ∙ sent.config)) (answered.noise ∙ (went.noise ∙ sent.noise))

-- A PUSH or a pull, where a link leads there, is an exchange
pub pushes : (old mid new : Rehearsal) (before after from to : List ℕ) → (event_of : WorldEvent) → mid.stage.config ≡ old.stage.config → mid.stage.noise ≡ old.stage.noise
    → ((played : World) → PlaysWorld old played → PlaysWorld mid played)
    → ((played : World) → PlaysWorld old played → happened old.stage.config old.stage.noise played event_of
    ≡ exchanged old.stage.config (first_of old.stage.config played from to))
    → Exchanges mid new before after from to → Plays old new before after event_of
pushes old mid new before after from to happens config noise stays is goes played plays fresh =
    let went = goes played (stays played plays) in
    let under : HasExchangedUnder old.stage.config mid new before after from to played =
    subst (λ (c : Config). HasExchangedUnder c mid new before after from to played) config (record { plays = went.plays; writes = went.writes }) in
    record {
      plays = subst (λ (h : Happened). PlaysWorld new h.world) (sym (is played plays)) under.plays;
      writes = under.writes ∙ ap (λ (h : Happened). before ++ text_of_happened old.stage.config h) (sym (is played plays));
      config = went.config ∙ config;
      noise = went.noise ∙ noise;
    }

-- THE WAY that was asked for
pub pushes_there : (config : Config) (played : World) (from to : List ℕ) → stages.AsksWay config played from to P (Some true)
    → pushed config played from to (node_at played from) ≡ exchanged config (first_of config played from to)
pushes_there config played from to asks =
    ap (λ o. pushed config played from to o) asks.found
    ∙ (ap (λ b. exchanged_if b config played from to asks.stood (NoPush from to)) (sym asks.is)
    ∙ ap (λ o. exchanged config (sent config played from to [] o)) (sym asks.found))

pub pulls_there : (config : Config) (played : World) (from to : List ℕ) → stages.AsksWay config played from to W (Some true)
    → pulled config played to from (node_at played from) ≡ exchanged config (first_of config played from to)
pulls_there config played from to asks =
    ap (λ o. pulled config played to from o) asks.found
    ∙ (ap (λ b. exchanged_if b config played from to asks.stood (NoPull to from)) (sym asks.is)
    ∙ ap (λ o. exchanged config (sent config played from to [] o)) (sym asks.found))

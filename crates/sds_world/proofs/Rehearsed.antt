-- A rehearsal plays its world on.
use native.Mathlib.Omega.{arith}
use Rattle.std.proofs.Common.{◌≡◌, ◌<◌, ◌-◌, ℕ, zero, suc, slice_get, slice_index_or, Bool, true, false, List, [], ◌∷◌, ◌++◌, length, map, Option, None, Some, Result, refl, sym, ap, subst, ◌∙◌, append-nil, All}
use Rattle.std.specs.Prelude.{Ok, Err, IfOk, IsTrue, OnOk, is_some}
use Rattle.std.specs.List.{list_all}
use Rattle.std.proofs.lemmas.List.{map-append}
use Rattle.sds_trade.proofs.Lists.{all_head, all_tail}
use Rattle.sds_trade.specs.rules.Sound.{IsSound}
use Rattle.sds_types.specs.declared.config.Config.{Config}
use Rattle.sds_types.specs.declared.message.Message.{Message}
use Rattle.sds_types.specs.declared.message.Reply.{Reply}
use Rattle.sds_types.specs.declared.registration.RegRefusal.{RegRefusal}
use Rattle.sds_types.specs.declared.tx_row.TxRow as tx
use Rattle.sds_types.specs.declared.world_event.WorldEvent.{WorldEvent}
use Rattle.sds_types.specs.declared.world_event.WorldEvent.TheVariants as event
use Rattle.sds_value.specs.declared.row.Peer.{Peer}
use Rattle.sds_batchtext.specs.Writing.{text_of}
use Rattle.sds_doclaws.specs.Writable.{HasFewKeys}
use Rattle.sds_nodelaws.specs.Asked.{is_ack, is_noise}
use Rattle.sds_history.specs.world.Calling.{Called}
use Rattle.sds_history.specs.world.Events.{happened, routed, with_fault, written}
use Rattle.sds_history.specs.world.Happened.{Happened}
use Rattle.sds_history.specs.world.Registering.{after_register, join_at, join_in, joined, opened_at, register_at, registered}
use Rattle.sds_history.specs.world.Worlds.{Node, World, me_of, node_at, with_node}
use Rattle.sds_worldlaws.specs.Nodes.{world_after}
use Rattle.sds_worldlaws.specs.Stepping.{AreNew, IsNew}
use Rattle.sds_worldlaws.specs.Written.{written_in}
use Rattle.sds_worldlaws.proofs.Written.{messages_stay_written}
use Rattle.sds_screen.specs.Screen.{text_of_happened}
use Rattle.sds_stage.specs.Playing as stage
use Rattle.sds_stage.specs.declared.stage.Stage.{Stage}
use Rattle.sds_world.specs.Playing.{HasPlayed, IsOfNodes, IsReached, IsRehearsal, Plays, PlaysWorld, sent_of}
use Rattle.sds_world.specs.declared.rehearsal.Rehearsal.{Rehearsal}
use Rattle.sds_world.specs.declared.rehearsal.SentMessage.{SentMessage}

-- THE WORLD after an event is reached, and what was sent stays written
pub reached_on : (config : Config) (noise : List ℕ) (played : World) (event : WorldEvent) → IsReached config noise played → IsNew played event
    → IsReached config noise (happened config noise played event).world
reached_on config noise played event reached new = record {
  events = event ∷ reached.events;
  new = (subst (λ (w : World). IsNew w event) reached.made new, reached.new);
  made = ap (λ (w : World). (happened config noise w event).world) reached.made;
}

map_same : {A B : Type 0} (f g : A → B) (xs : List A) → All (λ (x : A). f x ≡ g x) xs → map f xs ≡ map g xs
map_same f g [] all = refl
map_same {A} f g (x ∷ xs) all =
    ap (λ y. y ∷ map f xs) (all_head (λ (x : A). f x ≡ g x) x xs all) ∙ ap (λ ys. g x ∷ ys) (map_same f g xs (all_tail (λ (x : A). f x ≡ g x) x xs all))

sent_same : (config : Config) (first second : World) (messages : List Message)
    → All (λ (message : Message). written_in config first message ≡ written_in config second message) messages
    → map (sent_of config first) messages ≡ map (sent_of config second) messages
sent_same config first second [] all = refl
sent_same config first second (message ∷ messages) all =
    let one : sent_of config first message ≡ sent_of config second message =
    ap (λ docs. record { from = message.from; to = message.to; text = text_of message.from docs })
    (all_head (λ (m : Message). written_in config first m ≡ written_in config second m) message messages all) in
    ap (λ y. y ∷ map (sent_of config first) messages) one
    ∙ ap (λ ys. sent_of config second message ∷ ys)
    (sent_same config first second messages (all_tail (λ (m : Message). written_in config first m ≡ written_in config second m) message messages all))

pub sent_stays : (config : Config) (noise : List ℕ) (played : World) (event : WorldEvent) → IsSound config → IsReached config noise played
    → map (sent_of config (happened config noise played event).world) played.messages ≡ map (sent_of config played) played.messages
sent_stays config noise played event sound reached =
    subst (λ (w : World). map (sent_of config (happened config noise w event).world) w.messages ≡ map (sent_of config w) w.messages) (sym reached.made)
    (sent_same config (happened config noise (world_after config noise reached.events) event).world (world_after config noise reached.events)
    (world_after config noise reached.events).messages
    (messages_stay_written config sound noise reached.events (event ∷ []) reached.new))

-- A REHEARSAL plays on where its nodes do, and it holds what was made
pub goes_on : (old new : Rehearsal) (played : World) (event : WorldEvent) (more : List Message) → IsSound old.stage.config → PlaysWorld old played → IsNew played event
    → new.stage.config ≡ old.stage.config → new.stage.noise ≡ old.stage.noise
    → stage.PlaysWorld new.stage (happened old.stage.config old.stage.noise played event).world
    → (happened old.stage.config old.stage.noise played event).world.messages ≡ played.messages ++ more
    → new.messages.items ≡ old.messages.items ++ map (sent_of old.stage.config (happened old.stage.config old.stage.noise played event).world) more
    → new.replies.items ≡ (happened old.stage.config old.stage.noise played event).world.replies
    → PlaysWorld new (happened old.stage.config old.stage.noise played event).world
goes_on old new played event more sound plays is_new config noise nodes grown messages replies =
    let next : World = (happened old.stage.config old.stage.noise played event).world in
    let sent : List Message → List SentMessage = map (sent_of old.stage.config next) in
    record {
      stage = nodes;
      messages = subst (λ (c : Config). new.messages.items ≡ map (sent_of c next) next.messages) (sym config)
          (messages ∙ (ap (λ (l : List SentMessage). l ++ sent more)
          (plays.messages ∙ sym (sent_stays old.stage.config old.stage.noise played event sound plays.reached))
          ∙ (sym (map-append (sent_of old.stage.config next) played.messages more) ∙ ap sent (sym grown))));
      replies = replies;
      reached = subst (λ (c : Config). IsReached c new.stage.noise next) (sym config)
          (subst (λ (n : List ℕ). IsReached old.stage.config n next) (sym noise)
          (reached_on old.stage.config old.stage.noise played event plays.reached is_new));
    }

-- THE SAME messages and replies after an event at nodes
record Same (played next : World) : Type 0 where
  messages : next.messages ≡ played.messages
  replies : next.replies ≡ played.replies

itself : (played : World) → Same played played
itself played = record { messages = refl; replies = refl }

same_open : (config : Config) (noise : List ℕ) (played : World) (at group external : List ℕ) (found : Option Node)
    → Same played (opened_at config noise played at group external found).world
same_open config noise played at group external None = itself played
same_open config noise played at group external (Some node) = record { messages = refl; replies = refl }

same_join : (config : Config) (played : World) (asks : List ℕ) (at : Node) (token : List ℕ) (found : Option Node)
    → Same played (join_in config played asks at token found).world
same_join config played asks at token None = itself played
same_join config played asks at token (Some node) = record { messages = refl; replies = refl }

same_after : (config : Config) (played : World) (asks at : List ℕ) (node : Node) (answer : Result (List ℕ) RegRefusal)
    → Same played (after_register config played asks at node answer).world
same_after config played asks at node (Err refusal) = itself played
same_after config played asks at node (Ok token) = same_join config played asks node token (node_at played asks)

same_register : (config : Config) (played : World) (asks at : List ℕ) (child found : Option Node) → Same played (registered config played asks at child found).world
same_register config played asks at None found = itself played
same_register config played asks at (Some child) None = itself played
same_register config played asks at (Some child) (Some node) =
    let called = register_at config node child in
    let later = same_after config (with_node played called.node) asks at called.node called.answer in
    record { messages = later.messages; replies = later.replies }

same_write : (config : Config) (played : World) (id writer : List ℕ) (number : ℕ) (rows : List tx.TxRow) (found : Option Node)
    → Same played (written config played id writer number rows found).world
same_write config played id writer number rows None = itself played
same_write config played id writer number rows (Some node) = record { messages = refl; replies = refl }

same_route : (config : Config) (played : World) (id : List ℕ) (found : Option Node) → Same played (routed config played id found).world
same_route config played id None = itself played
same_route config played id (Some node) = record { messages = refl; replies = refl }

same_fault : (played : World) (stands : Bool) (found : Option Node) → Same played (with_fault played stands found).world
same_fault played stands None = itself played
same_fault played stands (Some node) = record { messages = refl; replies = refl }

same : (config : Config) (noise : List ℕ) (played : World) (happens : WorldEvent) → IsOfNodes happens → Same played (happened config noise played happens).world
same config noise played (event.Node me) of = record { messages = refl; replies = refl }
same config noise played (event.Open at group external) of = same_open config noise played at group external (node_at played at)
same config noise played (event.Register asks at) of = same_register config played asks at (node_at played asks) (node_at played at)
same config noise played (event.Write node writer number rows) of = same_write config played node writer number rows (node_at played node)
same config noise played (event.Route node) of = same_route config played node (node_at played node)
same config noise played (event.Send from to channels) of = absurd of
same config noise played (event.Deliver message channels) of = absurd of
same config noise played (event.Answer reply) of = absurd of
same config noise played (event.Push from to) of = absurd of
same config noise played (event.Pull to from) of = absurd of
same config noise played (event.Wire message) of = absurd of
same config noise played (event.Show node) of = itself played
same config noise played (event.Batches node) of = itself played
same config noise played (event.Crash node) of = itself played
same config noise played (event.Fault node stands) of = same_fault played stands (node_at played node)

-- A REHEARSAL with other nodes
abbrev pub with_stage : Rehearsal → Stage → Rehearsal
with_stage rehearsal next = record rehearsal { stage = next }

pub plays_staged : (old : Rehearsal) (next : Stage) (before after : List ℕ) (happens : WorldEvent) → IsSound old.stage.config → IsOfNodes happens
    → next.config ≡ old.stage.config → next.noise ≡ old.stage.noise
    → ((played : World) → stage.PlaysWorld old.stage played → IsNew played happens → stage.HasPlayed old.stage next before after played happens)
    → Plays old (with_stage old next) before after happens
plays_staged old next before after happens sound of config noise goes played plays new =
    let gone = goes played plays.stage new in
    let is = same old.stage.config old.stage.noise played happens of in
    record {
      plays = goes_on old (with_stage old next) played happens [] sound plays new config noise gone.plays
          (is.messages ∙ sym (append-nil played.messages)) (sym (append-nil old.messages.items)) (plays.replies ∙ sym is.replies);
      writes = gone.writes;
      config = config;
      noise = noise;
    }

-- IT GOES ON being a rehearsal
pub rehearses : (old new : Rehearsal) (before after : List ℕ) (happens : WorldEvent) → (is : IsRehearsal old) → stage.IsStage new.stage
    → Plays old new before after happens → IsNew is.world happens → All (λ (reply : Reply). IsTrue (list_all is_ack reply.acks)) new.replies.items
    → IsRehearsal new
rehearses old new before after happens is nodes plays fresh replies =
    let gone = plays is.world is.plays fresh in
    record {
      stage = nodes;
      few = subst (λ (c : Config). All (HasFewKeys c) c.transforms) (sym gone.config) is.few;
      noise = subst (λ (n : List ℕ). IsTrue (is_noise n)) (sym gone.noise) is.noise;
      replies = replies;
      world = (happened old.stage.config old.stage.noise is.world happens).world;
      plays = gone.plays;
    }

-- A CALL that is Ok
pub on_ok : {A E : Type 0} {P Q : Type 0} (end : Result A E) → OnOk end P → (P → Q) → OnOk end Q
on_ok (Ok done) is by = by is
on_ok (Err none) is by = tt

pub both_ok : {A E : Type 0} {P Q R : Type 0} (end : Result A E) → OnOk end P → OnOk end Q → (P → Q → R) → OnOk end R
both_ok (Ok done) first second by = by first second
both_ok (Err none) first second by = tt

pub if_ok : {A E : Type 0} {P Q : A → Type 0} (end : Result A E) → IfOk end P → ((done : A) → P done → Q done) → IfOk end Q
if_ok (Ok done) is by = by done is
if_ok (Err none) is by = tt

-- what stands at a place
pub got_at : {A : Type 0} (xs : List A) (place : ℕ) (x : A) → place < length xs → ((other : A) → x ≡ slice_index_or xs place other) → slice_get xs place ≡ Some x
got_at [] place x within is = absurd (omega (arith, within))
got_at (y ∷ xs) zero x within is = ap Some (sym (is y))
got_at (y ∷ xs) (suc place) x within is = got_at xs place x (omega (arith, within)) is

pub found_at : {A : Type 0} (xs seen : List A) (number place : ℕ) (x : A) → seen ≡ xs → place ≡ number - 1 → place < length seen
    → ((other : A) → x ≡ slice_index_or seen place other) → slice_get xs (number - 1) ≡ Some x
found_at {A} xs seen number place x same at within is =
    subst (λ (l : List A). slice_get l (number - 1) ≡ Some x) same (subst (λ (n : ℕ). slice_get seen n ≡ Some x) at (got_at seen place x within is))

-- the same world, after its nodes were asked
pub same_played : (old : Rehearsal) (next : Stage) (played : World) → next.config ≡ old.stage.config → next.noise ≡ old.stage.noise → stage.PlaysWorld next played
    → PlaysWorld old played → PlaysWorld (with_stage old next) played
same_played old next played config noise nodes plays = record {
  stage = nodes;
  messages = subst (λ (c : Config). old.messages.items ≡ map (sent_of c played) played.messages) (sym config) plays.messages;
  replies = plays.replies;
  reached = subst (λ (c : Config). IsReached c next.noise played) (sym config) (subst (λ (n : List ℕ). IsReached old.stage.config n played) (sym noise) plays.reached);
}

-- an event as it was said
pub plays_said : (old : Rehearsal) (next : Stage) (before after : List ℕ) (said happens : WorldEvent) → said ≡ happens → IsSound old.stage.config → IsOfNodes happens
    → next.config ≡ old.stage.config → next.noise ≡ old.stage.noise
    → ((played : World) → stage.PlaysWorld old.stage played → stage.HasPlayed old.stage next before after played happens)
    → Plays old (with_stage old next) before after said
plays_said old next before after said happens is sound of config noise goes =
    subst (Plays old (with_stage old next) before after) (sym is) (plays_staged old next before after happens sound of config noise (λ played plays fresh. goes played plays))

pub two : {A B R : Type 0} (f : A → B → R) {a c : A} {b d : B} → a ≡ c → b ≡ d → f a b ≡ f c d
two f {a} {c} {b} {d} first second = ap (λ x. f x b) first ∙ ap (f c) second

pub three : {A B C R : Type 0} (f : A → B → C → R) {a d : A} {b e : B} {c g : C} → a ≡ d → b ≡ e → c ≡ g → f a b c ≡ f d e g
three f {a} {d} {b} {e} {c} {g} first second third = ap (λ x. f x b c) first ∙ two (f d) second third

-- what prints nothing
pub any_text : (old next : Stage) (text : List ℕ) (played : World) (happens : WorldEvent) → stage.HasPlayed old next [] [] played happens
    → stage.HasPlayed old next text text played happens
any_text old next text played happens went = record { plays = went.plays; writes = sym (append-nil text) ∙ ap (λ t. text ++ t) went.writes }

pub plays_new : (old : Rehearsal) (next : Stage) (me said : Peer) (text : List ℕ) → IsSound old.stage.config → next.config ≡ old.stage.config → next.noise ≡ old.stage.noise
    → me ≡ said → ((played : World) → stage.PlaysWorld old.stage played → node_at played me.id ≡ None → stage.HasPlayed old.stage next [] [] played (event.Node me))
    → Plays old (with_stage old next) text text (event.Node said)
plays_new old next me said text sound config noise same goes =
    subst (λ (m : Peer). Plays old (with_stage old next) text text (event.Node m)) same
    (plays_staged old next text text (event.Node me) sound tt config noise (λ played plays fresh. any_text old.stage next text played (event.Node me) (goes played plays fresh)))

pub none_there : {A : Type 0} (found : Option A) → is_some found ≡ false → found ≡ None
none_there None is = refl
none_there (Some x) is = absurd (cc)

-- no other event is about nodes alone
pub nothing_else : (e : WorldEvent) → IsOfNodes e
    → ((me : Peer) → e ≡ event.Node me → ⊥)
    → ((at : List ℕ) (group : List ℕ) (external : List ℕ) → e ≡ event.Open at group external → ⊥)
    → ((asks : List ℕ) (at : List ℕ) → e ≡ event.Register asks at → ⊥)
    → ((node : List ℕ) (writer : List ℕ) (number : ℕ) (rows : List tx.TxRow) → e ≡ event.Write node writer number rows → ⊥)
    → ((node : List ℕ) → e ≡ event.Route node → ⊥)
    → ((node : List ℕ) → e ≡ event.Show node → ⊥)
    → ((node : List ℕ) → e ≡ event.Batches node → ⊥)
    → ((node : List ℕ) → e ≡ event.Crash node → ⊥)
    → ((node : List ℕ) (stands : Bool) → e ≡ event.Fault node stands → ⊥) → ⊥
nothing_else (event.Node me) of n0 n1 n2 n3 n4 n5 n6 n7 n8 = n0 me refl
nothing_else (event.Open at group external) of n0 n1 n2 n3 n4 n5 n6 n7 n8 = n1 at group external refl
nothing_else (event.Register asks at) of n0 n1 n2 n3 n4 n5 n6 n7 n8 = n2 asks at refl
nothing_else (event.Write node writer number rows) of n0 n1 n2 n3 n4 n5 n6 n7 n8 = n3 node writer number rows refl
nothing_else (event.Route node) of n0 n1 n2 n3 n4 n5 n6 n7 n8 = n4 node refl
nothing_else (event.Show node) of n0 n1 n2 n3 n4 n5 n6 n7 n8 = n5 node refl
nothing_else (event.Batches node) of n0 n1 n2 n3 n4 n5 n6 n7 n8 = n6 node refl
nothing_else (event.Crash node) of n0 n1 n2 n3 n4 n5 n6 n7 n8 = n7 node refl
nothing_else (event.Fault node stands) of n0 n1 n2 n3 n4 n5 n6 n7 n8 = n8 node stands refl
nothing_else (event.Send from to channels) of n0 n1 n2 n3 n4 n5 n6 n7 n8 = of
nothing_else (event.Deliver message channels) of n0 n1 n2 n3 n4 n5 n6 n7 n8 = of
nothing_else (event.Answer reply) of n0 n1 n2 n3 n4 n5 n6 n7 n8 = of
nothing_else (event.Push from to) of n0 n1 n2 n3 n4 n5 n6 n7 n8 = of
nothing_else (event.Pull to from) of n0 n1 n2 n3 n4 n5 n6 n7 n8 = of
nothing_else (event.Wire message) of n0 n1 n2 n3 n4 n5 n6 n7 n8 = of

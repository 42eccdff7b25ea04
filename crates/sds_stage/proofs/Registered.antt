-- A registration at the nodes of a stage goes as in the world that the stage plays.
use Rattle.std.proofs.Common.{◌≡◌, ◌∷◌, ◌++◌, ◌⊎◌, inl, inr, ℕ, ◌<◌, ◌&&◌, not, is_some, Bool, true, false, cond, List, [], length, Option, None, Some, Result, Ok, Err, refl, sym, ap, subst, ◌∙◌, append-nil}
use Rattle.std.specs.Prelude.{IfOk, IsTrue, slice_index_or, slice_set}
use Rattle.std.specs.List.{All, list_all}
use Rattle.std.specs.Str.{bytes_eq}
use Rattle.std.proofs.lemmas.List.{get_or-set_same}
use Rattle.std.proofs.lemmas.List.Sums.{AllPass-from_list_all}
use Rattle.sds_value.specs.Names.{is_name_text}
use Rattle.sds_value.specs.declared.row.Peer.{Peer}
use Rattle.sds_outside.specs.MemKeeping.{IsKeptOpen, kept_told}
use Rattle.sds_outside.specs.declared.mem_keeper.MemKeeper.{MemKeeper}
use Rattle.sds_types.specs.declared.config.Config.{Config}
use Rattle.sds_types.specs.declared.registration.Opening.{Opening}
use Rattle.sds_types.specs.declared.registration.RegRefusal.{RegRefusal}
use Rattle.sds_types.specs.declared.registration.RegRefusal.TheVariants as reg
use Rattle.sds_types.specs.declared.node_fault.NodeFault.TheVariants as fault
use Rattle.sds_types.specs.declared.world_event.WorldEvent.{WorldEvent}
use Rattle.sds_types.specs.declared.world_event.WorldEvent.TheVariants as event
use Rattle.sds_trade.specs.rules.Places.{is_among}
use Rattle.sds_nodelaws.specs.Asked.{is_named_peer}
use Rattle.sds_nodelaws.proofs.CallActs.{asked}
use Rattle.sds_nodelaws.proofs.Lists.{and_both, and_right, find_all, find_passes}
use Rattle.sds_history.specs.history.Acts.{State}
use Rattle.sds_history.specs.history.Counters.{would_pass}
use Rattle.sds_history.specs.history.Joins.{join_act, join_answer}
use Rattle.sds_history.specs.history.Openings.{opening_key, opening_of}
use Rattle.sds_history.specs.history.Orders.{pair_key}
use Rattle.sds_history.specs.history.Peers.{kept_peer}
use Rattle.sds_history.specs.history.Registrations.{is_closed, is_full, is_taken, next_register, own_register_answer, register_act, register_answer}
use Rattle.sds_history.specs.history.SoundParts.{is_opening, is_token}
use Rattle.sds_history.specs.history.SoundStates.{IsSoundState}
use Rattle.sds_history.specs.world.Calling.{Called}
use Rattle.sds_history.specs.world.Events.{happened}
use Rattle.sds_history.specs.world.Happened.{Happened, Told, tells}
use Rattle.sds_history.specs.world.Happened.Told.{Registering}
use Rattle.sds_history.specs.world.Registering.{after_register, join_at, join_in, register_at, registered}
use Rattle.sds_history.specs.world.Worlds as world
use Rattle.sds_imagelaws.proofs.NodeRecords.{peer_names}
use Rattle.sds_imagelaws.proofs.Tests.{equal}
use Rattle.sds_commit.specs.Ends.{LacksMemory}
use Rattle.sds_node.specs.Going as going
use Rattle.sds_node.specs.Meaning.{IsNode, has}
use Rattle.sds_node.specs.declared.node.Node.{Node}
use Rattle.sds_screen.specs.Lines.{registering_line}
use Rattle.sds_screen.specs.Screen.{text_of_happened}
use Rattle.sds_stage.specs.Placed.{IsPlaced}
use Rattle.sds_stage.specs.Playing.{HasGone, HasPlayed, Plays, PlaysWorld}
use Rattle.sds_stage.specs.Standing.{Goes, undamaged}
use Rattle.sds_stage.specs.declared.stage.Stage.{Stage}
use Rattle.sds_stage.proofs.Staged.{StageCall, call_me, stage_call, told_line, with_node_at}

abbrev Nodes : Type 0
Nodes = List (Node MemKeeper)

-- A TOKEN that is given is that of an opening, which is one
given_token : (opening : Opening) (token : List ℕ) (closed taken full : Bool)
    → cond closed (Err reg.NotOpen) (cond taken (Err reg.IdTaken) (cond full (Err reg.TooManyNodes) (Ok opening.token))) ≡ Ok token
    → opening.token ≡ token
given_token opening token true taken full told = absurd (cc)
given_token opening token false true full told = absurd (cc)
given_token opening token false false true told = absurd (cc)
given_token opening token false false false told = cc

opening_token : (config : Config) (state : State) (asks : Peer) (token : List ℕ) (found : Option Opening) → list_all (is_opening config) state.openings ≡ true
    → opening_of state.openings asks.group asks.external ≡ found → asked state asks found ≡ Ok token → is_token token ≡ true
opening_token config state asks token None are is told = absurd (cc)
opening_token config state asks token (Some opening) are is told =
    let fits : is_opening config opening ≡ true =
    find_all (λ (o : Opening). is_opening config o ≡ true) (λ (o : Opening). bytes_eq (opening_key o) (pair_key asks.group asks.external)) state.openings opening
    (AllPass-from_list_all (is_opening config) state.openings are) is in
    subst (λ t. is_token t ≡ true) (given_token opening token (is_closed opening.stage) (is_taken state opening asks.id)
    (not (is_some (kept_peer state.peers asks.id)) && is_full state) told)
    (and_right (is_name_text opening.external) (is_token opening.token)
    (and_right (is_among config.groups opening.group) (is_name_text opening.external && is_token opening.token) fits))

within_ok : (passes : Bool) (own : Result (List ℕ) RegRefusal) (token : List ℕ) → cond passes (Err (reg.Fault fault.Counters)) own ≡ Ok token → own ≡ Ok token
within_ok true own token told = absurd (cc)
within_ok false own token told = told

answer_token : (config : Config) (state : State) (asks : Peer) (token : List ℕ) → IsSoundState config state → register_answer config state asks ≡ Ok token
    → is_token token ≡ true
answer_token config state asks token sound told =
    opening_token config state asks token (opening_of state.openings asks.group asks.external) sound.openings refl
    (within_ok (would_pass config state (next_register state asks)) (own_register_answer state asks) token told)

no_ok : {G : Type 0} (token : List ℕ) (refusal : RegRefusal) → Ok token ≡ Err refusal → G
no_ok token refusal is = absurd (cc)

end_token : (before after : Node MemKeeper) (asks : Peer) (end : Result (List ℕ) RegRefusal)
    → going.Goes kept_told undamaged before after (λ state. register_act before.config state asks) reg.Fault (λ state. register_answer before.config state asks) end
    → IfOk end (λ token. IsTrue (is_token token))
end_token before after asks (Err refusal) goes = tt
end_token before after asks (Ok token) (inl from) =
    answer_token before.config from.state asks token from.settled.sound
    (sym (from.ends.answered (no_ok token (reg.Fault fault.Keeper), no_ok token (reg.Fault fault.NoMemory))).0)
end_token before after asks (Ok token) (inr none) = no_ok token (reg.Fault none.found) none.result_is

pub gives_token : {N : Type 0} (before after : Node MemKeeper) (asks : Peer) (end : Result (List ℕ) RegRefusal) (kept : Result (Result (List ℕ) RegRefusal) N)
    → going.Goes kept_told undamaged before after (λ state. register_act before.config state asks) reg.Fault (λ state. register_answer before.config state asks) end
    → IfOk kept (λ told. (told ≡ end) × (LacksMemory reg.Fault end → ⊥))
    → IfOk kept (λ answer. IfOk answer (λ token. IsTrue (is_token token)))
gives_token before after asks end (Ok told) goes is =
    subst (λ (answer : Result (List ℕ) RegRefusal). IfOk answer (λ token. IsTrue (is_token token))) (sym is.0) (end_token before after asks end goes)
gives_token before after asks end (Err none) goes is = tt

-- A NODE has names
named_me : (node : Node MemKeeper) → IsNode IsKeptOpen kept_told node → is_named_peer (has node).me ≡ true
named_me node is =
    let names = peer_names node.config is.config (has node).me is.fits.sound.me in
    and_both (is_name_text (has node).me.id) (is_name_text (has node).me.group && is_name_text (has node).me.external) names.id
    (and_both (is_name_text (has node).me.group) (is_name_text (has node).me.external) names.group names.external)

-- WHO A NODE IS, at a place of a stage
at_index : (nodes : Nodes) (place : ℕ) (node : Node MemKeeper) → node ≡ slice_index_or nodes place node → All (λ (n : Node MemKeeper). IsNode IsKeptOpen kept_told n) nodes
    → place < length nodes → IsNode IsKeptOpen kept_told node
at_index nodes place node is all within = subst (IsNode IsKeptOpen kept_told) (sym is) (all place node within)

pub named_at : (nodes seen : Nodes) (id : List ℕ) (place : ℕ) (node : Node MemKeeper) (me : Peer) → seen ≡ nodes → IsPlaced id seen place
    → node ≡ slice_index_or nodes place node → All (λ (n : Node MemKeeper). IsNode IsKeptOpen kept_told n) nodes → me ≡ (has node).me → is_named_peer me ≡ true
named_at nodes seen id place node me same placed is all own =
    subst (λ peer. is_named_peer peer ≡ true) (sym own)
    (named_me node (at_index nodes place node is all (subst (λ (l : Nodes). IsPlaced id l place) same placed).within))

-- a node that was put at a place stands there, and has names too
pub put_at : (nodes seen : Nodes) (id : List ℕ) (place : ℕ) (next node : Node MemKeeper) → seen ≡ nodes → IsPlaced id seen place
    → node ≡ slice_index_or (slice_set nodes place next) place node → node ≡ next
put_at nodes seen id place next node same placed is =
    is ∙ get_or-set_same nodes place next node (subst (λ (l : Nodes). IsPlaced id l place) same placed).within

pub put_me : (nodes seen : Nodes) (id : List ℕ) (place : ℕ) (next node : Node MemKeeper) (me : Peer) → seen ≡ nodes → IsPlaced id seen place
    → node ≡ slice_index_or (slice_set nodes place next) place node → me ≡ (has node).me → me ≡ (has next).me
put_me nodes seen id place next node me same placed is own =
    own ∙ ap (λ (n : Node MemKeeper). (has n).me) (put_at nodes seen id place next node same placed is)

pub asked_join : (next : Node MemKeeper) (other : Peer) (token : List ℕ) (answer : Result (List ℕ) RegRefusal) → IsNode IsKeptOpen kept_told next
    → other ≡ (has next).me → IfOk answer (λ given. IsTrue (is_token given)) → answer ≡ Ok token → (is_named_peer other && is_token token) ≡ true
asked_join next other token answer is own given told =
    and_both (is_named_peer other) (is_token token) (subst (λ peer. is_named_peer peer ≡ true) (sym own) (named_me next is))
    (subst (λ (a : Result (List ℕ) RegRefusal). IfOk a (λ t. IsTrue (is_token t))) told given)

-- JOINING
pub gone_join : (old : Stage) (seen : Nodes) (asks at token : List ℕ) (me : Peer) (place : ℕ) (node next : Node MemKeeper) (answer : Result (Unit {0}) RegRefusal)
    (before after : List ℕ) → seen ≡ old.nodes.items → IsPlaced asks seen place → node ≡ slice_index_or old.nodes.items place node
    → ((other : world.Node) → world.me_of other ≡ me → Goes node next answer (λ config stood. join_at config stood other token))
    → after ≡ before ++ registering_line asks at answer → (played : world.World) (other : world.Node) → PlaysWorld old played → world.me_of other ≡ me
    → (world.me_of other).id ≡ at
    → HasGone old (with_node_at old place next) before after (join_in old.config played asks other token (world.node_at played asks))
gone_join old seen asks at token me place node next answer before after same placed is goes writes played other plays own named =
    let call : StageCall old.config asks (slice_set old.nodes.items place next) played answer (λ config stood. join_at config stood other token) =
    stage_call old.config asks old.nodes.items place node next answer (λ config stood. join_at config stood other token) played
    (subst (λ (l : Nodes). IsPlaced asks l place) same placed) plays.nodes plays.apart is (goes other own)
    (λ stood. call_me reg.Fault stood (join_act old.config (world.state_in old.config stood) (world.me_of other) token)
    (join_answer old.config (world.state_in old.config stood) (world.me_of other) token)) in
    let called : Called (Unit {0}) RegRefusal = join_at old.config call.stood other token in
    subst (λ o. HasGone old (with_node_at old place next) before after (join_in old.config played asks other token o)) (sym call.found)
    (record {
      plays = record { nodes = call.stand; apart = call.apart };
      writes = writes ∙ ap (λ text. before ++ text) (ap (λ name. registering_line asks name answer) (sym named)
          ∙ (ap (registering_line asks (world.me_of other).id) call.answer_is
          ∙ sym (told_line old.config (world.with_node played called.node) (Registering asks (world.me_of other).id called.answer))));
    })

-- REGISTERING
played_as : (old new : Stage) (before after : List ℕ) (played : world.World) (event : WorldEvent) (happening : Happened)
    → happening ≡ happened old.config old.noise played event → PlaysWorld new happening.world → after ≡ before ++ text_of_happened old.config happening
    → HasPlayed old new before after played event
played_as old new before after played event happening same plays writes = record {
  plays = subst (λ (h : Happened). PlaysWorld new h.world) same plays;
  writes = subst (λ (h : Happened). after ≡ before ++ text_of_happened old.config h) same writes;
}

-- the node that asks, and the call of the one that it asks
pub record Asks (config : Config) (asks at : List ℕ) (new : Nodes) (own : Peer) (played : world.World) (answer : Result (List ℕ) RegRefusal) : Type 0 where
  pub child : world.Node
  pub found : world.node_at played asks ≡ Some child
  pub call : StageCall config at new played answer (λ config stood. register_at config stood child)
  pub mine : world.me_of (register_at config call.stood child).node ≡ own

one_stood : (a b : world.Node) → Some a ≡ Some b → a ≡ b
one_stood a b same = cc

pub asks_at : (old : Stage) (seen looked : Nodes) (asks at : List ℕ) (first place : ℕ) (asking node next : Node MemKeeper) (me : Peer)
    (answer : Result (List ℕ) RegRefusal) → seen ≡ old.nodes.items → IsPlaced asks seen first → looked ≡ old.nodes.items → IsPlaced at looked place
    → asking ≡ slice_index_or old.nodes.items first asking → me ≡ (has asking).me → node ≡ slice_index_or old.nodes.items place node
    → ((other : world.Node) → world.me_of other ≡ me → Goes node next answer (λ config stood. register_at config stood other))
    → (played : world.World) → PlaysWorld old played → Asks old.config asks at (slice_set old.nodes.items place next) (has next).me played answer
asks_at old seen looked asks at first place asking node next me answer same placed alike lies is own there goes played plays =
    let child = (subst (λ (l : Nodes). IsPlaced asks l first) same placed).at old.config played.nodes plays.apart plays.nodes in
    let called : Config → world.Node → Called (List ℕ) RegRefusal = λ config stood. register_at config stood child.stood in
    let placed_at : IsPlaced at old.nodes.items place = subst (λ (l : Nodes). IsPlaced at l place) alike lies in
    let found = placed_at.at old.config played.nodes plays.apart plays.nodes in
    let went : Goes node next answer called = goes child.stood (sym (child.stands asking is).me_is ∙ sym own) in
    let call : StageCall old.config at (slice_set old.nodes.items place next) played answer called =
    stage_call old.config at old.nodes.items place node next answer called played placed_at plays.nodes plays.apart there went
    (λ stood. call_me reg.Fault stood (register_act old.config (world.state_in old.config stood) (world.me_of child.stood))
    (register_answer old.config (world.state_in old.config stood) (world.me_of child.stood))) in
    record {
      child = child.stood;
      found = child.found;
      call = call;
      mine = subst (λ (stood : world.Node). world.me_of (register_at old.config stood child.stood).node ≡ (has next).me)
          (one_stood found.stood call.stood (sym found.found ∙ call.found)) (sym (went old.config found.stood (found.stands node there)).stands.me_is);
    }

-- what happens after it, by its answer
abbrev after_answer : Config → world.World → List ℕ → List ℕ → Called (List ℕ) RegRefusal → Result (List ℕ) RegRefusal → Happened
after_answer config played asks at called answer = after_register config (world.with_node played called.node) asks at called.node answer

asked_is : (old : Stage) (asks at : List ℕ) (new : Nodes) (own : Peer) (played : world.World) (answer told : Result (List ℕ) RegRefusal)
    → (met : Asks old.config asks at new own played answer) → answer ≡ told
    → after_answer old.config played asks at (register_at old.config met.call.stood met.child) told
    ≡ happened old.config old.noise played (event.Register asks at)
asked_is old asks at new own played answer told met is =
    ap (after_answer old.config played asks at (register_at old.config met.call.stood met.child)) (sym is ∙ met.call.answer_is)
    ∙ (ap (registered old.config played asks at (Some met.child)) (sym met.call.found)
    ∙ ap (λ (child : Option world.Node). registered old.config played asks at child (world.node_at played at)) (sym met.found))

-- a refusal is told
pub played_refused : (old : Stage) (asks at : List ℕ) (place : ℕ) (next : Node MemKeeper) (answer : Result (List ℕ) RegRefusal) (refusal : RegRefusal)
    (before after : List ℕ) → answer ≡ Err refusal
    → ((played : world.World) → PlaysWorld old played → Asks old.config asks at (slice_set old.nodes.items place next) (has next).me played answer)
    → after ≡ before ++ registering_line asks at (Err refusal) → Plays old (with_node_at old place next) before after (event.Register asks at)
played_refused old asks at place next answer refusal before after is meets writes played plays =
    let met = meets played plays in
    let called : Called (List ℕ) RegRefusal = register_at old.config met.call.stood met.child in
    let refused : Told = Registering asks at (Err refusal) in
    played_as old (with_node_at old place next) before after played (event.Register asks at) (tells (world.with_node played called.node) refused)
    (asked_is old asks at (slice_set old.nodes.items place next) (has next).me played answer (Err refusal) met is)
    (record { nodes = met.call.stand; apart = met.call.apart })
    (writes ∙ ap (λ text. before ++ text) (sym (told_line old.config (world.with_node played called.node) refused)))

-- with a token the asking node joins
pub played_joined : (old new : Stage) (asks at token : List ℕ) (place : ℕ) (next : Node MemKeeper) (answer : Result (List ℕ) RegRefusal) (other : Peer)
    (before after : List ℕ) → answer ≡ Ok token
    → ((played : world.World) → PlaysWorld old played → Asks old.config asks at (slice_set old.nodes.items place next) (has next).me played answer)
    → other ≡ (has next).me
    → ((played : world.World) (node : world.Node) → PlaysWorld (with_node_at old place next) played → world.me_of node ≡ other → (world.me_of node).id ≡ at
    → HasGone (with_node_at old place next) new before after (join_in old.config played asks node token (world.node_at played asks)))
    → Plays old new before after (event.Register asks at)
played_joined old new asks at token place next answer other before after is meets own joins played plays =
    let met = meets played plays in
    let called : Called (List ℕ) RegRefusal = register_at old.config met.call.stood met.child in
    let id : (world.me_of met.call.stood).id ≡ at =
    equal (world.me_of met.call.stood).id at (find_passes (world.has_id at) played.nodes met.call.stood met.call.found) in
    let me : world.me_of called.node ≡ world.me_of met.call.stood =
    call_me reg.Fault met.call.stood (register_act old.config (world.state_in old.config met.call.stood) (world.me_of met.child))
    (register_answer old.config (world.state_in old.config met.call.stood) (world.me_of met.child)) in
    let gone = joins (world.with_node played called.node) called.node (record { nodes = met.call.stand; apart = met.call.apart }) (met.mine ∙ sym own)
    (ap (λ (peer : Peer). peer.id) me ∙ id) in
    played_as old new before after played (event.Register asks at)
    (join_in old.config (world.with_node played called.node) asks called.node token (world.node_at (world.with_node played called.node) asks))
    (asked_is old asks at (slice_set old.nodes.items place next) (has next).me played answer (Ok token) met is) gone.plays gone.writes

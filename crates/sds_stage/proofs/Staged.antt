-- An event at a node of a stage goes as in the world that the stage plays.
use Rattle.std.proofs.Common.{◌≡◌, ℕ, Bool, true, false, cond, List, [], ◌∷◌, ◌++◌, map, Option, None, Some, Result, refl, sym, ap, subst, ◌∙◌, append-nil}
use Rattle.std.specs.Prelude.{OnOk, Ok, Err, slice_index_or, slice_set}
use Rattle.std.specs.Vec.{with_item}
use Rattle.std.specs.List.{All, AllPairs}
use Rattle.std.proofs.lemmas.List.Elements.{All-map, All-set}
use Rattle.std.proofs.lemmas.List.Kept.{AllPairs-cons}
use Rattle.sds_outside.specs.MemKeeping.{IsKeptOpen, kept_told}
use Rattle.sds_outside.specs.declared.mem_keeper.MemKeeper.{MemKeeper}
use Rattle.sds_types.specs.declared.config.Config.{Config}
use Rattle.sds_types.specs.declared.node_fault.NodeFault.{NodeFault}
use Rattle.sds_types.specs.declared.registration.RegRefusal.{RegRefusal}
use Rattle.sds_types.specs.declared.tx_row.TxRow.{TxRow}
use Rattle.sds_types.specs.declared.write_answer.WriteRefusal.{WriteRefusal}
use Rattle.sds_types.specs.declared.write_answer.Written.{Written}
use Rattle.sds_types.specs.declared.registration.RegRefusal.TheVariants as reg
use Rattle.sds_types.specs.declared.write_answer.WriteRefusal.TheVariants as write
use Rattle.sds_types.specs.declared.world_event.WorldEvent.{WorldEvent}
use Rattle.sds_types.specs.declared.world_event.WorldEvent.TheVariants as event
use Rattle.sds_trade.proofs.Lists.{pairs_head, pairs_tail}
use Rattle.sds_nodelaws.proofs.Held.{mapped}
use Rattle.sds_nodelaws.proofs.KeyedLists.{pairs_nil}
use Rattle.sds_history.specs.history.Acts.{Act, History}
use Rattle.sds_history.specs.history.Registrations.{open_act, open_answer}
use Rattle.sds_history.specs.history.Routes.{route_act, route_answer}
use Rattle.sds_history.specs.history.Writes.{write_act, write_answer}
use Rattle.sds_history.specs.world.Calling.{Called, act_stands, after_act, call}
use Rattle.sds_history.specs.world.Events.{happened, route_at, routed, write_at, written}
use Rattle.sds_history.specs.world.Happened.{Happened, Told, tells}
use Rattle.sds_history.specs.world.Happened.Told.{Opening, Routing, Writing}
use Rattle.sds_history.specs.world.Registering.{open_at, opened_at}
use Rattle.sds_history.specs.world.Worlds as world
use Rattle.sds_imagelaws.proofs.Tests.{equal}
use Rattle.sds_node.specs.Meaning.{IsNode}
use Rattle.sds_node.specs.declared.node.Node.{Node}
use Rattle.sds_screen.specs.Lines.{opening_line, routing_line, told_text, writing_line}
use Rattle.sds_screen.specs.Screen.{text_of_happened}
use Rattle.sds_stage.specs.Placed.{AreApart, IsPlaced}
use Rattle.sds_stage.specs.Playing.{HasPlayed, IsStage, Plays, PlaysWorld}
use Rattle.sds_stage.specs.Standing.{AllStand, Goes}
use Rattle.sds_stage.specs.declared.stage.Stage.{Stage}

abbrev Nodes : Type 0
Nodes = List (Node MemKeeper)

-- A CALL leaves a node who it is
after_me : (node : world.Node) (act : Act) (faults : List Bool) → world.me_of (after_act node act faults) ≡ world.me_of node
after_me node act [] = refl
after_me node act (true ∷ faults) = refl
after_me node act (false ∷ faults) = refl

pub call_me : {A E : Type 0} (fault : NodeFault → E) (node : world.Node) (act : Option Act) (answer : Result A E)
    → world.me_of (call fault node act answer).node ≡ world.me_of node
call_me fault node None answer = refl
call_me fault node (Some act) answer = after_me node act node.faults

-- IDS stay apart
one_id : (next node : world.Node) → (world.me_of (world.one_for next node)).id ≡ (world.me_of node).id
one_id next node = on (world.has_id (world.me_of next).id node) refl
  where
    on : (t : Bool) → world.has_id (world.me_of next).id node ≡ t → (world.me_of (cond t next node)).id ≡ (world.me_of node).id
    on true is = sym (equal (world.me_of node).id (world.me_of next).id is)
    on false is = refl

pub apart_stays : (next : world.Node) (nodes : List world.Node) → AllPairs AreApart nodes → AllPairs AreApart (map (world.one_for next) nodes)
apart_stays next [] apart = pairs_nil AreApart
apart_stays next (node ∷ nodes) apart =
    AllPairs-cons AreApart (world.one_for next node) (map (world.one_for next) nodes)
    (All-map (AreApart (world.one_for next node)) (world.one_for next) nodes
    (mapped (AreApart node) (λ (other : world.Node). AreApart (world.one_for next node) (world.one_for next other)) nodes
    (λ other isnt same. isnt (sym (one_id next node) ∙ (same ∙ one_id next other))) (pairs_head AreApart node nodes apart)))
    (apart_stays next nodes (pairs_tail AreApart node nodes apart))

-- THE NODE of an id is called
pub record StageCall {A E : Type 0} (config : Config) (id : List ℕ) (new : Nodes) (played : world.World) (answer : Result A E)
    (called : Config → world.Node → Called A E) : Type 0 where
  pub stood : world.Node
  pub found : world.node_at played id ≡ Some stood
  pub answer_is : answer ≡ (called config stood).answer
  pub stand : AllStand config new (world.with_node played (called config stood).node).nodes
  pub apart : AllPairs AreApart (world.with_node played (called config stood).node).nodes

pub stage_call : {A E : Type 0} (config : Config) (id : List ℕ) (nodes : Nodes) (place : ℕ) (before after : Node MemKeeper) (answer : Result A E)
    (called : Config → world.Node → Called A E) (played : world.World) → IsPlaced id nodes place → AllStand config nodes played.nodes
    → AllPairs AreApart played.nodes → before ≡ slice_index_or nodes place before → Goes before after answer called
    → ((stood : world.Node) → world.me_of (called config stood).node ≡ world.me_of stood)
    → StageCall config id (slice_set nodes place after) played answer called
stage_call config id nodes place before after answer called played placed stand apart is goes me =
    let at = placed.at config played.nodes apart stand in
    let went = goes config at.stood (at.stands before is) in
    record {
      stood = at.stood;
      found = at.found;
      answer_is = went.result_is;
      stand = at.put after (called config at.stood).node (ap (λ own. own.id) (me at.stood) ∙ at.called) went.stands;
      apart = apart_stays (called config at.stood).node played.nodes apart;
    }

-- WHAT IS PRINTED of one thing that is told
pub told_line : (config : Config) (played : world.World) (told : Told) → text_of_happened config (tells played told) ≡ told_text config played told
told_line config played told = append-nil (told_text config played told)

-- how an event goes
pub record Went (config : Config) (new : Nodes) (before after : List ℕ) (happening : Happened) : Type 0 where
  pub stand : AllStand config new happening.world.nodes
  pub apart : AllPairs AreApart happening.world.nodes
  pub writes : after ≡ before ++ text_of_happened config happening

went_told : {A E : Type 0} (config : Config) (id : List ℕ) (new : Nodes) (played : world.World) (answer : Result A E) (called : Config → world.Node → Called A E)
    (before after : List ℕ) (told : Result A E → Told) (line : Result A E → List ℕ) → (call : StageCall config id new played answer called)
    → ((played : world.World) (answer : Result A E) → told_text config played (told answer) ≡ line answer) → after ≡ before ++ line answer
    → Went config new before after (tells (world.with_node played (called config call.stood).node) (told (called config call.stood).answer))
went_told config id new played answer called before after told line call is writes = record {
  stand = call.stand;
  apart = call.apart;
  writes = writes ∙ ap (λ text. before ++ text) (ap line call.answer_is ∙ sym (told_line config (world.with_node played (called config call.stood).node) (told (called config call.stood).answer)
      ∙ is (world.with_node played (called config call.stood).node) (called config call.stood).answer));
}

pub went_open : (config : Config) (noise id group external : List ℕ) (new : Nodes) (played : world.World) (answer : Result (Unit {0}) RegRefusal) (before after : List ℕ)
    → StageCall config id new played answer (λ config stood. open_at config noise stood group external) → after ≡ before ++ opening_line id group external answer
    → Went config new before after (opened_at config noise played id group external (world.node_at played id))
went_open config noise id group external new played answer before after call writes =
    subst (λ o. Went config new before after (opened_at config noise played id group external o)) (sym call.found)
    (went_told config id new played answer (λ config stood. open_at config noise stood group external) before after (Opening id group external)
    (opening_line id group external) call (λ p a. refl) writes)

pub went_write : (config : Config) (id writer : List ℕ) (number : ℕ) (rows : List TxRow) (new : Nodes) (played : world.World) (answer : Result Written WriteRefusal)
    (before after : List ℕ) → StageCall config id new played answer (λ config stood. write_at config stood writer number rows)
    → after ≡ before ++ writing_line id writer number answer → Went config new before after (written config played id writer number rows (world.node_at played id))
went_write config id writer number rows new played answer before after call writes =
    subst (λ o. Went config new before after (written config played id writer number rows o)) (sym call.found)
    (went_told config id new played answer (λ config stood. write_at config stood writer number rows) before after (Writing id writer number)
    (writing_line id writer number) call (λ p a. refl) writes)

pub went_route : (config : Config) (id : List ℕ) (new : Nodes) (played : world.World) (answer : Result ℕ NodeFault) (before after : List ℕ)
    → StageCall config id new played answer route_at → after ≡ before ++ routing_line id answer
    → Went config new before after (routed config played id (world.node_at played id))
went_route config id new played answer before after call writes =
    subst (λ o. Went config new before after (routed config played id o)) (sym call.found)
    (went_told config id new played answer route_at before after (Routing id) (routing_line id) call (λ p a. refl) writes)

-- A STAGE with another node at a place
abbrev pub with_node_at : Stage → ℕ → Node MemKeeper → Stage
with_node_at stage place node = record stage { nodes = with_item stage.nodes place node }

pub stage_with : (stage : Stage) (place : ℕ) (node : Node MemKeeper) → IsStage stage → IsNode IsKeptOpen kept_told node → IsStage (with_node_at stage place node)
stage_with stage place node is is_node = record {
  config = is.config;
  nodes = All-set (λ (n : Node MemKeeper). IsNode IsKeptOpen kept_told n) stage.nodes.items place node is_node is.nodes;
}

pub on_ok : {A E : Type 0} {P Q : Type 0} (end : Result A E) → OnOk end P → (P → Q) → OnOk end Q
on_ok (Ok done) is by = by is
on_ok (Err none) is by = tt

has_played : (old : Stage) (place : ℕ) (node : Node MemKeeper) (before after : List ℕ) (played : world.World) (event : WorldEvent)
    → Went old.config (slice_set old.nodes.items place node) before after (happened old.config old.noise played event)
    → HasPlayed old (with_node_at old place node) before after played event
has_played old place node before after played event went =
    record { plays = record { nodes = went.stand; apart = went.apart }; writes = went.writes }

-- the call of the node at a place
at_place : {A E : Type 0} (old : Stage) (seen : Nodes) (id : List ℕ) (place : ℕ) (node next : Node MemKeeper) (answer : Result A E) (called : Config → world.Node → Called A E)
    (played : world.World) → seen ≡ old.nodes.items → IsPlaced id seen place → node ≡ slice_index_or old.nodes.items place node → Goes node next answer called
    → ((stood : world.Node) → world.me_of (called old.config stood).node ≡ world.me_of stood) → PlaysWorld old played
    → StageCall old.config id (slice_set old.nodes.items place next) played answer called
at_place old seen id place node next answer called played same placed is goes me plays =
    stage_call old.config id old.nodes.items place node next answer called played (subst (λ (l : Nodes). IsPlaced id l place) same placed)
    plays.nodes plays.apart is goes me

pub plays_open : (old : Stage) (seen : Nodes) (id group external : List ℕ) (place : ℕ) (node next : Node MemKeeper) (answer : Result (Unit {0}) RegRefusal)
    (before after : List ℕ) → seen ≡ old.nodes.items → IsPlaced id seen place → node ≡ slice_index_or old.nodes.items place node
    → Goes node next answer (λ config stood. open_at config old.noise stood group external) → after ≡ before ++ opening_line id group external answer
    → Plays old (with_node_at old place next) before after (event.Open id group external)
plays_open old seen id group external place node next answer before after same placed is goes writes played plays =
    has_played old place next before after played (event.Open id group external)
    (went_open old.config old.noise id group external (slice_set old.nodes.items place next) played answer before after
    (at_place old seen id place node next answer (λ config stood. open_at config old.noise stood group external) played same placed is goes
    (λ stood. call_me reg.Fault stood (open_act old.config (world.state_in old.config stood) group external old.noise)
    (open_answer old.config (world.state_in old.config stood) group external old.noise)) plays) writes)

pub plays_write : (old : Stage) (seen : Nodes) (id writer : List ℕ) (number : ℕ) (rows : List TxRow) (place : ℕ) (node next : Node MemKeeper)
    (answer : Result Written WriteRefusal) (before after : List ℕ) → seen ≡ old.nodes.items → IsPlaced id seen place
    → node ≡ slice_index_or old.nodes.items place node → Goes node next answer (λ config stood. write_at config stood writer number rows)
    → after ≡ before ++ writing_line id writer number answer → Plays old (with_node_at old place next) before after (event.Write id writer number rows)
plays_write old seen id writer number rows place node next answer before after same placed is goes writes played plays =
    has_played old place next before after played (event.Write id writer number rows)
    (went_write old.config id writer number rows (slice_set old.nodes.items place next) played answer before after
    (at_place old seen id place node next answer (λ config stood. write_at config stood writer number rows) played same placed is goes
    (λ stood. call_me write.Fault stood (write_act old.config (world.state_in old.config stood) writer number rows)
    (write_answer old.config (world.state_in old.config stood) writer number rows)) plays) writes)

pub plays_route : (old : Stage) (seen : Nodes) (id : List ℕ) (place : ℕ) (node next : Node MemKeeper) (answer : Result ℕ NodeFault) (before after : List ℕ)
    → seen ≡ old.nodes.items → IsPlaced id seen place → node ≡ slice_index_or old.nodes.items place node → Goes node next answer route_at
    → after ≡ before ++ routing_line id answer → Plays old (with_node_at old place next) before after (event.Route id)
plays_route old seen id place node next answer before after same placed is goes writes played plays =
    has_played old place next before after played (event.Route id)
    (went_route old.config id (slice_set old.nodes.items place next) played answer before after
    (at_place old seen id place node next answer route_at played same placed is goes
    (λ stood. call_me (λ (fault : NodeFault). fault) stood (route_act old.config (world.state_in old.config stood))
    (route_answer old.config (world.state_in old.config stood))) plays) writes)

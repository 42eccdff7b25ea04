-- The batches of a message, loaded one after another at a node that stands for one of a world.
use Rattle.std.proofs.Common.{◌≡◌, ℕ, Bool, true, false, ◌==◌, cond, List, [], ◌∷◌, map, Option, None, Some, Result, Ok, Err, refl, sym, ap, subst, ◌∙◌}
use Rattle.std.specs.Prelude.{IfOk, option_map, slice_get}
use Rattle.std.specs.List.{cons_option, list_all, list_any}
use Rattle.std.specs.Option.{option_map_or}
use Rattle.std.proofs.lemmas.Option.{slice_get-map}
use Rattle.sds_outside.specs.MemKeeping.{IsKeptOpen, kept_told}
use Rattle.sds_outside.specs.declared.mem_keeper.MemKeeper.{MemKeeper}
use Rattle.sds_types.specs.declared.ack.Ack.{Ack}
use Rattle.sds_types.specs.declared.batch.OutBatch.{OutBatch}
use Rattle.sds_types.specs.declared.config.Config.{Config}
use Rattle.sds_types.specs.declared.document.BatchDoc.{BatchDoc}
use Rattle.sds_types.specs.declared.load_answer.LoadAnswer.{LoadAnswer}
use Rattle.sds_types.specs.declared.load_answer.PeerRefusal.{PeerRefusal}
use Rattle.sds_types.specs.declared.load_answer.PeerRefusal.TheVariants as peer
use Rattle.sds_types.specs.declared.peer.KeptPeer.{KeptPeer}
use Rattle.sds_types.specs.declared.prepared.Prepared.{Prepared}
use Rattle.sds_types.specs.declared.sync.SyncRefusal.{SyncRefusal}
use Rattle.sds_types.specs.declared.way.Way.{Way}
use Rattle.sds_trade.specs.rules.Outcomes.{prepared_batch}
use Rattle.sds_history.specs.history.Acts.{State}
use Rattle.sds_history.specs.history.Documents.{doc_of_batch, way_from}
use Rattle.sds_history.specs.history.Loads.{load_act, load_answer}
use Rattle.sds_history.specs.world.Calling.{Called, call}
use Rattle.sds_history.specs.world.Delivery.{Delivery, answered, delivered_batches, load_at, with_load}
use Rattle.sds_history.specs.world.Worlds as world
use Rattle.sds_delivery.specs.Placing.{at_places}
use Rattle.sds_nodelaws.specs.Asked.{IsReadFrom, is_ack}
use Rattle.sds_nodelaws.specs.Calls.Call.{Load}
use Rattle.sds_nodelaws.proofs.Lists.{no_some, same_some}
use Rattle.sds_imagelaws.specs.Widths.{IsHeldBody}
use Rattle.sds_loadlaws.specs.ReadBatches.{IsLoadable}
use Rattle.sds_loadlaws.specs.Spelt.{is_spelt_config, is_spelt_way}
use Rattle.sds_loadlaws.proofs.ReadBatches.{read_batches_are_asked}
use Rattle.sds_commit.specs.Ends.{LacksMemory}
use Rattle.sds_node.specs.Going as going
use Rattle.sds_node.specs.Meaning.{IsNode, has}
use Rattle.sds_node.specs.declared.node.Node.{Node}
use Rattle.sds_node.proofs.Endings.{ended_peer}
use Rattle.sds_standing.specs.Standing.{GoesAs}
use Rattle.sds_standing.proofs.Calls.{calls_go}
use Rattle.sds_stage.specs.Loading.{AreOf, GoesOn, delivery_with, load_doc_at}
use Rattle.sds_stage.specs.Standing.{Goes, Stands, undamaged}
use Rattle.sds_stage.proofs.Called.{if_ok}

-- A DOCUMENT is read for the node's tables and loaded, unless memory was wanting: the node is sure, so it is read as the world's node reads it
pub load_goes : {N : Type 0} (from : List ℕ) (document : BatchDoc) (batch : Prepared) (old before after : Node MemKeeper) (end : Result LoadAnswer PeerRefusal)
    (kept : Result (Result LoadAnswer PeerRefusal) N)
    → ((config : Config) (stood : world.Node) → Stands config old stood → Stands config before stood) → before.sure ≡ true
    → batch ≡ prepared_batch before.config (way_from (has before) from) document → IsReadFrom before.config from batch → IsHeldBody batch.body
    → IsNode IsKeptOpen kept_told after → going.IsStill before after
    → going.Goes kept_told undamaged before after (λ state. load_act before.config state from batch) peer.Fault (λ state. load_answer before.config state from batch) end
    → IfOk kept (λ told. (told ≡ end) × (LacksMemory peer.Fault end → ⊥))
    → IfOk kept (λ told. Goes old after told (λ config stood. load_doc_at config stood from document))
load_goes from document batch old before after end (Err none) settled sure read asked held node still goes is = tt
load_goes from document batch old before after end (Ok told) settled sure read asked held node still goes is =
    λ config stood stands_old.
    let stands : Stands config before stood = settled config stood stands_old in
    let s : State = world.state_in config stood in
    let same : batch ≡ prepared_batch config (way_from s from) document =
    read ∙ (ap (λ (c : Config). prepared_batch c (way_from (has before) from) document) stands.config_is
    ∙ ap (λ (state : State). prepared_batch config (way_from state from) document) (stands.has_is sure)) in
    subst (λ (b : Prepared). GoesAs IsKeptOpen kept_told undamaged config after told
    (call peer.Fault stood (load_act config s from b) (load_answer config s from b))) same
    (subst (λ (t : Result LoadAnswer PeerRefusal). GoesAs IsKeptOpen kept_told undamaged config after t
    (call peer.Fault stood (load_act config s from batch) (load_answer config s from batch))) (sym is.0)
    (calls_go IsKeptOpen kept_told undamaged peer.Fault (Load from batch) (λ config state. load_answer config state from batch) ended_peer
    config before after stood end stands (subst (λ (c : Config). IsReadFrom c from batch) stands.config_is asked) held node still refl goes is.1))

-- so its load is asked rightly
pub read_asked : (config : Config) (state : State) (from : List ℕ) (way : Way) (document : BatchDoc) (batch : Prepared) → batch ≡ prepared_batch config way document
    → way ≡ way_from state from → is_spelt_config config ≡ true → is_spelt_way way ≡ true → IsLoadable document → IsReadFrom config from batch × IsHeldBody batch.body
read_asked config state from way document batch is way_is spelt ways loadable =
    subst (λ (b : Prepared). IsReadFrom config from b × IsHeldBody b.body) (sym is)
    (read_batches_are_asked config state from way document spelt ways (ap (λ (w : Way). w.source) way_is) loadable)

-- the group of no peer is empty
pub group_unknown : {N : Type 0} (end : Result (List ℕ) N) (found : Option KeptPeer) (text : List ℕ) → option_map (λ (kept : KeptPeer). kept.peer) found ≡ None
    → IfOk end (λ group. group ≡ text) → text ≡ [] → IfOk end (λ group. group ≡ option_map_or (λ (kept : KeptPeer). kept.peer.group) found [])
group_unknown end None text none is empty = if_ok end is (λ group same. same ∙ empty)
group_unknown end (Some kept) text none is empty = absurd (cc)

-- PLACES. What stands at a place of a mapped list
mapped_none : {A B : Type 0} (f : A → B) (xs : List A) (ys : List B) (place : ℕ) → ys ≡ map f xs → None ≡ slice_get ys place → slice_get xs place ≡ None
mapped_none {A} {B} f xs ys place same none =
    by (slice_get xs place) (sym (slice_get-map f xs place) ∙ (ap (λ (l : List B). slice_get l place) (sym same) ∙ sym none))
  where
    by : (o : Option A) → option_map f o ≡ None → o ≡ None
    by None is = refl
    by (Some x) is = absurd (cc)

mapped_some : {A B : Type 0} (f : A → B) (xs : List A) (ys : List B) (place : ℕ) (y : B) → ys ≡ map f xs → Some y ≡ slice_get ys place
    → (x : A) × ((slice_get xs place ≡ Some x) × (y ≡ f x))
mapped_some {A} {B} f xs ys place y same some =
    by (slice_get xs place) refl (sym (slice_get-map f xs place) ∙ (ap (λ (l : List B). slice_get l place) (sym same) ∙ sym some))
  where
    by : (o : Option A) → slice_get xs place ≡ o → option_map f o ≡ Some y → (x : A) × ((slice_get xs place ≡ Some x) × (y ≡ f x))
    by None at is = no_some y is
    by (Some x) at is = (x, (at, sym (same_some (f x) y is)))

none_at : (batches : List OutBatch) (place : ℕ) (rest : List ℕ) → slice_get batches place ≡ None → at_places batches (place ∷ rest) ≡ at_places batches rest
none_at batches place rest none =
    ap (λ (o : Option OutBatch). cons_option (option_map (λ (batch : OutBatch). (place, batch)) o) (at_places batches rest)) none

some_at : (batches : List OutBatch) (place : ℕ) (rest : List ℕ) (batch : OutBatch) → slice_get batches place ≡ Some batch
    → at_places batches (place ∷ rest) ≡ (place, batch) ∷ at_places batches rest
some_at batches place rest batch some =
    ap (λ (o : Option OutBatch). cons_option (option_map (λ (batch : OutBatch). (place, batch)) o) (at_places batches rest)) some

-- ONE MORE PLACE of a delivery: no batch is there, or its channel is held, or it is loaded
skips : (config : Config) (sender : State) (batches : List OutBatch) (stood : world.Node) (node : Node MemKeeper) (acks : List (ℕ × Ack)) (held : List ℕ) (place : ℕ) (rest : List ℕ)
    → Stands config node stood → slice_get batches place ≡ None
    → GoesOn config sender batches (delivery_with stood acks held None) (place ∷ rest) node acks held None rest
skips config sender batches stood node acks held place rest stands none = record {
  stood = stood;
  stands = stands;
  goes = ap (λ (l : List (ℕ × OutBatch)). delivered_batches config sender (delivery_with stood acks held None) l) (none_at batches place rest none);
}

at_one : (config : Config) (sender : State) (batches : List OutBatch) (stood : world.Node) (acks : List (ℕ × Ack)) (held : List ℕ) (place : ℕ) (rest : List ℕ) (batch : OutBatch) (t : Bool)
    → slice_get batches place ≡ Some batch → list_any (λ (one : ℕ). one == batch.channel) held ≡ t
    → delivered_batches config sender (delivery_with stood acks held None) (at_places batches (place ∷ rest))
    ≡ delivered_batches config sender (cond t (delivery_with stood acks held None)
    (with_load (delivery_with stood acks held None) (place, batch) (load_at config stood sender batch))) (at_places batches rest)
at_one config sender batches stood acks held place rest batch t some is =
    ap (λ (l : List (ℕ × OutBatch)). delivered_batches config sender (delivery_with stood acks held None) l) (some_at batches place rest batch some)
    ∙ ap (λ (b : Bool). delivered_batches config sender (cond b (delivery_with stood acks held None)
    (with_load (delivery_with stood acks held None) (place, batch) (load_at config stood sender batch))) (at_places batches rest)) is

abbrev pub GoesFrom : Node MemKeeper → List ℕ → List BatchDoc → List ℕ → List (ℕ × Ack) → List ℕ → ℕ → Node MemKeeper → List (ℕ × Ack) → List ℕ → Option SyncRefusal → Type 0
GoesFrom before from documents channels acks held place after acks_then held_then refusal =
    (config : Config) (stood : world.Node) (sender : State) (batches : List OutBatch) → Stands config before stood
    → AreOf config sender batches from documents channels → (rest : List ℕ)
    → GoesOn config sender batches (delivery_with stood acks held None) (place ∷ rest) after acks_then held_then refusal rest

pub no_document : (node : Node MemKeeper) (from : List ℕ) (documents : List BatchDoc) (channels : List ℕ) (acks : List (ℕ × Ack)) (held : List ℕ) (place : ℕ)
    → None ≡ slice_get documents place → GoesFrom node from documents channels acks held place node acks held None
no_document node from documents channels acks held place none config stood sender batches stands are rest =
    skips config sender batches stood node acks held place rest stands
    (mapped_none (doc_of_batch config sender) batches documents place are.documents_are none)

pub no_channel : (node : Node MemKeeper) (from : List ℕ) (documents : List BatchDoc) (channels : List ℕ) (acks : List (ℕ × Ack)) (held : List ℕ) (place : ℕ)
    → None ≡ slice_get channels place → GoesFrom node from documents channels acks held place node acks held None
no_channel node from documents channels acks held place none config stood sender batches stands are rest =
    skips config sender batches stood node acks held place rest stands
    (mapped_none (λ (batch : OutBatch). batch.channel) batches channels place are.channels_are none)

pub channel_held : (node : Node MemKeeper) (from : List ℕ) (documents : List BatchDoc) (channels : List ℕ) (acks : List (ℕ × Ack)) (held : List ℕ) (place channel : ℕ) (t : Bool)
    → Some channel ≡ slice_get channels place → t ≡ list_any (λ (one : ℕ). one == channel) held → t ≡ true
    → GoesFrom node from documents channels acks held place node acks held None
channel_held node from documents channels acks held place channel t some tests is config stood sender batches stands are rest =
    let at = mapped_some (λ (batch : OutBatch). batch.channel) batches channels place channel are.channels_are some in
    record {
      stood = stood;
      stands = stands;
      goes = at_one config sender batches stood acks held place rest at.0 true at.1.0
          (ap (λ (c : ℕ). list_any (λ (one : ℕ). one == c) held) (sym at.1.1) ∙ (sym tests ∙ is));
    }

-- what a delivery takes from the answer
abbrev pub Takes : ℕ → ℕ → ℕ → Result LoadAnswer PeerRefusal → List (ℕ × Ack) → List ℕ → List (ℕ × Ack) → List ℕ → Option SyncRefusal → Type 0
Takes place number channel answer acks held acks_then held_then refusal = (stood : world.Node) (batch : OutBatch) → batch.id ≡ number → batch.channel ≡ channel
    → delivery_with stood acks_then held_then refusal ≡ answered (delivery_with stood acks held None) (place, batch) answer

pub loads : (before after : Node MemKeeper) (from : List ℕ) (documents : List BatchDoc) (channels : List ℕ) (acks acks_then : List (ℕ × Ack)) (held held_then : List ℕ) (place channel : ℕ)
    (document : BatchDoc) (t : Bool) (answer : Result LoadAnswer PeerRefusal) (refusal : Option SyncRefusal)
    → Some document ≡ slice_get documents place → Some channel ≡ slice_get channels place → t ≡ list_any (λ (one : ℕ). one == channel) held → t ≡ false
    → Goes before after answer (λ config stood. load_doc_at config stood from document)
    → Takes place document.batch channel answer acks held acks_then held_then refusal
    → GoesFrom before from documents channels acks held place after acks_then held_then refusal
loads before after from documents channels acks acks_then held held_then place channel document t answer refusal some_document some_channel tests is goes takes
    config stood sender batches stands are rest =
    let at = mapped_some (doc_of_batch config sender) batches documents place document are.documents_are some_document in
    let other = mapped_some (λ (batch : OutBatch). batch.channel) batches channels place channel are.channels_are some_channel in
    let batch : OutBatch = at.0 in
    let one : other.0 ≡ batch = same_some other.0 batch (sym other.1.0 ∙ at.1.0) in
    let channel_is : channel ≡ batch.channel = other.1.1 ∙ ap (λ (b : OutBatch). b.channel) one in
    let called : Called LoadAnswer PeerRefusal = load_at config stood sender batch in
    let same : load_doc_at config stood from document ≡ called =
    ap (λ (name : List ℕ). load_doc_at config stood name document) are.from_is ∙ ap (λ (d : BatchDoc). load_doc_at config stood sender.me.id d) at.1.1 in
    let went : GoesAs IsKeptOpen kept_told undamaged config after answer called =
    subst (λ (c : Called LoadAnswer PeerRefusal). GoesAs IsKeptOpen kept_told undamaged config after answer c) same (goes config stood stands) in
    record {
      stood = called.node;
      stands = went.stands;
      goes = at_one config sender batches stood acks held place rest batch false at.1.0
          (ap (λ (c : ℕ). list_any (λ (one : ℕ). one == c) held) (sym channel_is) ∙ (sym tests ∙ is))
          ∙ ap (λ (d : Delivery). delivered_batches config sender d (at_places batches rest))
          (ap (λ (a : Result LoadAnswer PeerRefusal). answered (delivery_with called.node acks held None) (place, batch) a) (sym went.result_is)
          ∙ sym (takes called.node batch (ap (λ (d : BatchDoc). d.batch) (sym at.1.1)) (sym channel_is)));
    }

-- THE PLACES so far
pub record AreLoaded (old : Node MemKeeper) (from : List ℕ) (documents : List BatchDoc) (channels places : List ℕ) (acks : List (ℕ × Ack)) (held : List ℕ)
    (node : Node MemKeeper) (acks_then : List (ℕ × Ack)) (held_then left : List ℕ) : Type 0 where
  pub node_is : IsNode IsKeptOpen kept_told node
  pub goes : (config : Config) (stood : world.Node) (sender : State) (batches : List OutBatch) → Stands config old stood
      → AreOf config sender batches from documents channels
      → GoesOn config sender batches (delivery_with stood acks held None) places node acks_then held_then None left
  pub acks_are : list_all is_ack (map (λ (at : ℕ × Ack). at.1) acks) ≡ true → list_all is_ack (map (λ (at : ℕ × Ack). at.1) acks_then) ≡ true

pub none_loaded : (old : Node MemKeeper) (from : List ℕ) (documents : List BatchDoc) (channels places : List ℕ) (acks : List (ℕ × Ack)) (held : List ℕ)
    → IsNode IsKeptOpen kept_told old → AreLoaded old from documents channels places acks held old acks held places
none_loaded old from documents channels places acks held node = record {
  node_is = node;
  goes = λ config stood sender batches stands are. record { stood = stood; stands = stands; goes = refl };
  acks_are = λ are. are;
}

pub one_loaded : (old : Node MemKeeper) (from : List ℕ) (documents : List BatchDoc) (channels places : List ℕ) (acks : List (ℕ × Ack)) (held : List ℕ) (node after : Node MemKeeper)
    (acks_then acks_after : List (ℕ × Ack)) (held_then held_after left rest : List ℕ) (place : ℕ) (refusal : Option SyncRefusal) → left ≡ place ∷ rest
    → AreLoaded old from documents channels places acks held node acks_then held_then left
    → GoesFrom node from documents channels acks_then held_then place after acks_after held_after refusal
    → (config : Config) (stood : world.Node) (sender : State) (batches : List OutBatch) → Stands config old stood → AreOf config sender batches from documents channels
    → GoesOn config sender batches (delivery_with stood acks held None) places after acks_after held_after refusal rest
one_loaded old from documents channels places acks held node after acks_then acks_after held_then held_after left rest place refusal same so_far more
    config stood sender batches stands are =
    let first = so_far.goes config stood sender batches stands are in
    let next = more config first.stood sender batches first.stands are rest in
    record {
      stood = next.stood;
      stands = next.stands;
      goes = first.goes ∙ (ap (λ (l : List ℕ). delivered_batches config sender (delivery_with first.stood acks_then held_then None) (at_places batches l)) same ∙ next.goes);
    }

pub place_loaded : (old : Node MemKeeper) (from : List ℕ) (documents : List BatchDoc) (channels places : List ℕ) (acks : List (ℕ × Ack)) (held : List ℕ) (node after : Node MemKeeper)
    (acks_then acks_after : List (ℕ × Ack)) (held_then held_after left rest : List ℕ) (place : ℕ) (refusal : Option SyncRefusal) → left ≡ place ∷ rest → refusal ≡ None
    → AreLoaded old from documents channels places acks held node acks_then held_then left
    → IsNode IsKeptOpen kept_told after → GoesFrom node from documents channels acks_then held_then place after acks_after held_after refusal
    → (list_all is_ack (map (λ (at : ℕ × Ack). at.1) acks_then) ≡ true → list_all is_ack (map (λ (at : ℕ × Ack). at.1) acks_after) ≡ true)
    → AreLoaded old from documents channels places acks held after acks_after held_after rest
place_loaded old from documents channels places acks held node after acks_then acks_after held_then held_after left rest place refusal same none so_far is_node more acked = record {
  node_is = is_node;
  goes = one_loaded old from documents channels places acks held node after acks_then acks_after held_then held_after left rest place None same so_far
      (subst (λ (r : Option SyncRefusal). GoesFrom node from documents channels acks_then held_then place after acks_after held_after r) none more);
  acks_are = λ are. acked (so_far.acks_are are);
}

-- THE END: no place is left, or a refusal came
stopped : (config : Config) (sender : State) (stood : world.Node) (acks : List (ℕ × Ack)) (held : List ℕ) (refusal : SyncRefusal) (at : List (ℕ × OutBatch))
    → delivered_batches config sender (delivery_with stood acks held (Some refusal)) at ≡ delivery_with stood acks held (Some refusal)
stopped config sender stood acks held refusal [] = refl
stopped config sender stood acks held refusal (first ∷ others) = stopped config sender stood acks held refusal others

abbrev pub Ends : Config → State → Delivery → List (ℕ × OutBatch) → Node MemKeeper → List (ℕ × Ack) → List ℕ → Option SyncRefusal → Type 0
Ends config sender delivery at node acks held refusal = Stands config node (delivered_batches config sender delivery at).node
    × (delivery_with (delivered_batches config sender delivery at).node acks held refusal ≡ delivered_batches config sender delivery at)

ends_as : (config : Config) (sender : State) (delivery : Delivery) (at : List (ℕ × OutBatch)) (stood : world.Node) (node : Node MemKeeper) (acks : List (ℕ × Ack)) (held : List ℕ)
    (refusal : Option SyncRefusal) → Stands config node stood → delivered_batches config sender delivery at ≡ delivery_with stood acks held refusal
    → Ends config sender delivery at node acks held refusal
ends_as config sender delivery at stood node acks held refusal stands is = (
  subst (λ (d : Delivery). Stands config node d.node) (sym is) stands,
  subst (λ (d : Delivery). delivery_with d.node acks held refusal ≡ d) (sym is) refl,
)

abbrev pub EndsSo : Node MemKeeper → List ℕ → List BatchDoc → List ℕ → List ℕ → List (ℕ × Ack) → List ℕ → Node MemKeeper → List (ℕ × Ack) → List ℕ → Option SyncRefusal → Type 0
EndsSo old from documents channels places acks held node acks_then held_then refusal = (config : Config) (stood : world.Node) (sender : State) (batches : List OutBatch)
    → Stands config old stood → from ≡ sender.me.id → documents ≡ map (doc_of_batch config sender) batches
    → channels ≡ map (λ (batch : OutBatch). batch.channel) batches
    → Ends config sender (delivery_with stood acks held None) (at_places batches places) node acks_then held_then refusal

pub all_loaded : (old : Node MemKeeper) (from : List ℕ) (documents : List BatchDoc) (channels places : List ℕ) (acks : List (ℕ × Ack)) (held : List ℕ) (node : Node MemKeeper)
    (acks_then : List (ℕ × Ack)) (held_then left : List ℕ) → left ≡ [] → AreLoaded old from documents channels places acks held node acks_then held_then left
    → EndsSo old from documents channels places acks held node acks_then held_then None
all_loaded old from documents channels places acks held node acks_then held_then left none loaded config stood sender batches stands from_is documents_are channels_are =
    let on = loaded.goes config stood sender batches stands (record { from_is = from_is; documents_are = documents_are; channels_are = channels_are }) in
    ends_as config sender (delivery_with stood acks held None) (at_places batches places) on.stood node acks_then held_then None on.stands
    (on.goes ∙ ap (λ (l : List ℕ). delivered_batches config sender (delivery_with on.stood acks_then held_then None) (at_places batches l)) none)

pub refused : (old : Node MemKeeper) (from : List ℕ) (documents : List BatchDoc) (channels places : List ℕ) (acks : List (ℕ × Ack)) (held : List ℕ) (node after : Node MemKeeper)
    (acks_then acks_after : List (ℕ × Ack)) (held_then held_after left rest : List ℕ) (place : ℕ) (told : Option SyncRefusal) (refusal : SyncRefusal) → left ≡ place ∷ rest
    → told ≡ Some refusal → AreLoaded old from documents channels places acks held node acks_then held_then left
    → GoesFrom node from documents channels acks_then held_then place after acks_after held_after told
    → EndsSo old from documents channels places acks held after acks_after held_after (Some refusal)
refused old from documents channels places acks held node after acks_then acks_after held_then held_after left rest place told refusal same is so_far more
    config stood sender batches stands from_is documents_are channels_are =
    let on = one_loaded old from documents channels places acks held node after acks_then acks_after held_then held_after left rest place (Some refusal) same so_far
    (subst (λ (r : Option SyncRefusal). GoesFrom node from documents channels acks_then held_then place after acks_after held_after r) is more)
    config stood sender batches stands (record { from_is = from_is; documents_are = documents_are; channels_are = channels_are }) in
    ends_as config sender (delivery_with stood acks held None) (at_places batches places) on.stood after acks_after held_after (Some refusal) on.stands
    (on.goes ∙ stopped config sender on.stood acks_after held_after refusal (at_places batches rest))

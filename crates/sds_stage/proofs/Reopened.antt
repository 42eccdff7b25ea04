-- Nodes of a stage that are shown, that begin, and that are opened again, as in the world that the stage plays.
use Rattle.std.proofs.Common.{◌≡◌, ℕ, zero, suc, ◌<◌, Bool, true, false, List, [], ◌∷◌, ◌++◌, cond, length, take, drop, map, Option, None, Some, refl, sym, ap, subst, ◌∙◌, append-nil, arith, true≢false}
use Rattle.std.specs.Prelude.{Err, IfErr, IfOk, Ok, OnErr, OnOk, Result, option_map, slice_index_or, slice_set}
use Rattle.std.specs.List.{All, AllPairs, find, insert, remove}
use Rattle.std.specs.Option.{option_map_or}
use Rattle.std.specs.Str.{bytes_eq}
use Rattle.std.proofs.lemmas.List.Elements.{All-append, All-cons, All-drop, All-map, All-nil, All-push, All-set, All-take}
use Rattle.std.proofs.lemmas.List.Kept.{AllPairs-cons}
use Rattle.sds_outside.specs.MemKeeping.{AreAsBefore, IsKeptOpen, fates_of, kept_armed, kept_commits, kept_fates, kept_reads, kept_told}
use Rattle.sds_outside.specs.declared.mem_keeper.FailAt.{FailAt}
use Rattle.sds_outside.specs.declared.mem_keeper.MemKeeper.{MemKeeper}
use Rattle.sds_outside.specs.Keepings.{Keeping}
use Rattle.sds_types.specs.declared.config.Config.{Config}
use Rattle.sds_types.specs.declared.node_fault.NodeFault.{NodeFault}
use Rattle.sds_types.specs.declared.node_fault.NodeFault.TheVariants.{NoMemory}
use Rattle.sds_types.specs.declared.world_event.WorldEvent.{WorldEvent}
use Rattle.sds_types.specs.declared.world_event.WorldEvent.TheVariants as event
use Rattle.sds_value.specs.declared.row.Peer.{Peer}
use Rattle.sds_trade.proofs.Lists.{pairs_append, pairs_head, pairs_tail}
use Rattle.sds_trade.specs.rules.Sound.{IsSound}
use Rattle.sds_nodelaws.proofs.Held.{mapped}
use Rattle.sds_nodelaws.proofs.KeyedLists.{pairs_nil}
use Rattle.sds_history.specs.history.Acts.{State}
use Rattle.sds_history.specs.world.Calling.{armed}
use Rattle.sds_history.specs.world.Events.{happened, with_fault}
use Rattle.sds_history.specs.world.Happened.{Happened, Told, quiet, tells}
use Rattle.sds_history.specs.world.Happened.Told.{Crashed}
use Rattle.sds_history.specs.world.Worlds as world
use Rattle.sds_imagelaws.proofs.Tests.{equal, itself}
use Rattle.sds_node.specs.Going.{AreUnread, IsCause, Settles}
use Rattle.sds_node.specs.Meaning.{IsNode}
use Rattle.sds_node.specs.Starting.{keeper_after}
use Rattle.sds_node.specs.declared.node.Node.{Node}
use Rattle.sds_screen.specs.Lines.{crashed_line, shown_of, told_text}
use Rattle.sds_screen.specs.Screen.{text_of_happened}
use Rattle.sds_standing.specs.Standing.{KeepsFor, OpensAs, told_of}
use Rattle.sds_standing.proofs.Calls.{opens_go, settles_go}
use Rattle.sds_stage.specs.Placed.{AreApart, IsNowhere, IsPlaced}
use Rattle.sds_stage.specs.Playing.{HasPlayed, IsStage, Plays, PlaysWorld}
use Rattle.sds_stage.specs.Standing.{AllStand, Stands, undamaged}
use Rattle.sds_stage.specs.declared.stage.Stage.{Stage}
use Rattle.sds_stage.proofs.Staged.{with_node_at}

abbrev Nodes : Type 0
Nodes = List (Node MemKeeper)

-- AN EVENT that happens as is said
played_as : (old new : Stage) (before after : List ℕ) (played : world.World) (event : WorldEvent) (happening : Happened)
    → happened old.config old.noise played event ≡ happening → PlaysWorld new happening.world
    → after ≡ before ++ text_of_happened old.config happening → HasPlayed old new before after played event
played_as old new before after played event happening is plays writes = record {
  plays = subst (λ (h : Happened). PlaysWorld new h.world) (sym is) plays;
  writes = writes ∙ ap (λ (h : Happened). before ++ text_of_happened old.config h) (sym is);
}

-- one that tells something, and leaves the world as it is
told_played : (old new : Stage) (before after : List ℕ) (played : world.World) (event : WorldEvent) (told : Told) (text : List ℕ)
    → happened old.config old.noise played event ≡ tells played told → told_text old.config played told ≡ text → PlaysWorld new played
    → after ≡ before ++ text → HasPlayed old new before after played event
told_played old new before after played event told text is says plays writes =
    played_as old new before after played event (tells played told) is plays
    (writes ∙ ap (λ (t : List ℕ). before ++ t) (sym (append-nil (told_text old.config played told) ∙ says)))

-- A NODE is shown
abbrev pub ShowsAs : Node MemKeeper → Node MemKeeper → List ℕ → List ℕ → (Config → State → List ℕ) → Type 0
ShowsAs node next before after show = (config : Config) (stood : world.Node) → Stands config node stood
    → Stands config next stood × (after ≡ before ++ show config (world.state_in config stood))

pub plays_shown : (old : Stage) (seen : Nodes) (id : List ℕ) (place : ℕ) (node next : Node MemKeeper) (before after : List ℕ)
    (show : Config → State → List ℕ) (told : Told) (event : WorldEvent) → seen ≡ old.nodes.items → IsPlaced id seen place
    → node ≡ slice_index_or old.nodes.items place node → ShowsAs node next before after show
    → ((played : world.World) → happened old.config old.noise played event ≡ tells played told)
    → ((played : world.World) → told_text old.config played told ≡ shown_of old.config played (show old.config) id)
    → Plays old (with_node_at old place next) before after event
plays_shown old seen id place node next before after show told event same placed is shows happens says played plays =
    let at = (subst (λ (l : Nodes). IsPlaced id l place) same placed).at old.config played.nodes plays.apart plays.nodes in
    let went = shows old.config at.stood (at.stands node is) in
    told_played old (with_node_at old place next) before after played event told (show old.config (world.state_in old.config at.stood)) (happens played)
    (says played ∙ ap (λ o. option_map_or (λ (n : world.Node). show old.config (world.state_in old.config n)) o []) at.found)
    (record { nodes = at.stay next went.0; apart = plays.apart }) went.1

-- a node that was settled stands for the same
pub settled_on : (before after : Node MemKeeper) (end : Result (Unit {0}) NodeFault) → end ≡ Ok tt → IsNode IsKeptOpen kept_told after
    → Settles kept_told undamaged before after end → (config : Config) (stood : world.Node) → Stands config before stood → Stands config after stood
settled_on before after end is node settles config stood stands =
    (settles_go IsKeptOpen kept_told undamaged config before after stood end stands node settles refl (λ lacks. absurd (cc))).1.1

-- A NODE begins
all_stand_push : (config : Config) (nodes : Nodes) (stoods : List world.Node) (node : Node MemKeeper) (stood : world.Node) → AllStand config nodes stoods
    → Stands config node stood → AllStand config (nodes ++ node ∷ []) (stoods ++ stood ∷ [])
all_stand_push config [] [] node stood all stands = (stands, tt)
all_stand_push config [] (first ∷ stoods) node stood all stands = absurd all
all_stand_push config (first ∷ nodes) [] node stood all stands = absurd all
all_stand_push config (first ∷ nodes) (other ∷ stoods) node stood all stands = (all.0, all_stand_push config nodes stoods node stood all.1 stands)

abbrev IsntCalled : List ℕ → world.Node → Type 0
IsntCalled id node = (world.me_of node).id ≡ id → ⊥

lost : (id : List ℕ) (nodes : List world.Node) → find (world.has_id id) nodes ≡ None → All (IsntCalled id) nodes
lost id [] is = All-nil (IsntCalled id)
lost id (node ∷ nodes) is = by (world.has_id id node) refl (lost id nodes)
  where
    by : (t : Bool) → world.has_id id node ≡ t → (find (world.has_id id) nodes ≡ None → All (IsntCalled id) nodes) → All (IsntCalled id) (node ∷ nodes)
    by true here on = let found : find (world.has_id id) (node ∷ nodes) ≡ Some node = rw here refl in absurd (cc)
    by false isnt on =
        let later : find (world.has_id id) (node ∷ nodes) ≡ find (world.has_id id) nodes = rw isnt refl in
        All-cons (IsntCalled id) node nodes
        (λ same. true≢false (sym (ap (λ (name : List ℕ). bytes_eq name id) same ∙ itself id) ∙ isnt))
        (on (sym later ∙ is))

each_apart : (new : world.Node) (nodes : List world.Node) → All (IsntCalled (world.me_of new).id) nodes
    → All (λ (node : world.Node). All (AreApart node) (new ∷ [])) nodes
each_apart new nodes apart k d within = All-cons (AreApart (slice_index_or nodes k d)) new [] (apart k d within) (All-nil (AreApart (slice_index_or nodes k d)))

pub plays_begun : (old new : Stage) (me : Peer) (node : Node MemKeeper) → new.config ≡ old.config → new.nodes.items ≡ old.nodes.items ++ node ∷ []
    → Stands old.config node (world.new_node me) → (played : world.World) → PlaysWorld old played → world.node_at played me.id ≡ None
    → HasPlayed old new [] [] played (event.Node me)
plays_begun old new me node same pushed stands played plays none = record {
  plays = record {
    nodes = subst (λ (l : Nodes). AllStand new.config l (played.nodes ++ world.new_node me ∷ [])) (sym pushed)
        (subst (λ (c : Config). AllStand c (old.nodes.items ++ node ∷ []) (played.nodes ++ world.new_node me ∷ [])) (sym same)
        (all_stand_push old.config old.nodes.items played.nodes node (world.new_node me) plays.nodes stands));
    apart = pairs_append AreApart played.nodes (world.new_node me ∷ []) plays.apart
        (AllPairs-cons AreApart (world.new_node me) [] (All-nil (AreApart (world.new_node me))) (pairs_nil AreApart))
        (each_apart (world.new_node me) played.nodes (lost me.id played.nodes none));
  };
  writes = refl;
}

-- A NODE is opened again
pub opened_again : (config : Config) (keeper : MemKeeper) (end : Result (Node MemKeeper) (NodeFault × MemKeeper)) (node : Node MemKeeper) → end ≡ Ok node → IsSound config
    → IfOk end (λ node. IsNode IsKeptOpen kept_told node × ((node.sure ≡ true) × (node.config ≡ config)))
    → kept_told (keeper_after end) ≡ kept_told keeper
    → IfErr end (λ refused. IsCause (AreUnread config) (kept_told keeper) (undamaged keeper) refused.0)
    → (stood : world.Node) → KeepsFor kept_told undamaged config keeper stood → Stands config node stood
opened_again config keeper end node is sound opened told cause stood keeps =
    let opens : OpensAs IsKeptOpen kept_told undamaged config end stood =
    opens_go IsKeptOpen kept_told undamaged config keeper stood end sound keeps opened told refl cause (λ given lacks. absurd (cc)) in
    subst (λ (n : Node MemKeeper). Stands config n stood) (let same : Ok opens.node ≡ Ok node = sym opens.result_is ∙ is in cc) opens.stands

-- in its place
put_back : {X : Type 0} (xs : List X) (i : ℕ) (y : X) → i < length xs → insert (remove xs i) i y ≡ slice_set xs i y
put_back [] i y within = absurd (omega (arith, within))
put_back (x ∷ xs) zero y within = refl
put_back (x ∷ xs) (suc i) y within = ap (λ l. x ∷ l) (put_back xs i y (omega (arith, within)))

pub all_without : {X : Type 0} (P : X → Type 0) (xs ys : List X) (i : ℕ) → All P xs → ys ≡ remove xs i → All P ys
all_without P xs ys i all is = subst (All P) (sym is)
    (All-append P (take i xs) (drop (suc i) xs) (All-take P i xs all) (All-drop P (suc i) xs all))

-- what a node at a place that was opened again stands for
abbrev pub Reopens : Config → (world.Node → world.Node) → Nodes → Nodes → ℕ → Type 0
Reopens config next old new place = (before : Node MemKeeper) × ((after : Node MemKeeper)
    × ((before ≡ slice_index_or old place before) × ((new ≡ slice_set old place after)
    × ((stood : world.Node) → Stands config before stood → Stands config after (next stood)))))

pub all_with : {X : Type 0} {A E : Type 0} (P : X → Type 0) (xs ys : List X) (i : ℕ) (x : X) (end : Result A E) → OnOk end (ys ≡ insert xs i x) → OnErr end (ys ≡ xs)
    → All P xs → P x → All P ys
all_with P xs ys i x (Ok done) ok err all is = subst (All P) (sym ok)
    (All-append P (take i xs) (x ∷ drop i xs) (All-take P i xs all) (All-cons P x (drop i xs) is (All-drop P i xs all)))
all_with P xs ys i x (Err none) ok err all is = subst (All P) (sym err) all

pub reopens : {A E : Type 0} (config : Config) (next : world.Node → world.Node) (old left new : Nodes) (place : ℕ) (before after : Node MemKeeper) (end : Result A E)
    → place < length old → before ≡ slice_index_or old place before → left ≡ remove old place → OnOk end (new ≡ insert left place after)
    → ((stood : world.Node) → Stands config before stood → Stands config after (next stood)) → OnOk end (Reopens config next old new place)
reopens config next old left new place before after (Ok done) within is without put stands =
    (before, (after, (is, (put ∙ (ap (λ (l : Nodes). insert l place after) without ∙ put_back old place after within), stands))))
reopens config next old left new place before after (Err none) within is without put stands = tt

pub plays_crashed : (old new : Stage) (seen : Nodes) (id : List ℕ) (place : ℕ) (before after : List ℕ) → new.config ≡ old.config → seen ≡ old.nodes.items
    → IsPlaced id seen place → Reopens old.config (λ stood. stood) old.nodes.items new.nodes.items place → after ≡ before ++ crashed_line id
    → Plays old new before after (event.Crash id)
plays_crashed old new seen id place before after config same placed opens writes played plays =
    let at = (subst (λ (l : Nodes). IsPlaced id l place) same placed).at old.config played.nodes plays.apart plays.nodes in
    told_played old new before after played (event.Crash id) (Crashed id) (crashed_line id) refl refl
    (record {
      nodes = subst (λ (c : Config). AllStand c new.nodes.items played.nodes) (sym config) (subst (λ (l : Nodes). AllStand old.config l played.nodes) (sym opens.1.1.1.0)
          (at.stay opens.1.0 (opens.1.1.1.1 at.stood (at.stands opens.0 opens.1.1.0))));
      apart = plays.apart;
    }) writes

pub plays_uncrashed : (old : Stage) (id before after : List ℕ) → after ≡ before ++ crashed_line id → Plays old old before after (event.Crash id)
plays_uncrashed old id before after writes played plays =
    told_played old old before after played (event.Crash id) (Crashed id) (crashed_line id) refl refl plays writes

-- A FAULT is armed: the keeper keeps for the node with that fault
fates_armed : (reads : List ℕ) (commits : List FailAt) (fates faults : List Bool) (stands : Bool) → fates_of reads commits fates ≡ Some faults
    → fates_of reads commits (fates ++ stands ∷ []) ≡ Some (faults ++ stands ∷ [])
fates_armed [] [] fates faults stands is = ap (λ o. option_map (λ (l : List Bool). l ++ stands ∷ []) o) is
fates_armed [] (first ∷ commits) fates faults stands is = absurd (cc)
fates_armed (first ∷ reads) [] fates faults stands is = absurd (cc)
fates_armed (first ∷ reads) (other ∷ commits) fates faults stands is = absurd (cc)

told_armed : (old new : MemKeeper) (told : Keeping) (faults : List Bool) (stands : Bool) → kept_told old ≡ told → told.fates ≡ Some faults
    → kept_armed new ≡ kept_armed old ++ stands ∷ [] → AreAsBefore old new
    → kept_told new ≡ record { records = told.records; fates = Some (faults ++ stands ∷ []) }
told_armed old new told faults stands is fates armed same =
    let before : fates_of (kept_reads old) (kept_commits old) (kept_armed old) ≡ Some faults = ap (λ (k : Keeping). k.fates) is ∙ fates in
    let after : fates_of (kept_reads new) (kept_commits new) (kept_armed new) ≡ Some (faults ++ stands ∷ []) =
    ap (λ (l : List ℕ). fates_of l (kept_commits new) (kept_armed new)) same.reads
    ∙ (ap (λ (l : List FailAt). fates_of (kept_reads old) l (kept_armed new)) same.commits
    ∙ (ap (λ (l : List Bool). fates_of (kept_reads old) (kept_commits old) l) armed
    ∙ fates_armed (kept_reads old) (kept_commits old) (kept_armed old) faults stands before)) in
    ap (λ r. record { records = r; fates = kept_fates new }) (same.records ∙ ap (λ (k : Keeping). k.records) is)
    ∙ ap (λ f. record { records = told.records; fates = f }) after

pub keeps_armed : (config : Config) (old new : MemKeeper) (stood : world.Node) (stands : Bool) → kept_armed new ≡ kept_armed old ++ stands ∷ []
    → AreAsBefore old new → KeepsFor kept_told undamaged config old stood → KeepsFor kept_told undamaged config new (armed stood stands)
keeps_armed config old new stood stands more same keeps = record {
  calls = keeps.calls;
  made = keeps.made;
  sound = keeps.sound;
  held = keeps.held;
  told = told_armed old new (told_of config stood) stood.faults stands keeps.told refl more same;
  whole = refl;
}

one_id : (next node : world.Node) → (world.me_of (world.one_for next node)).id ≡ (world.me_of node).id
one_id next node = on (world.has_id (world.me_of next).id node) refl
  where
    on : (t : Bool) → world.has_id (world.me_of next).id node ≡ t → (world.me_of (cond t next node)).id ≡ (world.me_of node).id
    on true is = sym (equal (world.me_of node).id (world.me_of next).id is)
    on false is = refl

ids_stay : (next : world.Node) (nodes : List world.Node) → AllPairs AreApart nodes → AllPairs AreApart (map (world.one_for next) nodes)
ids_stay next [] apart = pairs_nil AreApart
ids_stay next (node ∷ nodes) apart =
    AllPairs-cons AreApart (world.one_for next node) (map (world.one_for next) nodes)
    (All-map (AreApart (world.one_for next node)) (world.one_for next) nodes
    (mapped (AreApart node) (λ (other : world.Node). AreApart (world.one_for next node) (world.one_for next other)) nodes
    (λ other isnt same. isnt (sym (one_id next node) ∙ (same ∙ one_id next other))) (pairs_head AreApart node nodes apart)))
    (ids_stay next nodes (pairs_tail AreApart node nodes apart))

pub plays_armed : (old new : Stage) (seen : Nodes) (id : List ℕ) (place : ℕ) (stands : Bool) → new.config ≡ old.config → seen ≡ old.nodes.items
    → IsPlaced id seen place → Reopens old.config (λ stood. armed stood stands) old.nodes.items new.nodes.items place
    → Plays old new [] [] (event.Fault id stands)
plays_armed old new seen id place stands config same placed opens played plays =
    let at = (subst (λ (l : Nodes). IsPlaced id l place) same placed).at old.config played.nodes plays.apart plays.nodes in
    played_as old new [] [] played (event.Fault id stands) (quiet (world.with_node played (armed at.stood stands)))
    (ap (λ o. with_fault played stands o) at.found)
    (record {
      nodes = subst (λ (c : Config). AllStand c new.nodes.items (map (world.one_for (armed at.stood stands)) played.nodes)) (sym config)
          (subst (λ (l : Nodes). AllStand old.config l (map (world.one_for (armed at.stood stands)) played.nodes)) (sym opens.1.1.1.0)
          (at.put opens.1.0 (armed at.stood stands) at.called (opens.1.1.1.1 at.stood (at.stands opens.0 opens.1.1.0))));
      apart = ids_stay (armed at.stood stands) played.nodes plays.apart;
    }) refl

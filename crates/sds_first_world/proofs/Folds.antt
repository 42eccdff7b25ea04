-- The tables of each node of a scenario are a fold of its writes and of fronts of batches.
use Rattle.std.proofs.Common.{◌≡◌, ℕ, Bool, true, false, ◌&&◌, ◌==◌, List, [], ◌∷◌, ◌++◌, get_or, All, refl, sym, ap, subst, ◌∙◌}
use Rattle.std.specs.Prelude.{if◌then◌else◌}
use Rattle.std.specs.Str.{bytes_eq}
use Rattle.std.proofs.lemmas.List.Elements.{All-nil, All-cons}
use Rattle.sds_first_spec.specs.declared.row.LoadRow.{LoadRow}
use Rattle.sds_types.specs.declared.row.TableRow.{TableRow}
use Rattle.sds_types.specs.declared.tx_row.TxRow.{TxRow}
use Rattle.sds_first_spec.specs.Acts.{Act, State, History}
use Rattle.sds_first_spec.specs.Acts.Act.{Wrote, Routed, Loaded, Acked}
use Rattle.sds_first_spec.specs.History.{tables_of}
use Rattle.sds_first_spec.specs.InStep.{InStep, Taken, taken_of}
use Rattle.sds_first_spec.specs.One.{one, paired}
use Rattle.sds_first_spec.specs.World.{World}
use Rattle.sds_first_laws.specs.Pairs.{PairFacts}
use Rattle.sds_first_world.specs.declared.place.Place.{Place}
use Rattle.sds_first_world.specs.Looking.{corp, s1}
use Rattle.sds_first_world.specs.Playing.{beginning}
use Rattle.sds_first_world.specs.Headline.{Change, changes_in, with_change, folded, brought_in, GoesOnce, AreFolded, AreFront, TablesAreFolds, world_at}
use Rattle.sds_first_world.specs.Headline.Change.{Accepted, Brought}
use Rattle.sds_first_world.specs.Shapes.{Shaped}
use Rattle.sds_first_world.proofs.Always.{shaped_in_step, shaped_always}
use Rattle.sds_first_world.proofs.Stepping.{pair_facts, by_four, early}

-- one more behind the others
folded_last : (tables : List TableRow) (changes : List Change) (change : Change) → folded tables (changes ++ change ∷ []) ≡ with_change (folded tables changes) change
folded_last tables [] change = refl
folded_last tables (first ∷ changes) change = folded_last (with_change tables first) changes change

-- a node that began without rows
pub are_folded : (opening : State) (acts : List Act) → opening.tables ≡ [] → tables_of one opening acts ≡ folded [] (changes_in acts)
are_folded opening [] none = none
are_folded opening (Wrote writer number rows ∷ acts) none =
    ap (λ (tables : List TableRow). with_change tables (Accepted rows)) (are_folded opening acts none) ∙ sym (folded_last [] (changes_in acts) (Accepted rows))
are_folded opening (Routed ∷ acts) none = are_folded opening acts none
are_folded opening (Loaded from channel batch rows ∷ acts) none =
    ap (λ (tables : List TableRow). with_change tables (Brought from channel batch rows)) (are_folded opening acts none) ∙ sym (folded_last [] (changes_in acts) (Brought from channel batch rows))
are_folded opening (Acked from acks ∷ acts) none = are_folded opening acts none

-- the batches of a lane among the changes are those that were taken
brought_accepted : (sender : List ℕ) (channel : ℕ) (changes : List Change) (rows : List TxRow) → brought_in sender channel (changes ++ Accepted rows ∷ []) ≡ brought_in sender channel changes
brought_accepted sender channel [] rows = refl
brought_accepted sender channel (Accepted first ∷ changes) rows = brought_accepted sender channel changes rows
brought_accepted sender channel (Brought from place batch first ∷ changes) rows =
    ap (λ (l : List Taken). if bytes_eq from sender && place == channel then (batch, first) ∷ l else l) (brought_accepted sender channel changes rows)

onto_if : (a b : Bool) (first last : Taken) (taken : List Taken) → (if a then first ∷ (if b then taken ++ last ∷ [] else taken) else (if b then taken ++ last ∷ [] else taken))
    ≡ (if b then (if a then first ∷ taken else taken) ++ last ∷ [] else (if a then first ∷ taken else taken))
onto_if true true first last taken = refl
onto_if true false first last taken = refl
onto_if false true first last taken = refl
onto_if false false first last taken = refl

brought_last : (sender : List ℕ) (channel : ℕ) (changes : List Change) (from : List ℕ) (place batch : ℕ) (rows : List LoadRow) → brought_in sender channel (changes ++ Brought from place batch rows ∷ [])
    ≡ (if bytes_eq from sender && place == channel then brought_in sender channel changes ++ (batch, rows) ∷ [] else brought_in sender channel changes)
brought_last sender channel [] from place batch rows = refl
brought_last sender channel (Accepted first ∷ changes) from place batch rows = brought_last sender channel changes from place batch rows
brought_last sender channel (Brought from' place' batch' first ∷ changes) from place batch rows =
    ap (λ (l : List Taken). if bytes_eq from' sender && place' == channel then (batch', first) ∷ l else l) (brought_last sender channel changes from place batch rows)
    ∙ onto_if (bytes_eq from' sender && place' == channel) (bytes_eq from sender && place == channel) (batch', first) (batch, rows) (brought_in sender channel changes)

pub brought_is : (sender : List ℕ) (channel : ℕ) (acts : List Act) → brought_in sender channel (changes_in acts) ≡ taken_of sender channel acts
brought_is sender channel [] = refl
brought_is sender channel (Wrote writer number rows ∷ acts) = brought_accepted sender channel (changes_in acts) rows ∙ brought_is sender channel acts
brought_is sender channel (Routed ∷ acts) = brought_is sender channel acts
brought_is sender channel (Loaded from place batch rows ∷ acts) =
    brought_last sender channel (changes_in acts) from place batch rows
    ∙ ap (λ (l : List Taken). if bytes_eq from sender && place == channel then l ++ (batch, rows) ∷ [] else l) (brought_is sender channel acts)
brought_is sender channel (Acked from acks ∷ acts) = brought_is sender channel acts

-- WORLDS
abbrev AllFolded : World → Type 0
AllFolded w = All AreFolded w.nodes

all_folded : (place : Place) (w : World) (count : ℕ) → Shaped place w count → AllFolded w
all_folded place w count shaped =
    by_four (AllFolded w) place.openings (place.openings == 4) refl shaped.most
    (λ lt. early AllFolded place w count shaped lt (All-nil AreFolded) (All-cons AreFolded (beginning corp) [] refl (All-nil AreFolded))
    (All-cons AreFolded (beginning corp) (beginning s1 ∷ []) refl (All-cons AreFolded (beginning s1) [] refl (All-nil AreFolded))))
    (λ is. (let facts : PairFacts corp s1 w = pair_facts w (shaped.met is) in
    subst AllFolded (sym facts.is) (All-cons AreFolded (record { opening = paired corp s1; acts = facts.mine }) (record { opening = paired s1 corp; acts = facts.acts } ∷ [])
    (are_folded (paired corp s1) facts.mine refl)
    (All-cons AreFolded (record { opening = paired s1 corp; acts = facts.acts }) [] (are_folded (paired s1 corp) facts.acts refl) (All-nil AreFolded)))))

lanes_front : (w : World) → InStep one w → All (λ (sender : History). All (AreFront sender) w.nodes) w.nodes
lanes_front w is = λ k d inside j e within.
    (λ channel. brought_is (get_or w.nodes k d).opening.me.id channel (get_or w.nodes j e).acts ∙ (is.lanes k d inside j e within channel).front)

folds_by : (place : Place) (w : World) (count : ℕ) → Shaped place w count → TablesAreFolds w
folds_by place w count shaped =
    let is : InStep one w = shaped_in_step place w count shaped in
    record { folds = all_folded place w count shaped; fronts = lanes_front w is; from_nodes = is.from_nodes }

pub always_folds : (text : List ℕ) (n : ℕ) → TablesAreFolds (world_at text n)
always_folds text n = shaped_always TablesAreFolds folds_by true text n

once_by : (place : Place) (w : World) (count : ℕ) → Shaped place w count → GoesOnce w
once_by place w count shaped = let is : InStep one w = shaped_in_step place w count shaped in record { once = is.routed; to_peers = is.to_peers }

pub always_once : (text : List ℕ) (n : ℕ) → GoesOnce (world_at text n)
always_once text n = shaped_always GoesOnce once_by true text n

-- A new node joins those of a stage, and stands for a new node of the world.
use Rattle.std.proofs.Common.{◌≡◌, ℕ, Bool, true, false, cond, List, [], ◌∷◌, ◌++◌, Option, None, Some, refl, sym, ap, subst, ◌∙◌, true≢false}
use Rattle.std.specs.List.{All, AllPairs, find}
use Rattle.std.proofs.lemmas.List.Elements.{All-append, All-cons, All-nil}
use Rattle.std.proofs.lemmas.List.Kept.{AllPairs-cons}
use Rattle.sds_outside.specs.MemKeeping.{IsKeptOpen, fates_of, kept_armed, kept_commits, kept_reads, kept_records, kept_told}
use Rattle.sds_outside.specs.Records.{Record, in_key_order}
use Rattle.sds_outside.specs.declared.mem_keeper.FailAt.{FailAt}
use Rattle.sds_outside.specs.declared.mem_keeper.MemKeeper.{MemKeeper}
use Rattle.sds_types.specs.declared.config.Config.{Config}
use Rattle.sds_trade.proofs.Lists.{all_head, all_tail, pairs_head, pairs_tail}
use Rattle.sds_nodelaws.proofs.KeyedLists.{pairs_nil}
use Rattle.sds_history.specs.world.Worlds as world
use Rattle.sds_imagelaws.proofs.Tests.{itself}
use Rattle.std.specs.Str.{bytes_eq}
use Rattle.sds_node.specs.Meaning.{IsNode}
use Rattle.sds_node.specs.declared.node.Node.{Node}
use Rattle.sds_standing.specs.Standing.{empty_keeping}
use Rattle.sds_stage.specs.Placed.{AreApart}
use Rattle.sds_stage.specs.Standing.{AllStand, Stands}

-- a keeper without records that won't fail
pub told_empty : (keeper : MemKeeper) (records : List Record) → records ≡ [] → kept_records keeper ≡ Some (in_key_order records) → kept_reads keeper ≡ []
    → kept_commits keeper ≡ [] → kept_armed keeper ≡ [] → kept_told keeper ≡ empty_keeping
told_empty keeper records none kept reads commits armed =
    ap (λ (told : Option (List Record)). record { records = told; fates = fates_of (kept_reads keeper) (kept_commits keeper) (kept_armed keeper) })
    (kept ∙ ap (λ (l : List Record). Some (in_key_order l)) none)
    ∙ (ap (λ l. record { records = Some []; fates = fates_of l (kept_commits keeper) (kept_armed keeper) }) reads
    ∙ (ap (λ (l : List FailAt). record { records = Some []; fates = fates_of [] l (kept_armed keeper) }) commits
    ∙ ap (λ (l : List Bool). record { records = Some []; fates = Some l }) armed))

-- it stands after the others
pub stand_more : (config : Config) (nodes : List (Node MemKeeper)) (stoods : List world.Node) (node : Node MemKeeper) (stood : world.Node)
    → AllStand config nodes stoods → Stands config node stood → AllStand config (nodes ++ node ∷ []) (stoods ++ stood ∷ [])
stand_more config [] [] node stood all stands = (stands, tt)
stand_more config [] (other ∷ others) node stood all stands = absurd all
stand_more config (first ∷ nodes) [] node stood all stands = absurd all
stand_more config (first ∷ nodes) (other ∷ others) node stood all stands = (all.0, stand_more config nodes others node stood all.1 stands)

-- and its id is its own
found_none : (id : List ℕ) (other : world.Node) (others : List world.Node) (b : Bool) → world.has_id id other ≡ b
    → cond b (Some other) (find (world.has_id id) others) ≡ None → (b ≡ false) × (find (world.has_id id) others ≡ None)
found_none id other others true is none = absurd (cc)
found_none id other others false is none = (refl, none)

pub none_has : (id : List ℕ) (stoods : List world.Node) → find (world.has_id id) stoods ≡ None → All (λ (other : world.Node). (world.me_of other).id ≡ id → ⊥) stoods
none_has id [] none = All-nil (λ (other : world.Node). (world.me_of other).id ≡ id → ⊥)
none_has id (other ∷ others) none =
    let both = found_none id other others (world.has_id id other) refl none in
    All-cons (λ (other : world.Node). (world.me_of other).id ≡ id → ⊥) other others
    (λ same. absurd (true≢false (sym (ap (λ name. bytes_eq name id) same ∙ itself id) ∙ both.0)))
    (none_has id others both.1)

pub apart_more : (stoods : List world.Node) (new : world.Node) → AllPairs AreApart stoods
    → All (λ (other : world.Node). (world.me_of other).id ≡ (world.me_of new).id → ⊥) stoods → AllPairs AreApart (stoods ++ new ∷ [])
apart_more [] new apart none = AllPairs-cons AreApart new [] (All-nil (AreApart new)) (pairs_nil AreApart)
apart_more (stood ∷ others) new apart none =
    AllPairs-cons AreApart stood (others ++ new ∷ [])
    (All-append (AreApart stood) others (new ∷ []) (pairs_head AreApart stood others apart)
    (All-cons (AreApart stood) new [] (all_head (λ (other : world.Node). (world.me_of other).id ≡ (world.me_of new).id → ⊥) stood others none) (All-nil (AreApart stood))))
    (apart_more others new (pairs_tail AreApart stood others apart)
    (all_tail (λ (other : world.Node). (world.me_of other).id ≡ (world.me_of new).id → ⊥) stood others none))

-- all are nodes
pub nodes_more : (nodes after : List (Node MemKeeper)) (node : Node MemKeeper) → All (λ (n : Node MemKeeper). IsNode IsKeptOpen kept_told n) nodes
    → IsNode IsKeptOpen kept_told node → after ≡ nodes ++ node ∷ [] → All (λ (n : Node MemKeeper). IsNode IsKeptOpen kept_told n) after
nodes_more nodes after node all is same =
    subst (All (λ (n : Node MemKeeper). IsNode IsKeptOpen kept_told n)) (sym same)
    (All-append (λ (n : Node MemKeeper). IsNode IsKeptOpen kept_told n) nodes (node ∷ []) all
    (All-cons (λ (n : Node MemKeeper). IsNode IsKeptOpen kept_told n) node [] is (All-nil (λ (n : Node MemKeeper). IsNode IsKeptOpen kept_told n))))

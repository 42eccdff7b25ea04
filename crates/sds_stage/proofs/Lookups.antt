-- The node of an id among those of a rehearsal, and the one that it stands for.
use Rattle.std.proofs.Common.{◌≡◌, ℕ, ◌+◌, ◌<◌, ◌≤◌, suc, Bool, true, false, List, [], ◌∷◌, length, map, Option, None, Some, refl, sym, ap, subst, ◌∙◌, arith, true≢false}
use Rattle.std.specs.Prelude.{nat_lt, if◌then◌else◌, MatchOption}
use Rattle.std.specs.List.{AllPairs, find, position, position_or_len}
use Rattle.std.specs.Str.{bytes_eq}
use Rattle.std.proofs.lemmas.Bool.Decides.{nat_tests}
use Rattle.sds_outside.specs.declared.mem_keeper.MemKeeper.{MemKeeper}
use Rattle.sds_types.specs.declared.config.Config.{Config}
use Rattle.sds_trade.proofs.Lists.{all_head, all_tail, pairs_head, pairs_tail}
use Rattle.std.specs.List.{All}
use Rattle.sds_history.specs.world.Worlds as world
use Rattle.sds_imagelaws.proofs.Tests.{differs, equal, itself}
use Rattle.sds_node.specs.Meaning.{has}
use Rattle.sds_node.specs.declared.node.Node.{Node}
use Rattle.sds_stage.specs.Placed.{AreApart, IsNowhere, IsPlaced, NodeAt, is_called}
use Rattle.sds_stage.specs.Standing.{AllStand, Stands}

abbrev Nodes : Type 0
Nodes = List (Node MemKeeper)

one_plus : (n : ℕ) → 1 + n ≡ suc n
one_plus n = omega arith

place_here : (id : List ℕ) (node : Node MemKeeper) (nodes : Nodes) → is_called id node ≡ true → position_or_len (is_called id) (node ∷ nodes) ≡ 0
place_here id node nodes is = rw is refl

place_later : (id : List ℕ) (node : Node MemKeeper) (nodes : Nodes) → is_called id node ≡ false
    → position_or_len (is_called id) (node ∷ nodes) ≡ suc (position_or_len (is_called id) nodes)
place_later id node nodes is = rw is (one_plus (position_or_len (is_called id) nodes))

-- a node and the one that it stands for have one id
own_id : (config : Config) (node : Node MemKeeper) (stood : world.Node) → Stands config node stood → (has node).me.id ≡ (world.me_of stood).id
own_id config node stood stands = ap (λ me. me.id) stands.me_is

called_both : (config : Config) (id : List ℕ) (node : Node MemKeeper) (stood : world.Node) (t : Bool) → Stands config node stood → is_called id node ≡ t → world.has_id id stood ≡ t
called_both config id node stood t stands is = ap (λ (name : List ℕ). bytes_eq name id) (sym (own_id config node stood stands)) ∙ is

-- those that another id have stay as they are
others_stay : (next : world.Node) (others : List world.Node) → All (λ (other : world.Node). (world.me_of next).id ≡ (world.me_of other).id → ⊥) others
    → map (world.one_for next) others ≡ others
others_stay next [] apart = refl
others_stay next (other ∷ others) apart =
    let isnt : world.has_id (world.me_of next).id other ≡ false =
    differs (world.me_of other).id (world.me_of next).id
    (λ same. all_head (λ (other : world.Node). (world.me_of next).id ≡ (world.me_of other).id → ⊥) other others apart (sym same)) in
    rw isnt (ap (λ (rest : List world.Node). other ∷ rest)
    (others_stay next others (all_tail (λ (other : world.Node). (world.me_of next).id ≡ (world.me_of other).id → ⊥) other others apart)))

found_here : (config : Config) (id : List ℕ) (node : Node MemKeeper) (nodes : Nodes) (stood : world.Node) (others : List world.Node) → is_called id node ≡ true
    → All (AreApart stood) others → Stands config node stood → AllStand config nodes others → NodeAt config id (node ∷ nodes) 0 (stood ∷ others)
found_here config id node nodes stood others is apart first rest =
    let here : world.has_id id stood ≡ true = called_both config id node stood true first is in
    let called : (world.me_of stood).id ≡ id = equal (world.me_of stood).id id here in
    record {
      stood = stood;
      called = called;
      found = rw here refl;
      stands = λ other same. subst (λ (n : Node MemKeeper). Stands config n stood) (sym same) first;
      stay = λ other stands. (stands, rest);
      put = λ other next named stands.
          let own : world.has_id (world.me_of next).id stood ≡ true =
          ap (λ (name : List ℕ). bytes_eq (world.me_of stood).id name) (named ∙ sym called) ∙ itself (world.me_of stood).id in
          rw own (
            stands,
            subst (λ (l : List world.Node). AllStand config nodes l) (sym (others_stay next others
                (subst (λ (name : List ℕ). All (λ (other : world.Node). name ≡ (world.me_of other).id → ⊥) others) (called ∙ sym named) apart))) rest,
          );
    }

found_later : (config : Config) (id : List ℕ) (node : Node MemKeeper) (nodes : Nodes) (stood : world.Node) (others : List world.Node) (place : ℕ) → is_called id node ≡ false
    → Stands config node stood → NodeAt config id nodes place others → NodeAt config id (node ∷ nodes) (suc place) (stood ∷ others)
found_later config id node nodes stood others place is first at =
    let there : world.has_id id stood ≡ false = called_both config id node stood false first is in
    record {
      stood = at.stood;
      called = at.called;
      found = rw there at.found;
      stands = at.stands;
      stay = λ other stands. (first, at.stay other stands);
      put = λ other next named stands.
          let apart : world.has_id (world.me_of next).id stood ≡ false = ap (λ (name : List ℕ). bytes_eq (world.me_of stood).id name) named ∙ there in
          rw apart (first, at.put other next named stands);
    }

at_by : (config : Config) (id : List ℕ) (node : Node MemKeeper) (nodes : Nodes) (stood : world.Node) (others : List world.Node) (t : Bool) → is_called id node ≡ t
    → All (AreApart stood) others → Stands config node stood → AllStand config nodes others
    → (position_or_len (is_called id) nodes < length nodes → NodeAt config id nodes (position_or_len (is_called id) nodes) others)
    → position_or_len (is_called id) (node ∷ nodes) < length (node ∷ nodes)
    → NodeAt config id (node ∷ nodes) (position_or_len (is_called id) (node ∷ nodes)) (stood ∷ others)
at_by config id node nodes stood others true is apart first rest on within =
    subst (λ (k : ℕ). NodeAt config id (node ∷ nodes) k (stood ∷ others)) (sym (place_here id node nodes is))
    (found_here config id node nodes stood others is apart first rest)
at_by config id node nodes stood others false is apart first rest on within =
    let later : position_or_len (is_called id) (node ∷ nodes) ≡ suc (position_or_len (is_called id) nodes) = place_later id node nodes is in
    subst (λ (k : ℕ). NodeAt config id (node ∷ nodes) k (stood ∷ others)) (sym later)
    (found_later config id node nodes stood others (position_or_len (is_called id) nodes) is first (on (omega (arith, within, later))))

at_first : (config : Config) (id : List ℕ) (nodes : Nodes) (stoods : List world.Node) → AllPairs AreApart stoods → AllStand config nodes stoods
    → position_or_len (is_called id) nodes < length nodes → NodeAt config id nodes (position_or_len (is_called id) nodes) stoods
at_first config id [] [] apart stand within = absurd (omega (arith, within))
at_first config id [] (stood ∷ others) apart stand within = absurd stand
at_first config id (node ∷ nodes) [] apart stand within = absurd stand
at_first config id (node ∷ nodes) (stood ∷ others) apart stand within =
    at_by config id node nodes stood others (is_called id node) refl (pairs_head AreApart stood others apart) stand.0 stand.1
    (at_first config id nodes others (pairs_tail AreApart stood others apart) stand.1) within

found_by : (k whole place : ℕ) (b : Bool) → nat_lt k whole ≡ b → (if b then Some k else None) ≡ Some place → (k ≡ place) × (k < whole)
found_by k whole place true test is = (cc, grind (arith, nat_tests))
found_by k whole place false test is = absurd (cc)

lost_by : (k whole : ℕ) (b : Bool) → nat_lt k whole ≡ b → (if b then Some k else None) ≡ None → whole ≤ k
lost_by k whole true test is = absurd (cc)
lost_by k whole false test is = grind (arith, nat_tests)

absent_by : (config : Config) (id : List ℕ) (node : Node MemKeeper) (nodes : Nodes) (stood : world.Node) (others : List world.Node) (t : Bool) → is_called id node ≡ t
    → Stands config node stood → (length nodes ≤ position_or_len (is_called id) nodes → find (world.has_id id) others ≡ None)
    → length (node ∷ nodes) ≤ position_or_len (is_called id) (node ∷ nodes) → find (world.has_id id) (stood ∷ others) ≡ None
absent_by config id node nodes stood others true is first on far =
    let here : position_or_len (is_called id) (node ∷ nodes) ≡ 0 = place_here id node nodes is in absurd (omega (arith, far, here))
absent_by config id node nodes stood others false is first on far =
    let there : world.has_id id stood ≡ false = called_both config id node stood false first is in
    let later : position_or_len (is_called id) (node ∷ nodes) ≡ suc (position_or_len (is_called id) nodes) = place_later id node nodes is in
    rw there (on (omega (arith, far, later)))

absent : (config : Config) (id : List ℕ) (nodes : Nodes) (stoods : List world.Node) → AllStand config nodes stoods
    → length nodes ≤ position_or_len (is_called id) nodes → find (world.has_id id) stoods ≡ None
absent config id [] [] stand far = refl
absent config id [] (stood ∷ others) stand far = absurd stand
absent config id (node ∷ nodes) [] stand far = absurd stand
absent config id (node ∷ nodes) (stood ∷ others) stand far =
    absent_by config id node nodes stood others (is_called id node) refl stand.0 (absent config id nodes others stand.1) far

-- where a place was found, and where none was
pub placed : (id : List ℕ) (nodes : Nodes) (r : Option ℕ) → r ≡ position (is_called id) nodes → MatchOption r (IsNowhere id nodes) (IsPlaced id nodes)
placed id nodes (Some place) is =
    let found : (position_or_len (is_called id) nodes ≡ place) × (position_or_len (is_called id) nodes < length nodes) =
    found_by (position_or_len (is_called id) nodes) (length nodes) place (nat_lt (position_or_len (is_called id) nodes) (length nodes)) refl (sym is) in
    record {
      within = omega (arith, found.0, found.1);
      at = λ config stoods apart stand. subst (λ (k : ℕ). NodeAt config id nodes k stoods) found.0 (at_first config id nodes stoods apart stand found.1);
    }
placed id nodes None is =
    let far : length nodes ≤ position_or_len (is_called id) nodes =
    lost_by (position_or_len (is_called id) nodes) (length nodes) (nat_lt (position_or_len (is_called id) nodes) (length nodes)) refl (sym is) in
    record { absent = λ config stoods stand. absent config id nodes stoods stand far }

-- The node of an id among those of a stage, and its history in the world.
use Rattle.std.proofs.Common.{◌≡◌, ℕ, ◌+◌, ◌<◌, ◌≤◌, suc, Bool, true, false, List, [], ◌∷◌, ◌++◌, length, Option, None, Some, refl, sym, ap, subst, ◌∙◌, arith}
use Rattle.std.specs.Prelude.{nat_lt, if◌then◌else◌, MatchOption}
use Rattle.std.specs.List.{position, position_or_len}
use Rattle.std.specs.Str.{bytes_eq}
use Rattle.std.proofs.lemmas.Bool.Decides.{nat_tests}
use Rattle.sds_first_spec.specs.Acts.{Act, History}
use Rattle.sds_first_spec.specs.Happens.{with_history_acts}
use Rattle.sds_first_spec.specs.World.{history_of, is_node, with_acts}
use Rattle.sds_first_world.specs.declared.nodes.Named.{Named}
use Rattle.sds_first_world.specs.Playing.{is_called, NodePlays, NodesPlay, HistoryAt, IsNowhere, IsPlaced}

one_plus : (n : ℕ) → 1 + n ≡ suc n
one_plus n = omega arith

place_here : (id : List ℕ) (named : Named) (nodes : List Named) → bytes_eq named.id id ≡ true → position_or_len (is_called id) (named ∷ nodes) ≡ 0
place_here id named nodes is = rw is refl

place_later : (id : List ℕ) (named : Named) (nodes : List Named) → bytes_eq named.id id ≡ false → position_or_len (is_called id) (named ∷ nodes) ≡ suc (position_or_len (is_called id) nodes)
place_later id named nodes is = rw is (one_plus (position_or_len (is_called id) nodes))

found_here : (id : List ℕ) (named : Named) (nodes : List Named) (h : History) (hs : List History) → bytes_eq named.id id ≡ true → NodePlays named h → NodesPlay nodes hs → HistoryAt id (named ∷ nodes) 0 (h ∷ hs)
found_here id named nodes h hs is first others =
    let node : is_node id h ≡ true = ap (λ (name : List ℕ). bytes_eq name id) (sym first.called) ∙ is in
    record {
      h = h;
      found = rw node refl;
      plays = λ other same. subst (λ (n : Named). NodePlays n h) (sym same) first;
      put = λ other acts plays. rw node (plays, others);
    }

found_later : (id : List ℕ) (named : Named) (nodes : List Named) (h : History) (hs : List History) (place : ℕ) → bytes_eq named.id id ≡ false → NodePlays named h → HistoryAt id nodes place hs
    → HistoryAt id (named ∷ nodes) (suc place) (h ∷ hs)
found_later id named nodes h hs place is first at =
    let node : is_node id h ≡ false = ap (λ (name : List ℕ). bytes_eq name id) (sym first.called) ∙ is in
    record {
      h = at.h;
      found = rw node at.found;
      plays = at.plays;
      put = λ other acts plays. rw node (first, at.put other acts plays);
    }

at_by : (id : List ℕ) (named : Named) (nodes : List Named) (h : History) (hs : List History) (t : Bool) → bytes_eq named.id id ≡ t → NodePlays named h → NodesPlay nodes hs
    → (position_or_len (is_called id) nodes < length nodes → HistoryAt id nodes (position_or_len (is_called id) nodes) hs) → position_or_len (is_called id) (named ∷ nodes) < length (named ∷ nodes)
    → HistoryAt id (named ∷ nodes) (position_or_len (is_called id) (named ∷ nodes)) (h ∷ hs)
at_by id named nodes h hs true is first others on within =
    subst (λ (k : ℕ). HistoryAt id (named ∷ nodes) k (h ∷ hs)) (sym (place_here id named nodes is)) (found_here id named nodes h hs is first others)
at_by id named nodes h hs false is first others on within =
    let later : position_or_len (is_called id) (named ∷ nodes) ≡ suc (position_or_len (is_called id) nodes) = place_later id named nodes is in
    subst (λ (k : ℕ). HistoryAt id (named ∷ nodes) k (h ∷ hs)) (sym later)
    (found_later id named nodes h hs (position_or_len (is_called id) nodes) is first (on (omega (arith, within, later))))

at_first : (id : List ℕ) (nodes : List Named) (hs : List History) → NodesPlay nodes hs → position_or_len (is_called id) nodes < length nodes → HistoryAt id nodes (position_or_len (is_called id) nodes) hs
at_first id [] [] plays within = absurd (omega (arith, within))
at_first id [] (h ∷ hs) plays within = absurd plays
at_first id (named ∷ nodes) [] plays within = absurd plays
at_first id (named ∷ nodes) (h ∷ hs) plays within = at_by id named nodes h hs (bytes_eq named.id id) refl plays.0 plays.1 (at_first id nodes hs plays.1) within

found_by : (k whole place : ℕ) (b : Bool) → nat_lt k whole ≡ b → (if b then Some k else None) ≡ Some place → (k ≡ place) × (k < whole)
found_by k whole place true test is = (cc, grind (arith, nat_tests))
found_by k whole place false test is = absurd (cc)

lost_by : (k whole : ℕ) (b : Bool) → nat_lt k whole ≡ b → (if b then Some k else None) ≡ None → whole ≤ k
lost_by k whole true test is = absurd (cc)
lost_by k whole false test is = grind (arith, nat_tests)

absent_by : (id : List ℕ) (named : Named) (nodes : List Named) (h : History) (hs : List History) (t : Bool) → bytes_eq named.id id ≡ t → NodePlays named h
    → (length nodes ≤ position_or_len (is_called id) nodes → history_of id hs ≡ None) → length (named ∷ nodes) ≤ position_or_len (is_called id) (named ∷ nodes) → history_of id (h ∷ hs) ≡ None
absent_by id named nodes h hs true is first on far = let here : position_or_len (is_called id) (named ∷ nodes) ≡ 0 = place_here id named nodes is in absurd (omega (arith, far, here))
absent_by id named nodes h hs false is first on far =
    let node : is_node id h ≡ false = ap (λ (name : List ℕ). bytes_eq name id) (sym first.called) ∙ is in
    let later : position_or_len (is_called id) (named ∷ nodes) ≡ suc (position_or_len (is_called id) nodes) = place_later id named nodes is in
    rw node (on (omega (arith, far, later)))

absent : (id : List ℕ) (nodes : List Named) (hs : List History) → NodesPlay nodes hs → length nodes ≤ position_or_len (is_called id) nodes → history_of id hs ≡ None
absent id [] [] plays far = refl
absent id [] (h ∷ hs) plays far = absurd plays
absent id (named ∷ nodes) [] plays far = absurd plays
absent id (named ∷ nodes) (h ∷ hs) plays far = absent_by id named nodes h hs (bytes_eq named.id id) refl plays.0 (absent id nodes hs plays.1) far

-- where a place was found, and where none was
pub placed : (id : List ℕ) (nodes : List Named) (r : Option ℕ) → r ≡ position (is_called id) nodes → MatchOption r (IsNowhere id nodes) (IsPlaced id nodes)
placed id nodes (Some place) is =
    let found : (position_or_len (is_called id) nodes ≡ place) × (position_or_len (is_called id) nodes < length nodes) =
    found_by (position_or_len (is_called id) nodes) (length nodes) place (nat_lt (position_or_len (is_called id) nodes) (length nodes)) refl (sym is) in
    record {
      within = omega (arith, found.0, found.1);
      at = λ hs plays. subst (λ (k : ℕ). HistoryAt id nodes k hs) found.0 (at_first id nodes hs plays found.1);
    }
placed id nodes None is =
    let far : length nodes ≤ position_or_len (is_called id) nodes = lost_by (position_or_len (is_called id) nodes) (length nodes) (nat_lt (position_or_len (is_called id) nodes) (length nodes)) refl (sym is) in
    record { absent = λ hs h plays found. (let none : history_of id hs ≡ None = absent id nodes hs plays far in cc) }

put_by : (id : List ℕ) (acts : List Act) (h other : History) (hs : List History) (t : Bool) → is_node id other ≡ t → (if t then Some other else history_of id hs) ≡ Some h
    → (history_of id hs ≡ Some h → with_acts id acts hs ≡ with_history_acts id (acts ++ h.acts) hs) → with_acts id acts (other ∷ hs) ≡ with_history_acts id (acts ++ h.acts) (other ∷ hs)
put_by id acts h other hs true is found on =
    let same : other ≡ h = cc in rw is (ap (λ (x : History). record { opening = other.opening; acts = acts ++ x.acts } ∷ hs) same)
put_by id acts h other hs false is found on = rw is (ap (λ (l : List History). other ∷ l) (on found))

-- further acts of a history
pub acts_put : (id : List ℕ) (acts : List Act) (hs : List History) (h : History) → history_of id hs ≡ Some h → with_acts id acts hs ≡ with_history_acts id (acts ++ h.acts) hs
acts_put id acts [] h found = absurd (cc)
acts_put id acts (other ∷ hs) h found = put_by id acts h other hs (is_node id other) refl found (acts_put id acts hs h)

pub one_history : (id : List ℕ) (hs : List History) (h : History) (nodes : List Named) (place : ℕ) → history_of id hs ≡ Some h → (at : HistoryAt id nodes place hs) → at.h ≡ h
one_history id hs h nodes place found at = let both : Some at.h ≡ Some h = sym at.found ∙ found in cc

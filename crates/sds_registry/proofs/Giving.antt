-- The opening of a pair that is given to a node, among openings that ascend.
use Rattle.std.proofs.Common.{◌≡◌, ℕ, suc, ◌+◌, ◌<◌, Bool, true, false, cond, List, [], ◌∷◌, ◌++◌, length, map, take, drop, drop-cons, get_or, None, Some, refl, sym, ap, subst, ◌∙◌, arith, true≢false, All, slice_set}
use Rattle.std.specs.List.{position, position_from}
use Rattle.std.specs.Str.{bytes_eq}
use Rattle.std.proofs.lemmas.Iterator.Adapters.{position_from-zero}
use Rattle.std.proofs.lemmas.List.{map-append, set_split, take-append-drop}
use Rattle.std.proofs.lemmas.List.Elements.{All-cons, All-head, All-nil, All-tail}
use Rattle.std.proofs.lemmas.List.Quantifiers.{position-Some}
use Rattle.std.proofs.lemmas.Slice.Eq.{bytes_eq-Decides}
use Rattle.sds_value.specs.declared.row.Peer.{Peer}
use Rattle.sds_types.specs.declared.registration.Opening.{Opening}
use Rattle.sds_types.specs.declared.registration.Stage.TheVariants.{Given}
use Rattle.sds_rows.proofs.Places.{all_drop, all_take}
use Rattle.sds_history.specs.history.Openings.{given_to, is_opening_of, opening_key}
use Rattle.sds_history.specs.history.Orders.{is_before, pair_key}
use Rattle.sds_history.specs.history.SoundParts.{AscendBy}
use Rattle.sds_registry.proofs.Searched.{not_before_itself}

-- WHERE NONE IS FOUND each fails the test
fails_on : {A : Type 0} (p : A → Bool) (x : A) (xs : List A) (i : ℕ) (b : Bool) → p x ≡ b → cond b (Some i) (position_from p (i + 1) xs) ≡ None
    → (position_from p (i + 1) xs ≡ None → All (λ y. p y ≡ false) xs) → All (λ y. p y ≡ false) (x ∷ xs)
fails_on p x xs i true is none rest = absurd (true≢false (ap (λ o. elim o [ None ↦ false | Some y ↦ true ]) none))
fails_on p x xs i false is none rest = All-cons (λ y. p y ≡ false) x xs is (rest none)

fails_from : {A : Type 0} (p : A → Bool) (xs : List A) (i : ℕ) → position_from p i xs ≡ None → All (λ y. p y ≡ false) xs
fails_from p [] i none = All-nil (λ y. p y ≡ false)
fails_from p (x ∷ xs) i none = fails_on p x xs i (p x) refl none (fails_from p xs (i + 1))

all_fail : {A : Type 0} (p : A → Bool) (xs : List A) → None ≡ position p xs → All (λ y. p y ≡ false) xs
all_fail p xs none = fails_from p xs 0 (sym (none ∙ position_from-zero p xs))

-- of a key that has the wanted bytes and one after it only the first has them
later_differs_on : (a b wanted : List ℕ) (t : Bool) → bytes_eq b wanted ≡ t → bytes_eq a wanted ≡ true → is_before a b ≡ true → t ≡ false
later_differs_on a b wanted true is first less =
    let one : b ≡ a = (bytes_eq-Decides b wanted).0 is ∙ sym ((bytes_eq-Decides a wanted).0 first) in
    absurd (true≢false (sym (subst (λ k. is_before a k ≡ true) one less) ∙ not_before_itself a))
later_differs_on a b wanted false is first less = refl

-- AN OPENING OF ANOTHER PAIR stays
stays_on : (peer : Peer) (opening : Opening) (b : Bool) → b ≡ false → cond b (record opening { stage = Given peer.id }) opening ≡ opening
stays_on peer opening true is = absurd (true≢false is)
stays_on peer opening false is = refl

all_stay : (peer : Peer) (openings : List Opening) → All (λ (o : Opening). is_opening_of peer o ≡ false) openings → map (given_to peer) openings ≡ openings
all_stay peer [] are = refl
all_stay peer (opening ∷ openings) are =
    let P : Opening → Type 0 = λ o. is_opening_of peer o ≡ false in
    ap (λ o. o ∷ map (given_to peer) openings) (stays_on peer opening (is_opening_of peer opening) (All-head P opening openings are))
    ∙ ap (λ os. opening ∷ os) (all_stay peer openings (All-tail P opening openings are))

is_given_on : (peer : Peer) (opening : Opening) (b : Bool) → b ≡ true → cond b (record opening { stage = Given peer.id }) opening ≡ record opening { stage = Given peer.id }
is_given_on peer opening true is = refl
is_given_on peer opening false is = absurd (true≢false (sym is))

-- THE LIST where the opening of a pair is found, and where it isn't
pub none_given : (peer : Peer) (openings slice : List Opening) → slice ≡ openings → None ≡ position (is_opening_of peer) slice → openings ≡ map (given_to peer) openings
none_given peer openings slice same none =
    sym (all_stay peer openings (all_fail (is_opening_of peer) openings (none ∙ ap (position (is_opening_of peer)) same)))

module _ (peer : Peer) (openings : List Opening) (at : ℕ) (x : Opening) (are : AscendBy opening_key openings)
    (found : position (is_opening_of peer) openings ≡ Some at) (is : x ≡ get_or openings at x) where
  abbrev test : Opening → Bool
  test = is_opening_of peer

  within : at < length openings
  within = (position-Some test openings at x found).0

  passes_at : (d : Opening) → test (get_or openings at d) ≡ true
  passes_at d = (position-Some test openings at d found).1

  before : All (λ (o : Opening). test o ≡ false) (take at openings)
  before = all_take (λ (o : Opening). test o ≡ false) openings at (omega (arith, within)) (λ k d from below. (position-Some test openings at d found).2 k below)

  after : All (λ (o : Opening). test o ≡ false) (drop (suc at) openings)
  after = all_drop (λ (o : Opening). test o ≡ false) openings (suc at)
      (λ k d from below. later_differs_on (opening_key (get_or openings at d)) (opening_key (get_or openings k d)) (pair_key peer.group peer.external)
      (test (get_or openings k d)) refl (passes_at d) (are at k d from below))

  parts : openings ≡ take at openings ++ x ∷ drop (suc at) openings
  parts = sym (take-append-drop at openings)
      ∙ ap (λ os. take at openings ++ os) (drop-cons openings at x within ∙ ap (λ o. o ∷ drop (suc at) openings) (sym is))

  pub one_given : slice_set openings at (record x { stage = Given peer.id }) ≡ map (given_to peer) openings
  one_given =
      let given = given_to peer in
      let new : Opening = record x { stage = Given peer.id } in
      let there : given x ≡ new = is_given_on peer x (test x) (subst (λ o. test o ≡ true) (sym is) (passes_at x)) in
      set_split openings at new within
      ∙ sym (ap (map given) parts
      ∙ (map-append given (take at openings) (x ∷ drop (suc at) openings)
      ∙ (ap (λ os. os ++ given x ∷ map given (drop (suc at) openings)) (all_stay peer (take at openings) before)
      ∙ (ap (λ o. take at openings ++ o ∷ map given (drop (suc at) openings)) there
      ∙ ap (λ os. take at openings ++ new ∷ os) (all_stay peer (drop (suc at) openings) after)))))

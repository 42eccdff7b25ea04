-- One more turn of each loop.
use Rattle.std.proofs.Common.{◌≡◌, ℕ, zero, suc, ◌+◌, ◌<◌, ◌≤◌, Bool, true, false, cond, not, List, [], ◌∷◌, ◌++◌, length, map, drop, drop-cons, add-one, get_or, slice_set, Option, None, Some, refl, sym, ap, ◌∙◌, append-nil, append_assoc, arith, filter, filter_map}
use Rattle.std.specs.List.{cons_option, enumerate_from, flat_map, zip}
use Rattle.std.proofs.lemmas.List.{drop_all, map-append}
use Rattle.std.proofs.lemmas.List.Concat.{flat_map-cons}
use Rattle.sds_types.specs.declared.batch.OutBatch.{OutBatch}
use Rattle.sds_types.specs.declared.batch.Standing.{Standing}
use Rattle.sds_history.specs.history.Acks.{same_standing}
use Rattle.sds_outgoing.specs.Offering.{ends_offer, ids_of, offered_after}
use Rattle.sds_outgoing.specs.Restating.{is_restated, restated_at, restated_from, with_restated, with_standing_at}
use Rattle.sds_outgoing.specs.declared.restating.Restated.{Restated}

-- what is left begins with the one at the turn
begins : {A : Type 0} (xs : List A) (i : ℕ) (d : A) → i < length xs → drop i xs ≡ get_or xs i d ∷ drop (i + 1) xs
begins xs i d within = rw add-one (drop-cons xs i d within)

at_turn : {A B : Type 0} (f : List A → B) (xs : List A) (i : ℕ) (d : A) (whole : B) → i < length xs → f (drop i xs) ≡ whole → f (get_or xs i d ∷ drop (i + 1) xs) ≡ whole
at_turn f xs i d whole within so_far = ap f (sym (begins xs i d within)) ∙ so_far

pub at_end : {A B : Type 0} (f : List A → B) (xs : List A) (i : ℕ) (whole : B) → length xs ≤ i → f (drop i xs) ≡ whole → f [] ≡ whole
at_end f xs i whole end so_far = ap f (sym (drop_all i xs end)) ∙ so_far

-- ITEMS that are made of what is found
module _ {A B C : Type 0} (f : B → List C) (g : A → Option B) (xs : List A) (i : ℕ) (d : A) (made whole : List C) (within : i < length xs)
    (so_far : made ++ flat_map f (filter_map g (drop i xs)) ≡ whole) where
  pub none_found : None ≡ g (get_or xs i d) → made ++ flat_map f (filter_map g (drop (i + 1) xs)) ≡ whole
  none_found none =
      ap (λ (o : Option B). made ++ flat_map f (cons_option o (filter_map g (drop (i + 1) xs)))) none
      ∙ at_turn (λ (ys : List A). made ++ flat_map f (filter_map g ys)) xs i d whole within so_far

  pub one_found : (x : B) → Some x ≡ g (get_or xs i d) → (made ++ f x) ++ flat_map f (filter_map g (drop (i + 1) xs)) ≡ whole
  one_found x found =
      append_assoc made (f x) (flat_map f (filter_map g (drop (i + 1) xs)))
      ∙ (ap (λ (ys : List C). made ++ ys) (sym (flat_map-cons f x (filter_map g (drop (i + 1) xs))))
      ∙ (ap (λ (o : Option B). made ++ flat_map f (cons_option o (filter_map g (drop (i + 1) xs)))) found
      ∙ at_turn (λ (ys : List A). made ++ flat_map f (filter_map g ys)) xs i d whole within so_far))

-- NUMBERS of batches that go
module _ (waits : OutBatch → Bool) (most count : ℕ) (batches : List OutBatch) (i : ℕ) (d : OutBatch) (ids whole : List ℕ) (within : i < length batches)
    (so_far : ids ++ ids_of (offered_after most count (filter waits (drop i batches))) ≡ whole) where
  abbrev later : List OutBatch
  later = filter waits (drop (i + 1) batches)

  turn : (b : Bool) → b ≡ waits (get_or batches i d) → ids ++ ids_of (offered_after most count (cond b (get_or batches i d ∷ later) later)) ≡ whole
  turn b is =
      ap (λ (t : Bool). ids ++ ids_of (offered_after most count (cond t (get_or batches i d ∷ later) later))) is
      ∙ at_turn (λ (bs : List OutBatch). ids ++ ids_of (offered_after most count (filter waits bs))) batches i d whole within so_far

  pub not_waiting : false ≡ waits (get_or batches i d) → ids ++ ids_of (offered_after most count later) ≡ whole
  not_waiting is = turn false is

  goes : (b : Bool) → true ≡ waits (get_or batches i d) → b ≡ ends_offer most (count + 1) (get_or batches i d)
      → ids ++ (get_or batches i d).id ∷ ids_of (cond b [] (offered_after most (count + 1) later)) ≡ whole
  goes b is ends =
      ap (λ (t : Bool). ids ++ (get_or batches i d).id ∷ ids_of (cond t [] (offered_after most (count + 1) later))) ends ∙ turn true is

  pub goes_last : true ≡ waits (get_or batches i d) → true ≡ ends_offer most (count + 1) (get_or batches i d) → ids ++ (get_or batches i d).id ∷ [] ≡ whole
  goes_last is ends = goes true is ends

  pub goes_on : true ≡ waits (get_or batches i d) → false ≡ ends_offer most (count + 1) (get_or batches i d)
      → (ids ++ (get_or batches i d).id ∷ []) ++ ids_of (offered_after most (count + 1) later) ≡ whole
  goes_on is ends = append_assoc ids ((get_or batches i d).id ∷ []) (ids_of (offered_after most (count + 1) later)) ∙ goes false is ends

pub last_went : (waits : OutBatch → Bool) (most count : ℕ) (batches : List OutBatch) (i : ℕ) (x : OutBatch) (ids more whole : List ℕ) → i < length batches → x ≡ get_or batches i x
    → ids ++ ids_of (offered_after most count (filter waits (drop i batches))) ≡ whole → more ≡ ids ++ x.id ∷ [] → true ≡ waits x → true ≡ ends_offer most (count + 1) x → more ≡ whole
last_went waits most count batches i x ids more whole within is so_far put waiting ends =
    put ∙ (ap (λ (b : OutBatch). ids ++ b.id ∷ []) is
    ∙ goes_last waits most count batches i x ids whole within so_far (waiting ∙ ap waits is) (ends ∙ ap (ends_offer most (count + 1)) is))

pub all_went : (waits : OutBatch → Bool) (most count : ℕ) (batches : List OutBatch) (i : ℕ) (ids whole : List ℕ) → length batches ≤ i
    → ids ++ ids_of (offered_after most count (filter waits (drop i batches))) ≡ whole → ids ≡ whole
all_went waits most count batches i ids whole end so_far =
    sym (append-nil ids) ∙ at_end (λ (bs : List OutBatch). ids ++ ids_of (offered_after most count (filter waits bs))) batches i whole end so_far

-- CHANNELS whose batches go
module _ {A X : Type 0} (offered : A → List OutBatch) (wanted : A → Bool) (entry : X → A) (xs : List X) (i : ℕ) (d : X) (ids whole : List ℕ) (within : i < length xs)
    (so_far : ids ++ ids_of (flat_map offered (filter wanted (map entry (drop i xs)))) ≡ whole) where
  abbrev others : List A
  others = filter wanted (map entry (drop (i + 1) xs))

  channel_turn : (b : Bool) → b ≡ wanted (entry (get_or xs i d)) → ids ++ ids_of (flat_map offered (cond b (entry (get_or xs i d) ∷ others) others)) ≡ whole
  channel_turn b is =
      ap (λ (t : Bool). ids ++ ids_of (flat_map offered (cond t (entry (get_or xs i d) ∷ others) others))) is
      ∙ at_turn (λ (ys : List X). ids ++ ids_of (flat_map offered (filter wanted (map entry ys)))) xs i d whole within so_far

  pub not_wanted : false ≡ wanted (entry (get_or xs i d)) → ids ++ ids_of (flat_map offered others) ≡ whole
  not_wanted is = channel_turn false is

  pub offers_one : true ≡ wanted (entry (get_or xs i d)) → (ids ++ ids_of (offered (entry (get_or xs i d)))) ++ ids_of (flat_map offered others) ≡ whole
  offers_one is =
      append_assoc ids (ids_of (offered (entry (get_or xs i d)))) (ids_of (flat_map offered others))
      ∙ (ap (λ (more : List ℕ). ids ++ more) (sym (map-append (λ (batch : OutBatch). batch.id) (offered (entry (get_or xs i d))) (flat_map offered others)))
      ∙ (ap (λ (bs : List OutBatch). ids ++ ids_of bs) (sym (flat_map-cons offered (entry (get_or xs i d)) others))
      ∙ channel_turn true is))

pub all_offered : {A X : Type 0} (offered : A → List OutBatch) (wanted : A → Bool) (entry : X → A) (xs : List X) (i : ℕ) (ids : List ℕ) (sorted : List A) → length xs ≤ i
    → ids ++ ids_of (flat_map offered (filter wanted (map entry (drop i xs)))) ≡ ids_of (flat_map offered (filter wanted (map entry xs)))
    → map entry xs ≡ sorted → ids ≡ ids_of (flat_map offered (filter wanted sorted))
all_offered {A} {X} offered wanted entry xs i ids sorted end so_far is =
    sym (append-nil ids)
    ∙ (at_end (λ (ys : List X). ids ++ ids_of (flat_map offered (filter wanted (map entry ys)))) xs i (ids_of (flat_map offered (filter wanted (map entry xs)))) end so_far
    ∙ ap (λ (ats : List A). ids_of (flat_map offered (filter wanted ats))) is)

-- PLACES whose standing changes
module _ (known : OutBatch → OutBatch) (batches : List OutBatch) (i : ℕ) (d : OutBatch) (made whole : List Restated) (within : i < length batches)
    (so_far : made ++ restated_from i (drop i batches) (map known (drop i batches)) ≡ whole) where
  abbrev rest : List Restated
  rest = restated_from (i + 1) (drop (i + 1) batches) (map known (drop (i + 1) batches))

  place_turn : (b : Bool) → b ≡ not (same_standing (get_or batches i d).standing (known (get_or batches i d)).standing)
      → made ++ map restated_at (cond b ((i, (get_or batches i d, known (get_or batches i d))) ∷ filter is_restated (enumerate_from (i + 1) (zip (drop (i + 1) batches) (map known (drop (i + 1) batches)))))
      (filter is_restated (enumerate_from (i + 1) (zip (drop (i + 1) batches) (map known (drop (i + 1) batches)))))) ≡ whole
  place_turn b is =
      ap (λ (t : Bool). made ++ map restated_at (cond t ((i, (get_or batches i d, known (get_or batches i d))) ∷ filter is_restated (enumerate_from (i + 1) (zip (drop (i + 1) batches) (map known (drop (i + 1) batches)))))
      (filter is_restated (enumerate_from (i + 1) (zip (drop (i + 1) batches) (map known (drop (i + 1) batches))))))) is
      ∙ at_turn (λ (bs : List OutBatch). made ++ restated_from i bs (map known bs)) batches i d whole within so_far

  pub unchanged : (after : Standing) → after ≡ (known (get_or batches i d)).standing → false ≡ not (same_standing (get_or batches i d).standing after) → made ++ rest ≡ whole
  unchanged after is same = place_turn false (same ∙ ap (λ (s : Standing). not (same_standing (get_or batches i d).standing s)) is)

  pub one_changed : (after : Standing) → after ≡ (known (get_or batches i d)).standing → true ≡ not (same_standing (get_or batches i d).standing after)
      → (made ++ record { place = i; standing = after } ∷ []) ++ rest ≡ whole
  one_changed after is changes =
      append_assoc made (record { place = i; standing = after } ∷ []) rest
      ∙ (ap (λ (s : Standing). made ++ record { place = i; standing = s } ∷ rest) is
      ∙ place_turn true (changes ∙ ap (λ (s : Standing). not (same_standing (get_or batches i d).standing s)) is))

pub all_changed : (known : OutBatch → OutBatch) (batches : List OutBatch) (i : ℕ) (made whole : List Restated) → length batches ≤ i
    → made ++ restated_from i (drop i batches) (map known (drop i batches)) ≡ whole → made ≡ whole
all_changed known batches i made whole end so_far =
    sym (append-nil made) ∙ at_end (λ (bs : List OutBatch). made ++ restated_from i bs (map known bs)) batches i whole end so_far

-- BATCHES restated one after another
pub one_restated : (changed : List Restated) (i : ℕ) (d : Restated) (batches more whole : List OutBatch) → i < length changed
    → more ≡ with_standing_at (get_or changed i d).place (get_or changed i d).standing batches
    → with_restated (drop i changed) batches ≡ whole → with_restated (drop (i + 1) changed) more ≡ whole
one_restated changed i d batches more whole within is so_far =
    ap (λ (bs : List OutBatch). with_restated (drop (i + 1) changed) bs) is ∙ at_turn (λ (rs : List Restated). with_restated rs batches) changed i d whole within so_far

pub set_is : (standing : Standing) (place : ℕ) (batches : List OutBatch) (x : OutBatch) → place < length batches → x ≡ get_or batches place x
    → slice_set batches place (record x { standing = standing }) ≡ with_standing_at place standing batches
set_is standing place [] x within is = absurd (omega arith)
set_is standing zero (batch ∷ batches) x within is = ap (λ (b : OutBatch). record b { standing = standing } ∷ batches) is
set_is standing (suc place) (batch ∷ batches) x within is = ap (λ (bs : List OutBatch). batch ∷ bs) (set_is standing place batches x (omega arith) is)

pub set_past : (standing : Standing) (place : ℕ) (batches : List OutBatch) → length batches ≤ place → batches ≡ with_standing_at place standing batches
set_past standing place [] past = refl
set_past standing zero (batch ∷ batches) past = absurd (omega arith)
set_past standing (suc place) (batch ∷ batches) past = ap (λ (bs : List OutBatch). batch ∷ bs) (set_past standing place batches (omega arith))

-- Lists whose records have the same for every key are one, where records tell their items and the lists ascend.
use Rattle.std.proofs.Common.{◌≡◌, ◌≢◌, ℕ, ◌+◌, ◌<◌, ◌==◌, Bool, true, false, cond, List, [], ◌∷◌, ◌++◌, map, None, Some, refl, sym, ap, subst, ◌∙◌, arith, AllPairs}
use Rattle.std.specs.List.{AllByRecursion}
use Rattle.std.specs.Str.{bytes_eq}
use Rattle.std.proofs.lemmas.Bool.{eqb-true}
use Rattle.std.proofs.lemmas.List.Elements.{recursion_from_All}
use Rattle.std.proofs.lemmas.Option.{same_Some}
use Rattle.sds_trade.proofs.Lists.{pairs_head, pairs_tail}
use Rattle.sds_history.specs.history.Records.{Record}
use Rattle.sds_image.specs.Pairs.{pairs}
use Rattle.sds_imagelaws.proofs.Distinct.{Distinct, none_at, others}
use Rattle.sds_imagelaws.proofs.Items.{part_at, part_is}
use Rattle.sds_imagelaws.proofs.Lookups.{body_at}
use Rattle.sds_imagelaws.proofs.Parts.{RecordsAt, body_append, other_place, place_of, records_none}
use Rattle.sds_imagelaws.proofs.Tests.{equal, first_alone, first_of, itself, no_value, not_below, other_way}

module _ {A : Type 0} (kept : A → Record) where
  abbrev pub PartsSame : List A → List A → Type 0
  PartsSame xs ys = (key : List ℕ) → part_at kept key xs ≡ part_at kept key ys

  -- an item with a key and a body
  record Member (P : A → Type 0) (key body : List ℕ) : Type 0 where
    item : A
    holds : P item
    own_key : (kept item).key ≡ key
    own_body : (kept item).body ≡ body

  member : (P : A → Type 0) (xs : List A) (key body : List ℕ) → AllByRecursion P xs → part_at kept key xs ≡ Some body → Member P key body
  member P [] key body are told = no_value body told
  member P (x ∷ xs) key body are told = on (bytes_eq (kept x).key key) refl told (member P xs key body are.1)
    where
      on : (b : Bool) → bytes_eq (kept x).key key ≡ b → cond b (Some (kept x).body) (part_at kept key xs) ≡ Some body
          → (part_at kept key xs ≡ Some body → Member P key body) → Member P key body
      on true has is rest = record { item = x; holds = are.0; own_key = equal (kept x).key key has; own_body = same_Some (kept x).body body is }
      on false has is rest = rest is

  head_told : (x : A) (xs : List A) → part_at kept (kept x).key (x ∷ xs) ≡ Some (kept x).body
  head_told x xs = ap (λ b. cond b (Some (kept x).body) (part_at kept (kept x).key xs)) (itself (kept x).key)

  past_head : (x : A) (xs : List A) (key : List ℕ) → bytes_eq (kept x).key key ≡ false → part_at kept key (x ∷ xs) ≡ part_at kept key xs
  past_head x xs key isnt = ap (λ b. cond b (Some (kept x).body) (part_at kept key xs)) isnt

  tails_same : (x : A) (xs ys : List A) → Distinct kept (x ∷ xs) → Distinct kept (x ∷ ys) → PartsSame (x ∷ xs) (x ∷ ys) → PartsSame xs ys
  tails_same x xs ys apart also same key = on (bytes_eq (kept x).key key) refl
    where
      on : (b : Bool) → bytes_eq (kept x).key key ≡ b → part_at kept key xs ≡ part_at kept key ys
      on true has = none_at kept key xs (others kept key x xs apart.0 has) ∙ sym (none_at kept key ys (others kept key x ys also.0 has))
      on false isnt = sym (past_head x xs key isnt) ∙ (same key ∙ past_head x ys key isnt)

  module _ (Fits : A → Type 0) (R : A → A → Type 0) (one : (x y : A) → Fits x → Fits y → (kept x).key ≡ (kept y).key → (kept x).body ≡ (kept y).body → x ≡ y)
      (one_way : (x y : A) → R x y → R y x → ⊥) where
    abbrev Later : A → A → Type 0
    Later y z = Fits z × R y z

    laters : (y : A) (ys : List A) → AllByRecursion Fits ys → AllByRecursion (R y) ys → AllByRecursion (Later y) ys
    laters y [] are up = tt
    laters y (z ∷ zs) are up = ((are.0, up.0), laters y zs are.1 up.1)

    -- the first item of one list is the first of the other, or stands later in it
    later_in : (x y : A) (xs ys : List A) → Fits x → AllByRecursion Fits ys → AllPairs R (y ∷ ys) → PartsSame (x ∷ xs) (y ∷ ys)
        → bytes_eq (kept y).key (kept x).key ≡ false → R y x
    later_in x y xs ys fit are up same isnt =
        let found = member (Later y) ys (kept x).key (kept x).body (laters y ys are (recursion_from_All (R y) ys (pairs_head R y ys up)))
        (sym (past_head y ys (kept x).key isnt) ∙ (sym (same (kept x).key) ∙ head_told x xs)) in
        subst (R y) (sym (one x found.item fit found.holds.0 (sym found.own_key) (sym found.own_body))) found.holds.1

    one_head : (x y : A) (xs ys : List A) → AllByRecursion Fits (x ∷ xs) → AllByRecursion Fits (y ∷ ys) → AllPairs R (x ∷ xs) → AllPairs R (y ∷ ys)
        → PartsSame (x ∷ xs) (y ∷ ys) → x ≡ y
    one_head x y xs ys are also up too same = on (bytes_eq (kept y).key (kept x).key) refl
      where
        on : (b : Bool) → bytes_eq (kept y).key (kept x).key ≡ b → x ≡ y
        on true is = one x y are.0 also.0 (sym (equal (kept y).key (kept x).key is))
            (same_Some (kept x).body (kept y).body (sym (head_told x xs) ∙ (same (kept x).key
            ∙ ap (λ b. cond b (Some (kept y).body) (part_at kept (kept x).key ys)) is)))
        on false isnt = absurd (one_way y x (later_in x y xs ys are.0 also.1 too same isnt)
            (later_in y x ys xs also.0 are.1 up (λ key. sym (same key)) (other_way (kept y).key (kept x).key isnt)))

    pub same_items : (xs ys : List A) → AllByRecursion Fits xs → AllByRecursion Fits ys → AllPairs R xs → AllPairs R ys
        → Distinct kept xs → Distinct kept ys → PartsSame xs ys → xs ≡ ys
    same_items [] [] are also up too apart other same = refl
    same_items [] (y ∷ ys) are also up too apart other same = no_value (kept y).body (same (kept y).key ∙ head_told y ys)
    same_items (x ∷ xs) [] are also up too apart other same = no_value (kept x).body (sym (same (kept x).key) ∙ head_told x xs)
    same_items (x ∷ xs) (y ∷ ys) are also up too apart other same =
        let head : x ≡ y = one_head x y xs ys are also up too same in
        let rest : xs ≡ ys = same_items xs ys are.1 also.1 (pairs_tail R x xs up) (pairs_tail R y ys too) apart.1 other.1
        (tails_same x xs ys apart (subst (λ z. Distinct kept (z ∷ ys)) (sym head) other) (subst (λ z. PartsSame (x ∷ xs) (z ∷ ys)) (sym head) same)) in
        ap (λ z. z ∷ xs) head ∙ ap (λ zs. y ∷ zs) rest

-- PARTS. Where records of several parts have the same for every key, those of each part have
abbrev pub RecordsSame : List Record → List Record → Type 0
RecordsSame xs ys = (key : List ℕ) → body_at key (pairs xs) ≡ body_at key (pairs ys)

abbrev pub From : ℕ → List Record → Type 0
From place records = (key : List ℕ) → place_of key < place → body_at key (pairs records) ≡ None

pub from_last : (place : ℕ) (records : List Record) → RecordsAt place records → From place records
from_last place records are key less = records_none key place records are (not_below (place_of key) place less)

pub from_part : (place : ℕ) (part rest : List Record) → RecordsAt place part → From (place + 1) rest → From place (part ++ rest)
from_part place part rest are later key less =
    body_append key part rest
    ∙ (ap (λ told. first_of told (body_at key (pairs rest))) (records_none key place part are (not_below (place_of key) place less))
    ∙ later key (more (place_of key) place less))
  where
    more : (a b : ℕ) → a < b → a < b + 1
    more a b less = omega (arith, less)

module _ (place : ℕ) (part other rest later : List Record) (part_is_at : RecordsAt place part) (other_is_at : RecordsAt place other)
    (from : From (place + 1) rest) (from_too : From (place + 1) later) (same : RecordsSame (part ++ rest) (other ++ later)) where
  within : (key : List ℕ) → place_of key ≡ place → place_of key < place + 1
  within key is = omega (arith, is)

  part_alone : (key : List ℕ) (xs ys : List Record) → From (place + 1) ys → place_of key ≡ place → body_at key (pairs (xs ++ ys)) ≡ body_at key (pairs xs)
  part_alone key xs ys none is =
      body_append key xs ys ∙ (ap (first_of (body_at key (pairs xs))) (none key (within key is)) ∙ first_alone (body_at key (pairs xs)))

  rest_alone : (key : List ℕ) (xs ys : List Record) → RecordsAt place xs → place_of key ≢ place → body_at key (pairs (xs ++ ys)) ≡ body_at key (pairs ys)
  rest_alone key xs ys are isnt = body_append key xs ys ∙ ap (λ told. first_of told (body_at key (pairs ys))) (records_none key place xs are isnt)

  pub first_same : RecordsSame part other
  first_same key = on (place_of key == place) refl
    where
      on : (b : Bool) → (place_of key == place) ≡ b → body_at key (pairs part) ≡ body_at key (pairs other)
      on true is =
          let here = eqb-true (place_of key) place is in
          sym (part_alone key part rest from here) ∙ (same key ∙ part_alone key other later from_too here)
      on false is =
          let isnt = other_place (place_of key) place is in
          records_none key place part part_is_at isnt ∙ sym (records_none key place other other_is_at isnt)

  pub rest_same : RecordsSame rest later
  rest_same key = on (place_of key == place) refl
    where
      on : (b : Bool) → (place_of key == place) ≡ b → body_at key (pairs rest) ≡ body_at key (pairs later)
      on true is =
          let here = eqb-true (place_of key) place is in
          from key (within key here) ∙ sym (from_too key (within key here))
      on false is =
          let isnt = other_place (place_of key) place is in
          sym (rest_alone key part rest part_is_at isnt) ∙ (same key ∙ rest_alone key other later other_is_at isnt)

pub parts_same : {A : Type 0} (kept : A → Record) (xs ys : List A) → RecordsSame (map kept xs) (map kept ys) → PartsSame kept xs ys
parts_same kept xs ys same key = sym (part_is kept key xs) ∙ (same key ∙ part_is kept key ys)

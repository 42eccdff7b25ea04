-- The records of items: what they have for a key where items stand around a new one by an order.
use Rattle.std.proofs.Common.{◌≡◌, ℕ, Bool, true, false, cond, List, [], ◌∷◌, ◌++◌, map, Option, None, Some, Ordering, Less, Equal, Greater, refl, sym, ap, ◌∙◌, true≢false, filter}
use Rattle.std.specs.List.{AllByRecursion}
use Rattle.std.specs.Cmp.{IsTotalOrder}
use Rattle.std.specs.Ordering.{is_lt, ordering_reverse}
use Rattle.std.specs.Str.{bytes_eq}
use Rattle.std.proofs.lemmas.Cmp.{tied_itself}
use Rattle.sds_history.specs.history.Records.{Record}
use Rattle.sds_image.specs.Pairs.{pairs}
use Rattle.sds_imagelaws.proofs.Lists.{each_by}
use Rattle.sds_imagelaws.proofs.Lookups.{body_at}
use Rattle.sds_imagelaws.proofs.Tests.{equal, first_of, first_on}

-- the body of the first item whose record has a key
abbrev pub part_at : {A : Type 0} → (A → Record) → List ℕ → List A → Option (List ℕ)
part_at kept key [] = None
part_at kept key (x ∷ xs) = cond (bytes_eq (kept x).key key) (Some (kept x).body) (part_at kept key xs)

pub part_is : {A : Type 0} (kept : A → Record) (key : List ℕ) (xs : List A) → body_at key (pairs (map kept xs)) ≡ part_at kept key xs
part_is kept key [] = refl
part_is kept key (x ∷ xs) = ap (λ told. cond (bytes_eq (kept x).key key) (Some (kept x).body) told) (part_is kept key xs)

pub part_append : {A : Type 0} (kept : A → Record) (key : List ℕ) (xs ys : List A)
    → part_at kept key (xs ++ ys) ≡ first_of (part_at kept key xs) (part_at kept key ys)
part_append kept key [] ys = refl
part_append kept key (x ∷ xs) ys =
    ap (λ told. cond (bytes_eq (kept x).key key) (Some (kept x).body) told) (part_append kept key xs ys)
    ∙ first_on (bytes_eq (kept x).key key) (kept x).body (part_at kept key xs) (part_at kept key ys)

-- FILTERS
module _ {A : Type 0} (kept : A → Record) (key : List ℕ) where
  abbrev has : A → Bool
  has x = bytes_eq (kept x).key key

  -- all with the key pass, or none does
  abbrev pub Pass : (A → Bool) → Bool → A → Type 0
  Pass q b x = has x ≡ true → q x ≡ b

  pub part_kept : (q : A → Bool) (xs : List A) → AllByRecursion (Pass q true) xs → part_at kept key (filter q xs) ≡ part_at kept key xs
  part_kept q [] pass = refl
  part_kept q (x ∷ xs) pass = on (q x) (has x) refl refl (part_kept q xs pass.1)
    where
      on : (b h : Bool) → q x ≡ b → has x ≡ h → part_at kept key (filter q xs) ≡ part_at kept key xs
          → part_at kept key (cond b (x ∷ filter q xs) (filter q xs)) ≡ cond (has x) (Some (kept x).body) (part_at kept key xs)
      on true h is here rest = ap (λ told. cond (has x) (Some (kept x).body) told) rest
      on false true is here rest = absurd (true≢false (sym (pass.0 here) ∙ is))
      on false false is here rest = rest ∙ sym (ap (λ b. cond b (Some (kept x).body) (part_at kept key xs)) here)

  pub part_dropped : (q : A → Bool) (xs : List A) → AllByRecursion (Pass q false) xs → part_at kept key (filter q xs) ≡ None
  part_dropped q [] pass = refl
  part_dropped q (x ∷ xs) pass = on (q x) (has x) refl refl (part_dropped q xs pass.1)
    where
      on : (b h : Bool) → q x ≡ b → has x ≡ h → part_at kept key (filter q xs) ≡ None
          → part_at kept key (cond b (x ∷ filter q xs) (filter q xs)) ≡ None
      on true true is here rest = absurd (true≢false (sym is ∙ pass.0 here))
      on true false is here rest = ap (λ b. cond b (Some (kept x).body) (part_at kept key (filter q xs))) here ∙ rest
      on false h is here rest = rest

  -- an item with the key, or none
  pub data Found (P : A → Type 0) (xs : List A) : Type 0 where
    item_with : (x : A) → P x → has x ≡ true → Found P xs
    no_item : AllByRecursion (λ x. has x ≡ false) xs → part_at kept key xs ≡ None → Found P xs

  pub found : (P : A → Type 0) (xs : List A) → AllByRecursion P xs → Found P xs
  found P [] are = no_item tt refl
  found P (x ∷ xs) are = on (has x) refl (found P xs are.1)
    where
      on : (h : Bool) → has x ≡ h → Found P xs → Found P (x ∷ xs)
      on true here rest = item_with x are.0 here
      on false here (item_with y is there) = item_with y is there
      on false here (no_item all told) = no_item (here, all) (ap (λ b. cond b (Some (kept x).body) (part_at kept key xs)) here ∙ told)

  never : (q : A → Bool) (b : Bool) (x : A) → has x ≡ false → Pass q b x
  never q b x fails has_it = absurd (true≢false (sym has_it ∙ fails))

  pub part_none : (q : A → Bool) (xs : List A) → AllByRecursion (λ x. has x ≡ false) xs → part_at kept key (filter q xs) ≡ None
  part_none q xs all = part_dropped q xs (each_by (λ x. has x ≡ false) (Pass q false) xs (never q false) all)

-- AN ORDER of items that their keys tell
pub record Tells {A : Type 0} (kept : A → Record) (order : A → A → Ordering) (Fits : A → Type 0) : Type 0 where
  pub total : IsTotalOrder order
  pub level : (x y : A) → order x y ≡ Equal → (kept x).key ≡ (kept y).key
  pub tells : (x y z : A) → Fits x → Fits y → (kept x).key ≡ (kept y).key → order x z ≡ order y z

-- the items with one more, in its place by the order
abbrev pub put_among : {A : Type 0} → (A → A → Ordering) → A → List A → List A
put_among order new xs = filter (λ x. is_lt (order x new)) xs ++ new ∷ filter (λ x. is_lt (order new x)) xs

module _ {A : Type 0} (kept : A → Record) (order : A → A → Ordering) (Fits : A → Type 0) (order_is : Tells kept order Fits) (new : A) (key : List ℕ) where
  abbrev low : A → Bool
  low x = is_lt (order x new)

  abbrev high : A → Bool
  high x = is_lt (order new x)

  one_key : (x y : A) → bytes_eq (kept x).key key ≡ true → bytes_eq (kept y).key key ≡ true → (kept x).key ≡ (kept y).key
  one_key x y here there = equal (kept x).key key here ∙ sym (equal (kept y).key key there)

  -- where the new item has the key, no other item with it is before it
  new_here : (xs : List A) → Fits new → AllByRecursion Fits xs → bytes_eq (kept new).key key ≡ true
      → part_at kept key (put_among order new xs) ≡ Some (kept new).body
  new_here xs fit are here =
      part_append kept key (filter low xs) (new ∷ filter high xs)
      ∙ (ap (λ told. first_of told (part_at kept key (new ∷ filter high xs)))
      (part_dropped kept key low xs (each_by Fits (Pass kept key low false) xs
      (λ x is has_it. ap is_lt (order_is.tells x new new is fit (one_key x new has_it here) ∙ tied_itself order_is.total new)) are))
      ∙ ap (λ b. cond b (Some (kept new).body) (part_at kept key (filter high xs))) here)

  new_past : (xs : List A) → bytes_eq (kept new).key key ≡ false → part_at kept key (new ∷ filter high xs) ≡ part_at kept key (filter high xs)
  new_past xs isnt = ap (λ b. cond b (Some (kept new).body) (part_at kept key (filter high xs))) isnt

  first_or : (told other : Option (List ℕ)) → (told ≡ None → other ≡ None) → first_of told other ≡ told
  first_or None other empty = empty refl
  first_or (Some x) other empty = refl

  none_later : (x : A) (xs : List A) (h : Bool) → bytes_eq (kept x).key key ≡ h → cond h (Some (kept x).body) (part_at kept key xs) ≡ None
      → (part_at kept key xs ≡ None → AllByRecursion (λ y. bytes_eq (kept y).key key ≡ false) xs)
      → AllByRecursion (λ y. bytes_eq (kept y).key key ≡ false) (x ∷ xs)
  none_later x xs true here told rest = absurd (true≢false (ap (λ o. elim o [ None ↦ false | Some y ↦ true ]) told))
  none_later x xs false here told rest = (here, rest told)

  none_has : (xs : List A) → part_at kept key xs ≡ None → AllByRecursion (λ x. bytes_eq (kept x).key key ≡ false) xs
  none_has [] told = tt
  none_has (x ∷ xs) told = none_later x xs (bytes_eq (kept x).key key) refl told (none_has xs)

  -- where it has another, those with the key are all before it or all after it
  other_side : (xs : List A) (y : A) (o : Ordering) → Fits y → AllByRecursion Fits xs → bytes_eq (kept new).key key ≡ false → bytes_eq (kept y).key key ≡ true
      → order y new ≡ o → part_at kept key (put_among order new xs) ≡ part_at kept key xs
  other_side xs y Less fit are isnt has_it is =
      part_append kept key (filter low xs) (new ∷ filter high xs)
      ∙ (first_or (part_at kept key (filter low xs)) (part_at kept key (new ∷ filter high xs))
      (λ told. new_past xs isnt ∙ part_none kept key high xs (none_has xs (sym kept_low ∙ told)))
      ∙ kept_low)
    where
      kept_low : part_at kept key (filter low xs) ≡ part_at kept key xs
      kept_low = part_kept kept key low xs (each_by Fits (Pass kept key low true) xs
          (λ x fits here. ap is_lt (order_is.tells x y new fits fit (one_key x y here has_it) ∙ is)) are)
  other_side xs y Equal fit are isnt has_it is =
      absurd (true≢false (sym (ap (λ k. bytes_eq k key) (sym (order_is.level y new is)) ∙ has_it) ∙ isnt))
  other_side xs y Greater fit are isnt has_it is =
      part_append kept key (filter low xs) (new ∷ filter high xs)
      ∙ (ap (λ told. first_of told (part_at kept key (new ∷ filter high xs)))
      (part_dropped kept key low xs (each_by Fits (Pass kept key low false) xs
      (λ x fits here. ap is_lt (order_is.tells x y new fits fit (one_key x y here has_it) ∙ is)) are))
      ∙ (new_past xs isnt
      ∙ part_kept kept key high xs (each_by Fits (Pass kept key high true) xs
      (λ x fits here. ap is_lt (order_is.total.antisymm new x ∙ ap ordering_reverse (order_is.tells x y new fits fit (one_key x y here has_it) ∙ is))) are)))

  pub part_put : (xs : List A) → Fits new → AllByRecursion Fits xs
      → part_at kept key (put_among order new xs) ≡ cond (bytes_eq (kept new).key key) (Some (kept new).body) (part_at kept key xs)
  part_put xs fit are = on (bytes_eq (kept new).key key) refl (found kept key Fits xs are)
    where
      on : (b : Bool) → bytes_eq (kept new).key key ≡ b → Found kept key Fits xs
          → part_at kept key (put_among order new xs) ≡ cond b (Some (kept new).body) (part_at kept key xs)
      on true here any = new_here xs fit are here
      on false isnt (item_with x fits has_it) = other_side xs x (order x new) fits are isnt has_it refl
      on false isnt (no_item all told) =
          part_append kept key (filter low xs) (new ∷ filter high xs)
          ∙ (ap (λ t. first_of t (part_at kept key (new ∷ filter high xs))) (part_none kept key low xs all)
          ∙ (new_past xs isnt ∙ (part_none kept key high xs all ∙ sym told)))

-- The item with a key in a list that keeps one item a key.
use Rattle.std.proofs.Common.{◌≡◌, ◌≢◌, ℕ, Bool, true, false, cond, List, [], ◌∷◌, ◌++◌, Option, None, Some, Ordering, Less, Equal, Greater, refl, sym, ap, subst, ◌∙◌, true≢false, filter, find, nat_cmp}
use Rattle.std.specs.Cmp.Lexicographic.{slice_cmp}
use Rattle.std.specs.Ordering.{is_eq, is_lt, ordering_reverse}
use Rattle.std.specs.Str.{bytes_eq}
use Rattle.std.proofs.lemmas.Cmp.{nat_list_cmp_total}
use Rattle.std.proofs.lemmas.Map.Text.{is_eq-slice_cmp}
use Rattle.std.proofs.lemmas.Slice.Eq.{bytes_eq-Decides}
use Rattle.sds_history.specs.history.Orders.{is_before, item_at, with_item}

-- TESTS
pub equal : (a b : List ℕ) → bytes_eq a b ≡ true → a ≡ b
equal a b is = (bytes_eq-Decides a b).0 is

pub itself : (a : List ℕ) → bytes_eq a a ≡ true
itself a = (bytes_eq-Decides a a).1 refl

pub differs : (a b : List ℕ) → a ≢ b → bytes_eq a b ≡ false
differs a b isnt = differs_on (bytes_eq a b) refl
  where
    differs_on : (t : Bool) → bytes_eq a b ≡ t → t ≡ false
    differs_on true is = absurd (isnt (equal a b is))
    differs_on false is = refl

not_less : (o : Ordering) → o ≡ ordering_reverse o → is_lt o ≡ false
not_less Less is = ap (λ p. elim p [ Less ↦ true | Equal ↦ false | Greater ↦ false ]) is
not_less Equal is = refl
not_less Greater is = refl

not_before_itself : (a : List ℕ) → is_before a a ≡ false
not_before_itself a = not_less (slice_cmp nat_cmp a a) (nat_list_cmp_total.antisymm a a)

-- of two keys that differ one comes before the other, and not both
data Side (a b : List ℕ) : Type 0 where
  before : is_before a b ≡ true → is_before b a ≡ false → Side a b
  after : is_before a b ≡ false → is_before b a ≡ true → Side a b

side_on : (a b : List ℕ) (o : Ordering) → a ≢ b → slice_cmp nat_cmp a b ≡ o → slice_cmp nat_cmp b a ≡ ordering_reverse o → Side a b
side_on a b Less isnt is back = before (ap is_lt is) (ap is_lt back)
side_on a b Equal isnt is back = absurd (isnt (equal a b (sym (is_eq-slice_cmp a b) ∙ ap is_eq is)))
side_on a b Greater isnt is back = after (ap is_lt is) (ap is_lt back)

side : (a b : List ℕ) → a ≢ b → Side a b
side a b isnt = side_on a b (slice_cmp nat_cmp a b) isnt refl (nat_list_cmp_total.antisymm b a)

-- FOUND
-- where none of the first is found the others are looked at
later_on : {X : Type 0} (p : X → Bool) (x : X) (xs ys : List X) (b : Bool) → (find p xs ≡ None → find p (xs ++ ys) ≡ find p ys)
    → cond b (Some x) (find p xs) ≡ None → cond b (Some x) (find p (xs ++ ys)) ≡ find p ys
later_on p x xs ys true rest none = absurd (true≢false (ap (λ o. elim o [ None ↦ false | Some y ↦ true ]) none))
later_on p x xs ys false rest none = rest none

pub find_later : {X : Type 0} (p : X → Bool) (xs ys : List X) → find p xs ≡ None → find p (xs ++ ys) ≡ find p ys
find_later p [] ys none = refl
find_later p (x ∷ xs) ys none = later_on p x xs ys (p x) (find_later p xs ys) none

first_on : {X : Type 0} (p : X → Bool) (y x : X) (xs ys : List X) (b : Bool) → (find p xs ≡ Some x → find p (xs ++ ys) ≡ Some x)
    → cond b (Some y) (find p xs) ≡ Some x → cond b (Some y) (find p (xs ++ ys)) ≡ Some x
first_on p y x xs ys true rest is = is
first_on p y x xs ys false rest is = rest is

pub find_first : {X : Type 0} (p : X → Bool) (xs ys : List X) (x : X) → find p xs ≡ Some x → find p (xs ++ ys) ≡ Some x
find_first p [] ys x is = absurd (true≢false (sym (ap (λ o. elim o [ None ↦ false | Some y ↦ true ]) is)))
find_first p (y ∷ xs) ys x is = first_on p y x xs ys (p y) (find_first p xs ys x) is

-- of those that a filter keeps or drops all together
kept_on : {X : Type 0} (p q : X → Bool) (x : X) (xs : List X) (a b : Bool) → p x ≡ a → q x ≡ b → (p x ≡ true → q x ≡ true)
    → find p (filter q xs) ≡ find p xs → find p (cond b (x ∷ filter q xs) (filter q xs)) ≡ cond a (Some x) (find p xs)
kept_on p q x xs true true pass kept keeps rest = ap (λ t. cond t (Some x) (find p (filter q xs))) pass
kept_on p q x xs true false pass kept keeps rest = absurd (true≢false (sym (keeps pass) ∙ kept))
kept_on p q x xs false true fail kept keeps rest = ap (λ t. cond t (Some x) (find p (filter q xs))) fail ∙ rest
kept_on p q x xs false false fail kept keeps rest = rest

find_kept : {X : Type 0} (p q : X → Bool) (xs : List X) → ((x : X) → p x ≡ true → q x ≡ true) → find p (filter q xs) ≡ find p xs
find_kept p q [] keeps = refl
find_kept p q (x ∷ xs) keeps = kept_on p q x xs (p x) (q x) refl refl (keeps x) (find_kept p q xs keeps)

dropped_on : {X : Type 0} (p q : X → Bool) (x : X) (xs : List X) (a b : Bool) → p x ≡ a → q x ≡ b → (p x ≡ true → q x ≡ false)
    → find p (filter q xs) ≡ None → find p (cond b (x ∷ filter q xs) (filter q xs)) ≡ None
dropped_on p q x xs true true pass kept drops rest = absurd (true≢false (sym kept ∙ drops pass))
dropped_on p q x xs true false pass kept drops rest = rest
dropped_on p q x xs false true fail kept drops rest = ap (λ t. cond t (Some x) (find p (filter q xs))) fail ∙ rest
dropped_on p q x xs false false fail kept drops rest = rest

find_dropped : {X : Type 0} (p q : X → Bool) (xs : List X) → ((x : X) → p x ≡ true → q x ≡ false) → find p (filter q xs) ≡ None
find_dropped p q [] drops = refl
find_dropped p q (x ∷ xs) drops = dropped_on p q x xs (p x) (q x) refl refl (drops x) (find_dropped p q xs drops)

-- ITEMS. The new item is found where a test passes it, and no item with another key
pub new_found : {A : Type 0} (key : A → List ℕ) (p : A → Bool) (new : A) (items : List A) → p new ≡ true
    → ((item : A) → p item ≡ true → key item ≡ key new) → find p (with_item key new items) ≡ Some new
new_found key p new items pass keyed =
    find_later p (filter (λ item. is_before (key item) (key new)) items) (new ∷ filter (λ item. is_before (key new) (key item)) items)
    (find_dropped p (λ item. is_before (key item) (key new)) items
    (λ item is. subst (λ k. is_before k (key new) ≡ false) (sym (keyed item is)) (not_before_itself (key new))))
    ∙ ap (λ t. cond t (Some new) (find p (filter (λ item. is_before (key new) (key item)) items))) pass

pub new_item : {A : Type 0} (key : A → List ℕ) (new : A) (items : List A) → item_at key (key new) (with_item key new items) ≡ Some new
new_item key new items =
    new_found key (λ item. bytes_eq (key item) (key new)) new items (itself (key new)) (λ item is. equal (key item) (key new) is)

-- and another is found as before, where a test passes those of another key alone
other_by : {A : Type 0} (key : A → List ℕ) (p : A → Bool) (new : A) (items : List A) (wanted : List ℕ) (found : Option A) → p new ≡ false
    → ((item : A) → p item ≡ true → key item ≡ wanted) → Side wanted (key new) → find p items ≡ found → find p (with_item key new items) ≡ found
other_by key p new items wanted None isnt keyed (before less more) is =
    find_later p (filter (λ item. is_before (key item) (key new)) items) (new ∷ filter (λ item. is_before (key new) (key item)) items)
    (find_kept p (λ item. is_before (key item) (key new)) items
    (λ item pass. subst (λ k. is_before k (key new) ≡ true) (sym (keyed item pass)) less) ∙ is)
    ∙ (ap (λ t. cond t (Some new) (find p (filter (λ item. is_before (key new) (key item)) items))) isnt
    ∙ find_dropped p (λ item. is_before (key new) (key item)) items
    (λ item pass. subst (λ k. is_before (key new) k ≡ false) (sym (keyed item pass)) more))
other_by key p new items wanted (Some x) isnt keyed (before less more) is =
    find_first p (filter (λ item. is_before (key item) (key new)) items) (new ∷ filter (λ item. is_before (key new) (key item)) items) x
    (find_kept p (λ item. is_before (key item) (key new)) items
    (λ item pass. subst (λ k. is_before k (key new) ≡ true) (sym (keyed item pass)) less) ∙ is)
other_by key p new items wanted found isnt keyed (after less more) is =
    find_later p (filter (λ item. is_before (key item) (key new)) items) (new ∷ filter (λ item. is_before (key new) (key item)) items)
    (find_dropped p (λ item. is_before (key item) (key new)) items
    (λ item pass. subst (λ k. is_before k (key new) ≡ false) (sym (keyed item pass)) less))
    ∙ (ap (λ t. cond t (Some new) (find p (filter (λ item. is_before (key new) (key item)) items))) isnt
    ∙ (find_kept p (λ item. is_before (key new) (key item)) items
    (λ item pass. subst (λ k. is_before (key new) k ≡ true) (sym (keyed item pass)) more) ∙ is))

pub other_found : {A : Type 0} (key : A → List ℕ) (p : A → Bool) (new : A) (items : List A) (wanted : List ℕ) → key new ≢ wanted → p new ≡ false
    → ((item : A) → p item ≡ true → key item ≡ wanted) → find p (with_item key new items) ≡ find p items
other_found key p new items wanted isnt fails keyed =
    other_by key p new items wanted (find p items) fails keyed (side wanted (key new) (λ same. isnt (sym same))) refl

pub other_item : {A : Type 0} (key : A → List ℕ) (new : A) (items : List A) (wanted : List ℕ) → key new ≢ wanted
    → item_at key wanted (with_item key new items) ≡ item_at key wanted items
other_item key new items wanted isnt =
    other_found key (λ item. bytes_eq (key item) wanted) new items wanted isnt (differs (key new) wanted isnt) (λ item is. equal (key item) wanted is)

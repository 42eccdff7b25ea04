-- Lists and tests: small lemmas that the laws of worlds need.
use Rattle.std.proofs.Common.{◌≡◌, ℕ, zero, suc, ◌+◌, ◌<◌, ◌≤◌, Bool, true, false, cond, List, [], ◌∷◌, ◌++◌, map, Option, None, Some, refl, sym, ap, subst, ◌∙◌, arith, true≢false, filter, filter_map, find, ◌||◌, ◌&&◌, All}
use Rattle.std.specs.List.{cons_option, flat_map, list_any, range_with_len}
use Rattle.std.specs.Prelude.{nat_le, nat_lt, slice_get}
use Rattle.std.proofs.lemmas.Bool.Decides.{nat_tests}
use Rattle.std.proofs.lemmas.List.Concat.{flat_map-cons}
use Rattle.std.proofs.lemmas.List.Elements.{All-nil, All-cons, All-append}
use Rattle.sds_trade.proofs.Lists.{all_head, all_tail}
use Rattle.sds_nodelaws.proofs.Held.{mapped}
use Rattle.sds_nodelaws.proofs.Tests.{or_cases}

-- one of two things holds
pub data Either (A B : Type 0) : Type 0 where
  left : A → Either A B
  right : B → Either A B

-- TESTS
pub second_false : (a b : Bool) → (a || b) ≡ false → b ≡ false
second_false true b is = absurd (true≢false is)
second_false false b is = is

pub and_left : (a b : Bool) → (a && b) ≡ true → a ≡ true
and_left true b both = refl
and_left false b both = both

pub and_right : (a b : Bool) → (a && b) ≡ true → b ≡ true
and_right true b both = both
and_right false b both = absurd (true≢false (sym both))

pub and_both : (a b : Bool) → a ≡ true → b ≡ true → (a && b) ≡ true
and_both true b first second = second
and_both false b first second = first

pub no_some : {X : Type 0} {G : Type 0} (x : X) → None ≡ Some x → G
no_some x is = absurd (true≢false (sym (ap (λ o. elim o [ None ↦ false | Some y ↦ true ]) is)))

pub same_some : {X : Type 0} (x y : X) → Some x ≡ Some y → x ≡ y
same_some x y is = ap (λ o. elim o [ None ↦ x | Some z ↦ z ]) is

pub is_le : (a b : ℕ) → a ≤ b → nat_le a b ≡ true
is_le a b less = grind (arith, nat_tests, less)

pub from_le : (a b : ℕ) → nat_le a b ≡ true → a ≤ b
from_le a b is = grind (arith, nat_tests, is)

pub not_le : (a b : ℕ) → b < a → nat_le a b ≡ false
not_le a b more = grind (arith, nat_tests, more)

pub from_not_le : (a b : ℕ) → nat_le a b ≡ false → b < a
from_not_le a b is = grind (arith, nat_tests, is)

pub from_lt : (a b : ℕ) → nat_lt a b ≡ true → a < b
from_lt a b is = grind (arith, nat_tests, is)

pub is_lt_test : (a b : ℕ) → a < b → nat_lt a b ≡ true
is_lt_test a b less = grind (arith, nat_tests, less)

pub from_not_lt : (a b : ℕ) → nat_lt a b ≡ false → b ≤ a
from_not_lt a b is = grind (arith, nat_tests, is)

-- MEMBERS
abbrev pub In : {X : Type 0} → X → List X → Type 0
In x [] = ⊥
In x (y ∷ ys) = Either (x ≡ y) (In x ys)

pub all_in : {X : Type 0} (P : X → Type 0) (x : X) (xs : List X) → All P xs → In x xs → P x
all_in P x [] are is = absurd is
all_in P x (y ∷ ys) are (left same) = subst P (sym same) (all_head P y ys are)
all_in P x (y ∷ ys) are (right rest) = all_in P x ys (all_tail P y ys are) rest

pub in_all : {X : Type 0} (P : X → Type 0) (xs : List X) → ((x : X) → In x xs → P x) → All P xs
in_all P [] each = All-nil P
in_all P (x ∷ xs) each = All-cons P x xs (each x (left refl)) (in_all P xs (λ y is. each y (right is)))

pub in_first : {X : Type 0} (x : X) (xs ys : List X) → In x xs → In x (xs ++ ys)
in_first x [] ys is = absurd is
in_first x (y ∷ xs) ys (left same) = left same
in_first x (y ∷ xs) ys (right rest) = right (in_first x xs ys rest)

pub in_last : {X : Type 0} (x : X) (xs ys : List X) → In x ys → In x (xs ++ ys)
in_last x [] ys is = is
in_last x (y ∷ xs) ys is = right (in_last x xs ys is)

pub in_map : {X Y : Type 0} (f : X → Y) (x : X) (xs : List X) → In x xs → In (f x) (map f xs)
in_map f x [] is = absurd is
in_map f x (y ∷ ys) (left same) = left (ap f same)
in_map f x (y ∷ ys) (right rest) = right (in_map f x ys rest)

pub in_filter : {X : Type 0} (p : X → Bool) (x : X) (xs : List X) → In x (filter p xs) → In x xs
in_filter p x [] is = is
in_filter p x (y ∷ ys) is = in_on (p y) (λ rest. in_filter p x ys rest) is
  where
    in_on : (b : Bool) → (In x (filter p ys) → In x ys) → In x (cond b (y ∷ filter p ys) (filter p ys)) → Either (x ≡ y) (In x ys)
    in_on true later (left same) = left same
    in_on true later (right rest) = right (later rest)
    in_on false later rest = right (later rest)

-- LISTS
pub all_flat : {X Y : Type 0} (P : Y → Type 0) (f : X → List Y) (xs : List X) → All (λ x. All P (f x)) xs → All P (flat_map f xs)
all_flat P f [] are = All-nil P
all_flat P f (x ∷ xs) are =
    subst (All P) (sym (flat_map-cons f x xs))
    (All-append P (f x) (flat_map f xs) (all_head (λ y. All P (f y)) x xs are) (all_flat P f xs (all_tail (λ y. All P (f y)) x xs are)))

pub map_same : {X Y : Type 0} (f g : X → Y) (xs : List X) → All (λ x. f x ≡ g x) xs → map f xs ≡ map g xs
map_same f g [] same = refl
map_same f g (x ∷ xs) same =
    ap (λ y. y ∷ map f xs) (all_head (λ y. f y ≡ g y) x xs same) ∙ ap (λ ys. g x ∷ ys) (map_same f g xs (all_tail (λ y. f y ≡ g y) x xs same))

pub map_twice : {X Y Z : Type 0} (f : Y → Z) (g : X → Y) (xs : List X) → map f (map g xs) ≡ map (λ x. f (g x)) xs
map_twice f g [] = refl
map_twice f g (x ∷ xs) = ap (λ ys. f (g x) ∷ ys) (map_twice f g xs)

pub filter_through : {X : Type 0} (p : X → Bool) (f : X → X) (xs : List X) → ((x : X) → p (f x) ≡ p x) → filter p (map f xs) ≡ map f (filter p xs)
filter_through p f [] same = refl
filter_through p f (x ∷ xs) same =
    ap (λ b. cond b (f x ∷ filter p (map f xs)) (filter p (map f xs))) (same x)
    ∙ (ap (λ ys. cond (p x) (f x ∷ ys) ys) (filter_through p f xs same) ∙ through_on (p x))
  where
    through_on : (b : Bool) → cond b (f x ∷ map f (filter p xs)) (map f (filter p xs)) ≡ map f (cond b (x ∷ filter p xs) (filter p xs))
    through_on true = refl
    through_on false = refl

pub filter_all : {X : Type 0} (P : X → Type 0) (p : X → Bool) (xs : List X) → All P xs → All P (filter p xs)
filter_all P p [] are = are
filter_all P p (x ∷ xs) are = kept_on (p x) (filter_all P p xs (all_tail P x xs are))
  where
    kept_on : (b : Bool) → All P (filter p xs) → All P (cond b (x ∷ filter p xs) (filter p xs))
    kept_on true rest = All-cons P x (filter p xs) (all_head P x xs are) rest
    kept_on false rest = rest

pub filter_none : {X : Type 0} (p : X → Bool) (xs : List X) → All (λ x. p x ≡ false) xs → filter p xs ≡ []
filter_none p [] none = refl
filter_none p (x ∷ xs) none =
    ap (λ b. cond b (x ∷ filter p xs) (filter p xs)) (all_head (λ y. p y ≡ false) x xs none) ∙ filter_none p xs (all_tail (λ y. p y ≡ false) x xs none)

pub find_none : {X : Type 0} (p : X → Bool) (xs : List X) → All (λ x. p x ≡ false) xs → find p xs ≡ None
find_none p [] none = refl
find_none p (x ∷ xs) none =
    ap (λ b. cond b (Some x) (find p xs)) (all_head (λ y. p y ≡ false) x xs none) ∙ find_none p xs (all_tail (λ y. p y ≡ false) x xs none)

pub find_passes : {X : Type 0} (p : X → Bool) (xs : List X) (x : X) → find p xs ≡ Some x → p x ≡ true
find_passes p [] x is = no_some x is
find_passes p (y ∷ ys) x is = passes_on (p y) refl (λ found. find_passes p ys x found) is
  where
    passes_on : (b : Bool) → p y ≡ b → (find p ys ≡ Some x → p x ≡ true) → cond b (Some y) (find p ys) ≡ Some x → p x ≡ true
    passes_on true pass later found = ap p (sym (same_some y x found)) ∙ pass
    passes_on false fail later found = later found

pub find_all : {X : Type 0} (P : X → Type 0) (p : X → Bool) (xs : List X) (x : X) → All P xs → find p xs ≡ Some x → P x
find_all P p [] x are is = no_some x is
find_all P p (y ∷ ys) x are is = all_on (p y) (λ found. find_all P p ys x (all_tail P y ys are) found) is
  where
    all_on : (b : Bool) → (find p ys ≡ Some x → P x) → cond b (Some y) (find p ys) ≡ Some x → P x
    all_on true later found = subst P (same_some y x found) (all_head P y ys are)
    all_on false later found = later found

pub find_same : {X : Type 0} (p q : X → Bool) (xs : List X) → ((x : X) → p x ≡ q x) → find p xs ≡ find q xs
find_same p q [] same = refl
find_same p q (x ∷ xs) same = ap (λ b. cond b (Some x) (find p xs)) (same x) ∙ ap (λ o. cond (q x) (Some x) o) (find_same p q xs same)

pub filter_map_same : {X Y : Type 0} (f g : X → Option Y) (xs : List X) → All (λ x. f x ≡ g x) xs → filter_map f xs ≡ filter_map g xs
filter_map_same f g [] same = refl
filter_map_same f g (x ∷ xs) same =
    ap (λ o. cons_option o (filter_map f xs)) (all_head (λ y. f y ≡ g y) x xs same)
    ∙ ap (λ ys. cons_option (g x) ys) (filter_map_same f g xs (all_tail (λ y. f y ≡ g y) x xs same))

pub any_true : {X : Type 0} (p : X → Bool) (x : X) (xs : List X) → In x xs → p x ≡ true → list_any p xs ≡ true
any_true p x [] is pass = absurd is
any_true p x (y ∷ ys) (left same) pass = ap (λ b. b || list_any p ys) (ap p (sym same) ∙ pass)
any_true p x (y ∷ ys) (right rest) pass = or_right (p y) (list_any p ys) (any_true p x ys rest pass)
  where
    or_right : (a b : Bool) → b ≡ true → (a || b) ≡ true
    or_right true b is = refl
    or_right false b is = is

-- where some element passes and something holds of each, it holds of one that passes
pub any_gives : {X G : Type 0} (p : X → Bool) (Q : X → Type 0) (xs : List X) → list_any p xs ≡ true → All Q xs → ((x : X) → p x ≡ true → Q x → G) → G
any_gives p Q [] is are gives = absurd (true≢false (sym is))
any_gives p Q (x ∷ xs) is are gives =
    or_cases (p x) (list_any p xs) is (λ here. gives x here (all_head Q x xs are)) (λ rest. any_gives p Q xs rest (all_tail Q x xs are) gives)

-- numbers that count on ascend
abbrev pub Above : {X : Type 0} → (X → ℕ) → X → X → Type 0
Above number a b = number a < number b

pub least_in_range : (a n : ℕ) → All (λ (k : ℕ). a ≤ k) (range_with_len a n)
least_in_range a zero = All-nil (λ (k : ℕ). a ≤ k)
least_in_range a (suc n) =
    All-cons (λ (k : ℕ). a ≤ k) a (range_with_len (a + 1) n) (same a)
    (mapped (λ (k : ℕ). a + 1 ≤ k) (λ (k : ℕ). a ≤ k) (range_with_len (a + 1) n) (λ k less. more a k less) (least_in_range (a + 1) n))
  where
    same : (b : ℕ) → b ≤ b
    same b = omega arith

    more : (b k : ℕ) → b + 1 ≤ k → b ≤ k
    more b k less = omega (arith, less)

pub most_in_range : (a n : ℕ) → All (λ (k : ℕ). k < a + n) (range_with_len a n)
most_in_range a zero = All-nil (λ (k : ℕ). k < a + zero)
most_in_range a (suc n) =
    All-cons (λ (k : ℕ). k < a + suc n) a (range_with_len (a + 1) n) (first a n)
    (mapped (λ (k : ℕ). k < (a + 1) + n) (λ (k : ℕ). k < a + suc n) (range_with_len (a + 1) n) (λ k less. later a n k less) (most_in_range (a + 1) n))
  where
    first : (b m : ℕ) → b < b + suc m
    first b m = omega arith

    later : (b m k : ℕ) → k < (b + 1) + m → k < b + suc m
    later b m k less = omega (arith, less)

pub unmap_all : {X Y : Type 0} (P : Y → Type 0) (f : X → Y) (xs : List X) → All P (map f xs) → All (λ x. P (f x)) xs
unmap_all P f [] are = All-nil (λ x. P (f x))
unmap_all P f (x ∷ xs) are = All-cons (λ y. P (f y)) x xs (all_head P (f x) (map f xs) are) (unmap_all P f xs (all_tail P (f x) (map f xs) are))

pub map_all : {X Y : Type 0} (P : Y → Type 0) (f : X → Y) (xs : List X) → All (λ x. P (f x)) xs → All P (map f xs)
map_all P f [] are = All-nil P
map_all P f (x ∷ xs) are = All-cons P (f x) (map f xs) (all_head (λ y. P (f y)) x xs are) (map_all P f xs (all_tail (λ y. P (f y)) x xs are))

-- each item's number is below all that come later
abbrev pub Ascending : {X : Type 0} → (X → ℕ) → List X → Type 0
Ascending number [] = Unit {0}
Ascending number (x ∷ xs) = All (λ y. number x < number y) xs × Ascending number xs

pub ascending_range : {X : Type 0} (number : X → ℕ) (xs : List X) (a n : ℕ) → map number xs ≡ range_with_len a n → Ascending number xs
ascending_range number [] a n same = tt
ascending_range number (x ∷ xs) a zero same = absurd (true≢false (ap (λ l. elim l [ [] ↦ false | k ∷ ks ↦ true ]) same))
ascending_range number (x ∷ xs) a (suc n) same =
    let first : number x ≡ a = ap (λ l. elim l [ [] ↦ number x | k ∷ ks ↦ k ]) same in
    let rest : map number xs ≡ range_with_len (a + 1) n = ap (λ l. elim l [ [] ↦ [] | k ∷ ks ↦ ks ]) same in (
      unmap_all (λ k. number x < k) number xs
          (subst (All (λ k. number x < k)) (sym rest)
          (mapped (λ (k : ℕ). a + 1 ≤ k) (λ (k : ℕ). number x < k) (range_with_len (a + 1) n) (λ k less. above first k less) (least_in_range (a + 1) n))),
      ascending_range number xs (a + 1) n rest,
    )
  where
    above : {b : ℕ} → number x ≡ b → (k : ℕ) → b + 1 ≤ k → number x < k
    above {b} is k less = omega (arith, is, less)

pub ascending_filter : {X : Type 0} (number : X → ℕ) (p : X → Bool) (xs : List X) → Ascending number xs → Ascending number (filter p xs)
ascending_filter number p [] are = tt
ascending_filter number p (x ∷ xs) are = kept_on (p x) (ascending_filter number p xs are.1)
  where
    kept_on : (b : Bool) → Ascending number (filter p xs) → Ascending number (cond b (x ∷ filter p xs) (filter p xs))
    kept_on true rest = (filter_all (λ y. number x < number y) p xs are.0, rest)
    kept_on false rest = rest

-- what stands at a place
pub slice_all : {X : Type 0} (P : X → Type 0) (xs : List X) (place : ℕ) (x : X) → All P xs → slice_get xs place ≡ Some x → P x
slice_all P [] place x are is = no_some x is
slice_all P (y ∷ ys) zero x are is = subst P (same_some y x is) (all_head P y ys are)
slice_all P (y ∷ ys) (suc place) x are is = slice_all P ys place x (all_tail P y ys are) is

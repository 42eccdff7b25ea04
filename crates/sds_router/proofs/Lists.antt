-- Small lemmas on lists that routers need.
use Rattle.std.proofs.Common.{◌≡◌, ℕ, zero, suc, ◌+◌, ◌<◌, Bool, true, false, ◌&&◌, ◌||◌, List, [], ◌∷◌, ◌++◌, length, get_or, drop, refl, sym, subst, ap, ◌∙◌, add-one, arith, drop-cons, map}
use Rattle.std.proofs.lemmas.List.Elements.{All-nil, All-cons}
use Rattle.std.specs.Prelude.{Some, slice_get, Result, Ok, Err, IfOk}
use Rattle.std.specs.List.{All, list_all, list_any, zip}

-- TESTS
or_false : (b : Bool) → (b || false) ≡ b
or_false true = refl
or_false false = refl

or_assoc : (a b c : Bool) → (a || (b || c)) ≡ ((a || b) || c)
or_assoc true b c = refl
or_assoc false b c = refl

or_true : (a b : Bool) → (a || (true || b)) ≡ true
or_true true b = refl
or_true false b = refl

and_true : (b : Bool) → (b && true) ≡ b
and_true true = refl
and_true false = refl

pub and_false : (b : Bool) → (b && false) ≡ false
and_false true = refl
and_false false = refl

and_assoc : (a b c : Bool) → (a && (b && c)) ≡ ((a && b) && c)
and_assoc true b c = refl
and_assoc false b c = refl

and_no : (a b : Bool) → (a && (false && b)) ≡ false
and_no true b = refl
and_no false b = refl

any_push : {X : Type 0} (p : X → Bool) (xs : List X) (y : X)
    → list_any p (xs ++ y ∷ []) ≡ (list_any p xs || p y)
any_push p [] y = or_false (p y)
any_push p (x ∷ xs) y = ap (λ b. p x || b) (any_push p xs y) ∙ or_assoc (p x) (list_any p xs) (p y)

all_push : {X : Type 0} (p : X → Bool) (xs : List X) (y : X)
    → list_all p (xs ++ y ∷ []) ≡ (list_all p xs && p y)
all_push p [] y = and_true (p y)
all_push p (x ∷ xs) y = ap (λ b. p x && b) (all_push p xs y) ∙ and_assoc (p x) (list_all p xs) (p y)

-- TURNS. What is left of a list begins with the element of this turn
turn : {X : Type 0} (xs : List X) (i : ℕ) (x : X) → i < length xs → x ≡ get_or xs i x
    → drop i xs ≡ x ∷ drop (i + 1) xs
turn xs i x within is =
    drop-cons xs i x within ∙ (rw add-one (ap (λ y. y ∷ drop (suc i) xs) (sym is)))

-- an element of the second list that answers yes
pub any_yes : {A X : Type 0} (p : A → Bool) (q : X → Bool) (made : List A) (xs : List X) (i : ℕ) (x : X) (whole : Bool)
    → i < length xs → x ≡ get_or xs i x → (list_any p made || list_any q (drop i xs)) ≡ whole
    → q x ≡ true → true ≡ whole
any_yes p q made xs i x whole within is so_far holds =
    sym (rw (← so_far) (rw (turn xs i x within is, holds) (or_true (list_any p made) (list_any q (drop (i + 1) xs)))))

-- one that answers no
pub any_no : {A X : Type 0} (p : A → Bool) (q : X → Bool) (made : List A) (xs : List X) (i : ℕ) (x : X) (whole : Bool)
    → i < length xs → x ≡ get_or xs i x → (list_any p made || list_any q (drop i xs)) ≡ whole
    → q x ≡ false → (list_any p made || list_any q (drop (i + 1) xs)) ≡ whole
any_no p q made xs i x whole within is so_far fails =
    let e = rw (turn xs i x within is, fails) at so_far in e

-- one for which an element is made that answers alike
pub any_made : {A X : Type 0} (p : A → Bool) (q : X → Bool) (made : List A) (a : A) (xs : List X) (i : ℕ) (x : X) (whole : Bool)
    → i < length xs → x ≡ get_or xs i x → (list_any p made || list_any q (drop i xs)) ≡ whole
    → p a ≡ q x → (list_any p (made ++ a ∷ []) || list_any q (drop (i + 1) xs)) ≡ whole
any_made p q made a xs i x whole within is so_far same =
    let e : (list_any p made || (q x || list_any q (drop (i + 1) xs))) ≡ whole = rw (turn xs i x within is) at so_far in
    rw (any_push p made a, same) (sym (or_assoc (list_any p made) (q x) (list_any q (drop (i + 1) xs))) ∙ e)

-- the same, where the elements are copied out of a list that is seen as this one
pub any_copied : {A X : Type 0} (p : A → Bool) (q : X → Bool) (made : List A) (a : A) (xs seen : List X) (i : ℕ) (d : X) (whole : Bool)
    → seen ≡ xs → i < length seen → (list_any p made || list_any q (drop i xs)) ≡ whole
    → p a ≡ q (get_or seen i d) → (list_any p (made ++ a ∷ []) || list_any q (drop (i + 1) xs)) ≡ whole
any_copied p q made a xs seen i d whole shown within so_far same =
    let before : (list_any p made || list_any q (drop i seen)) ≡ whole = rw shown so_far in
    let next : drop i seen ≡ get_or seen i d ∷ drop (i + 1) seen = rw add-one (drop-cons seen i d within) in
    let e : (list_any p made || (q (get_or seen i d) || list_any q (drop (i + 1) seen))) ≡ whole = rw next at before in
    rw (← shown, any_push p made a, same) (sym (or_assoc (list_any p made) (q (get_or seen i d)) (list_any q (drop (i + 1) seen))) ∙ e)

-- the same where all have to answer yes
pub all_no : {A X : Type 0} (p : A → Bool) (q : X → Bool) (made : List A) (xs : List X) (i : ℕ) (x : X) (whole : Bool)
    → i < length xs → x ≡ get_or xs i x → (list_all p made && list_all q (drop i xs)) ≡ whole
    → false ≡ q x → false ≡ whole
all_no p q made xs i x whole within is so_far fails =
    sym (rw (← so_far) (rw (turn xs i x within is, ← fails) (and_no (list_all p made) (list_all q (drop (i + 1) xs)))))

pub all_made : {A X : Type 0} (p : A → Bool) (q : X → Bool) (made : List A) (a : A) (xs : List X) (i : ℕ) (x : X) (whole : Bool)
    → i < length xs → x ≡ get_or xs i x → (list_all p made && list_all q (drop i xs)) ≡ whole
    → p a ≡ q x → (list_all p (made ++ a ∷ []) && list_all q (drop (i + 1) xs)) ≡ whole
all_made p q made a xs i x whole within is so_far same =
    let e : (list_all p made && (q x && list_all q (drop (i + 1) xs))) ≡ whole = rw (turn xs i x within is) at so_far in
    rw (all_push p made a, same) (sym (and_assoc (list_all p made) (q x) (list_all q (drop (i + 1) xs))) ∙ e)

-- WHOLE LISTS
pub any_same : {X : Type 0} (p q : X → Bool) (xs : List X) → ((x : X) → p x ≡ q x) → list_any p xs ≡ list_any q xs
any_same p q [] same = refl
any_same p q (x ∷ xs) same = rw (same x, any_same p q xs same) refl

pub any_none : {X : Type 0} (p : X → Bool) (xs : List X) → ((x : X) → p x ≡ false) → list_any p xs ≡ false
any_none p [] fails = refl
any_none p (x ∷ xs) fails = rw (fails x) (any_none p xs fails)

pub any_map : {X Y : Type 0} (p : Y → Bool) (f : X → Y) (xs : List X) → list_any (λ (x : X). p (f x)) xs ≡ list_any p (map f xs)
any_map p f [] = refl
any_map p f (x ∷ xs) = ap (λ b. p (f x) || b) (any_map p f xs)

-- the elements at one place of two lists
record IsPair {X Y : Type 0} (xs : List X) (ys : List Y) (i : ℕ) (x : X) (y : Y) : Type 0 where
  pub within : i < length (zip xs ys)
  pub are : get_or (zip xs ys) i (x, y) ≡ (x, y)

pair_at : {X Y : Type 0} (xs : List X) (ys : List Y) (i : ℕ) (x : X) (y : Y) → slice_get xs i ≡ Some x → slice_get ys i ≡ Some y → IsPair xs ys i x y
pair_at [] ys i x y first second = absurd (cc)
pair_at (a ∷ xs) [] i x y first second = absurd (cc)
pair_at (a ∷ xs) (b ∷ ys) zero x y first second =
    let e : a ≡ x = cc in
    let f : b ≡ y = cc in
    record { within = omega arith; are = rw (e, f) refl }
pair_at (a ∷ xs) (b ∷ ys) (suc i) x y first second =
    let later = pair_at xs ys i x y first second in
    record { within = omega (arith, later.within); are = later.are }

pub all_pairs_at : {X Y : Type 0} (P : X × Y → Type 0) (xs : List X) (ys : List Y) → All P (zip xs ys) → (i : ℕ) (x : X) (y : Y)
    → slice_get xs i ≡ Some x → slice_get ys i ≡ Some y → P (x, y)
all_pairs_at P xs ys each i x y first second =
    let pair = pair_at xs ys i x y first second in
    subst P pair.are (each i (x, y) pair.within)

pub all_tail : {X : Type 0} (P : X → Type 0) (x : X) (xs : List X) → All P (x ∷ xs) → All P xs
all_tail P x xs are k d within = are (suc k) d (omega arith)

pub all_head : {X : Type 0} (P : X → Type 0) (x : X) (xs : List X) → All P (x ∷ xs) → P x
all_head P x xs are = are zero x (omega arith)

-- what holds of what a list is seen as holds of the list
pub all_seen : {X Y : Type 0} (P : Y → Type 0) (f : X → Y) (xs : List X) → All P (map f xs) → All (λ (x : X). P (f x)) xs
all_seen {X} P f [] are = All-nil (λ (x : X). P (f x))
all_seen {X} P f (x ∷ xs) are = All-cons (λ (y : X). P (f y)) x xs (all_head P (f x) (map f xs) are) (all_seen P f xs (all_tail P (f x) (map f xs) are))

-- RESULTS. What holds of the value holds with all that follows from it
pub if_ok : {T E : Type 0} (P Q : T → Type 0) (r : Result T E) → ((x : T) → P x → Q x) → IfOk r P → IfOk r Q
if_ok P Q (Ok x) more is = more x is
if_ok P Q (Err e) more is = tt

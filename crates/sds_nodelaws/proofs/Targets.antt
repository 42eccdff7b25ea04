-- The places of peers that ascend are those that a range finds among them.
use Rattle.std.proofs.Common.{◌≡◌, ℕ, zero, suc, ◌+◌, ◌<◌, ◌≤◌, Bool, true, false, cond, List, [], ◌∷◌, ◌++◌, refl, sym, ap, ◌∙◌, arith, ◌||◌, ◌==◌, All, AllPairs, max}
use Rattle.std.specs.List.{flat_map, fold, list_any, range_with_len}
use Rattle.std.proofs.Math.Nat.{le-max_left, le-max_right}
use Rattle.std.proofs.lemmas.Bool.Decides.{nat_tests}
use Rattle.std.proofs.lemmas.List.Concat.{flat_map-cons}
use Rattle.std.proofs.lemmas.List.Elements.{All-nil, All-cons}
use Rattle.sds_trade.proofs.Lists.{all_head, all_tail, pairs_head, pairs_tail}
use Rattle.sds_nodelaws.proofs.Held.{flat_same, mapped}
use Rattle.sds_nodelaws.proofs.Tests.{at_most, same_number}

abbrev pub one_if : Bool → ℕ → List ℕ
one_if b place = cond b (place ∷ []) []

abbrev pub is_in : List ℕ → ℕ → Bool
is_in targets place = list_any (λ (target : ℕ). target == place) targets

abbrev pub Below : ℕ → ℕ → Type 0
Below a b = a < b

above : (a n : ℕ) → suc a ≤ n → (n == a) ≡ false
above a n more = grind (arith, nat_tests)

-- numbers of a range from a on
one_less : (a m : ℕ) → a + 1 ≤ m → a ≤ m
one_less a m more = omega (arith, more)

pub range_above : (a n : ℕ) → All (λ (k : ℕ). a ≤ k) (range_with_len a n)
range_above a zero = All-nil (λ (k : ℕ). a ≤ k)
range_above a (suc n) = All-cons (λ (k : ℕ). a ≤ k) a (range_with_len (a + 1) n) (omega arith)
    (mapped (λ (k : ℕ). a + 1 ≤ k) (λ (k : ℕ). a ≤ k) (range_with_len (a + 1) n) (λ k more. one_less a k more) (range_above (a + 1) n))

nothing_in : (targets : List ℕ) (place : ℕ) → All (λ (target : ℕ). suc place ≤ target) targets → is_in targets place ≡ false
nothing_in [] place more = refl
nothing_in (target ∷ targets) place more =
    ap (λ b. b || is_in targets place) (above place target (all_head (λ (t : ℕ). suc place ≤ t) target targets more))
    ∙ nothing_in targets place (all_tail (λ (t : ℕ). suc place ≤ t) target targets more)

none_in_range : (targets : List ℕ) (a n : ℕ) → targets ≡ [] → flat_map (λ (p : ℕ). one_if (is_in targets p) p) (range_with_len a n) ≡ []
none_in_range targets a zero none = refl
none_in_range targets a (suc n) none =
    flat_map-cons (λ (p : ℕ). one_if (is_in targets p) p) a (range_with_len (a + 1) n)
    ∙ (ap (λ ts. one_if (is_in ts a) a ++ flat_map (λ (p : ℕ). one_if (is_in targets p) p) (range_with_len (a + 1) n)) none
    ∙ none_in_range targets (a + 1) n none)

passed : (target place a : ℕ) → target ≡ a → a + 1 ≤ place → (target == place) ≡ false
passed target place a same more = grind (arith, nat_tests)

next_most : (t a m : ℕ) → t < a + suc m → t < (a + 1) + m
next_most t a m less = omega (arith, less)

after_first : (t s a : ℕ) → t ≡ a → t < s → a + 1 ≤ s
after_first t s a same less = omega (arith, same, less)

after_greater : (t s a : ℕ) → suc a ≤ t → t < s → a + 1 ≤ s
after_greater t s a more less = omega (arith, more, less)

greater : (t a : ℕ) → a ≤ t → (t == a) ≡ false → suc a ≤ t
greater t a most isnt = grind (arith, nat_tests)

greater_still : (t s a : ℕ) → suc a ≤ t → t < s → suc a ≤ s
greater_still t s a more less = omega (arith, more, less)

no_more : (t a : ℕ) → a ≤ t → t < a + zero → ⊥
no_more t a most less = omega (arith, most, less)

abbrev pub Finds : List ℕ → ℕ → ℕ → List ℕ
Finds targets a n = flat_map (λ (p : ℕ). one_if (is_in targets p) p) (range_with_len a n)

-- beyond a place it doesn't matter whether that place is among them
beyond : (target a : ℕ) (targets : List ℕ) (place : ℕ) → target ≡ a → a + 1 ≤ place
    → one_if (is_in (target ∷ targets) place) place ≡ one_if (is_in targets place) place
beyond target a targets place same more = ap (λ b. one_if (b || is_in targets place) place) (passed target place a same more)

beyond_all : (target a : ℕ) (targets places : List ℕ) → target ≡ a → All (λ (k : ℕ). a + 1 ≤ k) places
    → All (λ (p : ℕ). one_if (is_in (target ∷ targets) p) p ≡ one_if (is_in targets p) p) places
beyond_all target a targets places same more =
    mapped (λ (k : ℕ). a + 1 ≤ k) (λ (p : ℕ). one_if (is_in (target ∷ targets) p) p ≡ one_if (is_in targets p) p) places
    (λ p above_a. beyond target a targets p same above_a) more

all_greater : (target a : ℕ) (targets : List ℕ) → suc a ≤ target → AllPairs Below (target ∷ targets) → All (λ (t : ℕ). suc a ≤ t) targets
all_greater target a targets more pairs =
    mapped (Below target) (λ (t : ℕ). suc a ≤ t) targets (λ t less. greater_still target t a more less) (pairs_head Below target targets pairs)

first_on : (a m target : ℕ) (targets : List ℕ) (b : Bool) → (target == a) ≡ b → AllPairs Below (target ∷ targets) → a ≤ target
    → (target ≡ a → Finds targets (a + 1) m ≡ targets) → (suc a ≤ target → Finds (target ∷ targets) (a + 1) m ≡ target ∷ targets)
    → one_if (is_in (target ∷ targets) a) a ++ Finds (target ∷ targets) (a + 1) m ≡ target ∷ targets
first_on a m target targets true is pairs most here later =
    let same : target ≡ a = same_number target a is in
    ap (λ b. one_if (b || is_in targets a) a ++ Finds (target ∷ targets) (a + 1) m) is
    ∙ (ap (λ ts. a ∷ ts) (flat_same (λ (p : ℕ). one_if (is_in (target ∷ targets) p) p) (λ (p : ℕ). one_if (is_in targets p) p) (range_with_len (a + 1) m)
    (beyond_all target a targets (range_with_len (a + 1) m) same (range_above (a + 1) m)) ∙ here same) ∙ ap (λ k. k ∷ targets) (sym same))
first_on a m target targets false is pairs most here later =
    let more : suc a ≤ target = greater target a most is in
    ap (λ b. one_if (b || is_in targets a) a ++ Finds (target ∷ targets) (a + 1) m) is
    ∙ (ap (λ b. one_if b a ++ Finds (target ∷ targets) (a + 1) m) (nothing_in targets a (all_greater target a targets more pairs)) ∙ later more)

one_up : (t s : ℕ) → suc s ≤ t → s + 1 ≤ t
one_up t s more = omega (arith, more)

nexts : (a m : ℕ) (targets : List ℕ) → All (λ (t : ℕ). t < a + suc m) targets → All (λ (t : ℕ). t < (a + 1) + m) targets
nexts a m targets most = mapped (λ (t : ℕ). t < a + suc m) (λ (t : ℕ). t < (a + 1) + m) targets (λ t less. next_most t a m less) most

pub targets_found : (n a : ℕ) (targets : List ℕ) → AllPairs Below targets → All (λ (t : ℕ). a ≤ t) targets → All (λ (t : ℕ). t < a + n) targets
    → Finds targets a n ≡ targets
targets_found n a [] pairs least most = none_in_range [] a n refl
targets_found zero a (target ∷ targets) pairs least most =
    absurd (no_more target a (all_head (λ (t : ℕ). a ≤ t) target targets least) (all_head (λ (t : ℕ). t < a + zero) target targets most))
targets_found (suc m) a (target ∷ targets) pairs least most =
    flat_map-cons (λ (p : ℕ). one_if (is_in (target ∷ targets) p) p) a (range_with_len (a + 1) m)
    ∙ first_on a m target targets (target == a) refl pairs (all_head (λ (t : ℕ). a ≤ t) target targets least)
    (λ same. targets_found m (a + 1) targets (pairs_tail Below target targets pairs)
    (mapped (Below target) (λ (t : ℕ). a + 1 ≤ t) targets (λ t less. after_first target t a same less) (pairs_head Below target targets pairs))
    (all_tail (λ (t : ℕ). t < (a + 1) + m) target targets (nexts a m (target ∷ targets) most)))
    (λ more. targets_found m (a + 1) (target ∷ targets) pairs
    (All-cons (λ (t : ℕ). a + 1 ≤ t) target targets (one_up target a more)
    (mapped (Below target) (λ (t : ℕ). a + 1 ≤ t) targets (λ t less. after_greater target t a more less) (pairs_head Below target targets pairs)))
    (nexts a m (target ∷ targets) most))

-- THE GREATEST
itself : (a : ℕ) → a ≤ a
itself a = omega arith

fold_least : (a : ℕ) (xs : List ℕ) → a ≤ fold max a xs
fold_least a [] = itself a
fold_least a (x ∷ xs) = at_most a (max a x) (fold max (max a x) xs) (le-max_left a x) (fold_least (max a x) xs)

pub fold_each : (a : ℕ) (xs : List ℕ) → All (λ (x : ℕ). x ≤ fold max a xs) xs
fold_each a [] = All-nil (λ (x : ℕ). x ≤ fold max a [])
fold_each a (x ∷ xs) =
    All-cons (λ (y : ℕ). y ≤ fold max (max a x) xs) x xs (at_most x (max a x) (fold max (max a x) xs) (le-max_right a x) (fold_least (max a x) xs))
    (fold_each (max a x) xs)

-- Sums over names that differ, and what a row's sides take at most.
use Rattle.std.proofs.Common.{◌≡◌, ℕ, suc, ◌+◌, ◌*◌, ◌≤◌, Bool, true, false, cond, ◌||◌, not, List, [], ◌∷◌, ◌++◌, length, map, Option, None, Some, refl, sym, ap, subst, ◌∙◌, arith, true≢false, All, AllPairs, filter, find}
use Rattle.std.proofs.lemmas.List.Elements.{All-nil, All-cons}
use Rattle.std.specs.Option.{option_map_or}
use Rattle.std.specs.Str.{bytes_eq}
use Rattle.sds_value.specs.declared.row.Field.{Field}
use Rattle.sds_value.specs.declared.row.Field.TheVariants.{Null}
use Rattle.sds_types.specs.declared.transform_column.TransformColumn.{TransformColumn}
use Rattle.sds_trade.specs.rules.DocRows.{field_in}
use Rattle.sds_trade.specs.rules.MadeSides.{column_for}
use Rattle.sds_trade.specs.rules.Places.{is_among}
use Rattle.sds_trade.proofs.Lists.{all_head, all_tail, pairs_head, pairs_tail}
use Rattle.sds_nodelaws.proofs.Items.{equal, itself, differs}
use Rattle.sds_doclaws.proofs.Weights.{cost, sum_of}

-- SUMS
pub sum_most : {X : Type 0} (f : X → ℕ) (xs : List X) → All (λ x. f x ≤ 8003) xs → sum_of f xs ≤ 8003 * length xs
sum_most f [] less = omega arith
sum_most f (x ∷ xs) less = omega (arith, all_head (λ y. f y ≤ 8003) x xs less, sum_most f xs (all_tail (λ y. f y ≤ 8003) x xs less))

pub sum_append : {X : Type 0} (f : X → ℕ) (xs ys : List X) → sum_of f (xs ++ ys) ≡ sum_of f xs + sum_of f ys
sum_append f [] ys = sym (none (sum_of f ys))
  where
    none : (n : ℕ) → 0 + n ≡ n
    none n = omega arith
sum_append f (x ∷ xs) ys = on (f x) (sum_of f (xs ++ ys)) (sum_of f xs) (sum_of f ys) (sum_append f xs ys)
  where
    on : (c n a b : ℕ) → n ≡ a + b → c + n ≡ (c + a) + b
    on c n a b same = omega (arith, same)

pub sum_map : {X Y : Type 0} (f : Y → ℕ) (g : X → Y) (xs : List X) → sum_of f (map g xs) ≡ sum_of (λ x. f (g x)) xs
sum_map f g [] = refl
sum_map f g (x ∷ xs) = ap (λ n. f (g x) + n) (sum_map f g xs)

pub sum_none : {X : Type 0} (f : X → ℕ) (xs : List X) → ((x : X) → f x ≡ 0) → sum_of f xs ≡ 0
sum_none f [] none = refl
sum_none f (x ∷ xs) none = on (f x) (sum_of f xs) (none x) (sum_none f xs none)
  where
    on : (a b : ℕ) → a ≡ 0 → b ≡ 0 → a + b ≡ 0
    on a b first second = omega (arith, first, second)

pub filter_few : {X : Type 0} (p : X → Bool) (xs : List X) → length (filter p xs) ≤ length xs
filter_few p [] = omega arith
filter_few p (x ∷ xs) = on (p x) (filter_few p xs)
  where
    on : (b : Bool) → length (filter p xs) ≤ length xs → length (cond b (x ∷ filter p xs) (filter p xs)) ≤ suc (length xs)
    on true less = omega (arith, less)
    on false less = omega (arith, less)

-- NAMES that differ
abbrev pub Distinct : List (List ℕ) → Type 0
Distinct names = AllPairs (λ (a b : List ℕ). bytes_eq a b ≡ false) names

pub other_way : (a b : List ℕ) → bytes_eq a b ≡ false → bytes_eq b a ≡ false
other_way a b isnt = differs b a (λ same. true≢false (sym (itself a) ∙ (ap (λ (t : List ℕ). bytes_eq a t) (sym same) ∙ isnt)))

none_more : (names : List (List ℕ)) (m : List ℕ) (g h : List ℕ → ℕ) → All (λ (n : List ℕ). bytes_eq m n ≡ false) names
    → ((n : List ℕ) → bytes_eq m n ≡ false → h n ≤ g n) → sum_of h names ≤ sum_of g names
none_more [] m g h others less = omega arith
none_more (n ∷ ns) m g h others less =
    omega (arith, less n (all_head (λ (x : List ℕ). bytes_eq m x ≡ false) n ns others), none_more ns m g h (all_tail (λ (x : List ℕ). bytes_eq m x ≡ false) n ns others) less)

-- one name stands at most once among them, so a sum gets its amount at most once
one_more : (names : List (List ℕ)) (m : List ℕ) (a : ℕ) (g h : List ℕ → ℕ) → Distinct names
    → ((n : List ℕ) → bytes_eq m n ≡ true → h n ≤ a + g n) → ((n : List ℕ) → bytes_eq m n ≡ false → h n ≤ g n)
    → sum_of h names ≤ a + sum_of g names
one_more [] m a g h apart here there = omega arith
one_more (n ∷ ns) m a g h apart here there =
    on (bytes_eq m n) refl (one_more ns m a g h (pairs_tail (λ (x y : List ℕ). bytes_eq x y ≡ false) n ns apart) here there)
  where
    on : (b : Bool) → bytes_eq m n ≡ b → sum_of h ns ≤ a + sum_of g ns → h n + sum_of h ns ≤ a + (g n + sum_of g ns)
    on true is rest =
        let others : All (λ (x : List ℕ). bytes_eq m x ≡ false) ns =
        subst (λ (k : List ℕ). All (λ (x : List ℕ). bytes_eq k x ≡ false) ns) (sym (equal m n is)) (pairs_head (λ (x y : List ℕ). bytes_eq x y ≡ false) n ns apart) in
        omega (arith, here n is, none_more ns m g h others there)
    on false is rest = omega (arith, there n is, rest)

-- FIELDS looked up by such names take no more than all fields
abbrev pub pair_cost : List ℕ × Field → ℕ
pair_cost at = cost at.1

pub looked_up : (side : List (List ℕ × Field)) (names : List (List ℕ)) → Distinct names
    → sum_of (λ (n : List ℕ). cost (field_in side n)) names ≤ sum_of pair_cost side + length names
looked_up [] names apart = none names
  where
    none : (ns : List (List ℕ)) → sum_of (λ (n : List ℕ). cost (field_in [] n)) ns ≤ 0 + length ns
    none [] = omega arith
    none (n ∷ ns) = omega (arith, none ns)
looked_up (at ∷ side) names apart =
    more (sum_of (λ (n : List ℕ). cost (field_in (at ∷ side) n)) names) (sum_of (λ (n : List ℕ). cost (field_in side n)) names)
    (one_more names at.0 (cost at.1) (λ (n : List ℕ). cost (field_in side n)) (λ (n : List ℕ). cost (field_in (at ∷ side) n)) apart here there)
    (looked_up side names apart)
  where
    by : (n : List ℕ) → Bool → ℕ
    by n b = cost (option_map_or (λ (one : List ℕ × Field). one.1) (cond b (Some at) (find (λ (one : List ℕ × Field). bytes_eq one.0 n) side)) Null)

    first : (a b : ℕ) → a ≤ a + b
    first a b = omega arith

    same : (a : ℕ) → a ≤ a
    same a = omega arith

    here : (n : List ℕ) → bytes_eq at.0 n ≡ true → by n (bytes_eq at.0 n) ≤ cost at.1 + cost (field_in side n)
    here n is = subst (λ (b : Bool). by n b ≤ cost at.1 + cost (field_in side n)) (sym is) (first (cost at.1) (cost (field_in side n)))

    there : (n : List ℕ) → bytes_eq at.0 n ≡ false → by n (bytes_eq at.0 n) ≤ cost (field_in side n)
    there n is = subst (λ (b : Bool). by n b ≤ cost (field_in side n)) (sym is) (same (cost (field_in side n)))

    more : (a b : ℕ) → a ≤ cost at.1 + b → b ≤ sum_of pair_cost side + length names → a ≤ (cost at.1 + sum_of pair_cost side) + length names
    more a b less rest = omega (arith, less, rest)

-- COLUMNS of a transform by the names of a side: each replaces at most one of them, or comes after
abbrev pub replaced : Option TransformColumn → ℕ
replaced None = 0
replaced (Some column) = 8003

abbrev pub is_other : List (List ℕ) → TransformColumn → Bool
is_other names column = not (is_among names column.target)

pub none_among : (names : List (List ℕ)) (name : List ℕ) → is_among names name ≡ false → All (λ (n : List ℕ). bytes_eq name n ≡ false) names
none_among [] name is = All-nil (λ (n : List ℕ). bytes_eq name n ≡ false)
none_among (n ∷ ns) name is = on (bytes_eq n name) refl is (λ none. none_among ns name none)
  where
    on : (b : Bool) → bytes_eq n name ≡ b → (b || is_among ns name) ≡ false
        → (is_among ns name ≡ false → All (λ (x : List ℕ). bytes_eq name x ≡ false) ns) → All (λ (x : List ℕ). bytes_eq name x ≡ false) (n ∷ ns)
    on true same none rest = absurd (true≢false none)
    on false other none rest = All-cons (λ (x : List ℕ). bytes_eq name x ≡ false) n ns (other_way n name other) (rest none)

pub columns_sum : (columns : List TransformColumn) (names : List (List ℕ)) → Distinct names
    → sum_of (λ (n : List ℕ). replaced (column_for columns n)) names + 8003 * length (filter (is_other names) columns) ≤ 8003 * length columns
columns_sum [] names apart = on (sum_of (λ (n : List ℕ). replaced (column_for [] n)) names) (sum_none (λ (n : List ℕ). replaced (column_for [] n)) names (λ n. refl))
  where
    on : (n : ℕ) → n ≡ 0 → n + 8003 * 0 ≤ 8003 * 0
    on n none = omega (arith, none)
columns_sum (c ∷ cs) names apart = on (is_among names c.target) refl (columns_sum cs names apart)
  where
    before : ℕ
    before = sum_of (λ (n : List ℕ). replaced (column_for cs n)) names

    after : ℕ
    after = sum_of (λ (n : List ℕ). replaced (column_for (c ∷ cs) n)) names

    by : (n : List ℕ) → Bool → ℕ
    by n b = replaced (cond b (Some c) (column_for cs n))

    most : (n : List ℕ) → replaced (Some c) ≤ 8003 + replaced (column_for cs n)
    most n = omega arith

    same : (a : ℕ) → a ≤ a
    same a = omega arith

    here : (n : List ℕ) → bytes_eq c.target n ≡ true → by n (bytes_eq c.target n) ≤ 8003 + replaced (column_for cs n)
    here n is = subst (λ (b : Bool). by n b ≤ 8003 + replaced (column_for cs n)) (sym is) (most n)

    there : (n : List ℕ) → bytes_eq c.target n ≡ false → by n (bytes_eq c.target n) ≤ replaced (column_for cs n)
    there n is = subst (λ (b : Bool). by n b ≤ replaced (column_for cs n)) (sym is) (same (replaced (column_for cs n)))

    on : (b : Bool) → is_among names c.target ≡ b → before + 8003 * length (filter (is_other names) cs) ≤ 8003 * length cs
        → after + 8003 * length (cond (not b) (c ∷ filter (is_other names) cs) (filter (is_other names) cs)) ≤ 8003 * suc (length cs)
    on true is less =
        omega (arith, less, one_more names c.target 8003 (λ (n : List ℕ). replaced (column_for cs n)) (λ (n : List ℕ). replaced (column_for (c ∷ cs) n)) apart here there)
    on false is less =
        omega (arith, less, none_more names c.target (λ (n : List ℕ). replaced (column_for cs n)) (λ (n : List ℕ). replaced (column_for (c ∷ cs) n)) (none_among names c.target is) there)

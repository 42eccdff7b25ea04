-- Rows that refer to a key, looked for table by table.
use Rattle.std.proofs.Common.{◌≡◌, ◌<◌, ◌≤◌, ◌==◌, ◌||◌, ◌&&◌, ◌⊎◌, inl, inr, ℕ, zero, suc, ◌+◌, ◌-◌, Bool, true, false, not, List, [], ◌∷◌, ◌++◌, take, drop, get_or, length, refl, sym, ap, subst, ◌∙◌, arith, true≢false, Option, None, Some, filter, All}
use Rattle.std.specs.Prelude.{nat_lt}
use Rattle.std.specs.List.{filter_map, list_any, zip}
use Rattle.std.specs.List.Sorted.{IsNonDecreasingBy}
use Rattle.std.specs.Ordering.{ordering_then, nat_cmp}
use Rattle.std.specs.declared.cmp.Ordering.{Ordering}
use Rattle.std.specs.declared.cmp.Ordering.TheVariants.{Less, Equal, Greater}
use Rattle.std.proofs.lemmas.Bool.Decides.{nat_tests}
use Rattle.std.proofs.lemmas.List.{append-nil, length-drop, take_all, take-append-drop}
use Rattle.std.proofs.lemmas.List.Elements.{All-head, All-tail, All-weaker, filter-append}
use Rattle.sds_value.specs.declared.kind.Value.{Value}
use Rattle.sds_value.specs.declared.table.ColumnDef.{ColumnDef}
use Rattle.sds_value.specs.declared.table.TableDef.{TableDef}
use Rattle.sds_types.specs.declared.row.Key.{Key}
use Rattle.sds_types.specs.declared.row.TableRow.{TableRow}
use Rattle.sds_trade.specs.rules.Places.{columns_at}
use Rattle.sds_trade.specs.rules.Steps.{without_row}
use Rattle.sds_trade.specs.rules.Tables.{Ascend, is_at, is_null, reference_to, refers_to, same_key}
use Rattle.sds_rows.specs.Searches.{is_reference_to, rows_of_table}
use Rattle.sds_rows.proofs.Judging.{any_refers}
use Rattle.sds_rows.proofs.Labels.{eqb_itself}
use Rattle.sds_rows.proofs.Places.{filter_none}

-- PARTS OF WHAT IS KEPT
first_not : (a b : Bool) → (a || b) ≡ false → a ≡ false
first_not true b is = is
first_not false b is = refl

others_not : (a b : Bool) → (a || b) ≡ false → b ≡ false
others_not true b is = absurd (true≢false is)
others_not false b is = is

module _ {X : Type 0} (q keeps : X → Bool) where
  kept_some : (x : X) (xs : List X) (b : Bool) → keeps x ≡ b → list_any q (filter keeps xs) ≡ true → list_any q (filter keeps (x ∷ xs)) ≡ true
  kept_some x xs true is some = rw is (or_some (q x) some)
    where
      or_some : (a : Bool) {b : Bool} → b ≡ true → (a || b) ≡ true
      or_some true is = refl
      or_some false is = is
  kept_some x xs false is some = rw is some

  kept_none : (x : X) (xs : List X) (b : Bool) → keeps x ≡ b → (keeps x ≡ true → q x ≡ false) → list_any q (filter keeps xs) ≡ false
      → list_any q (filter keeps (x ∷ xs)) ≡ false
  kept_none x xs true is here none = rw is (rw (here is) none)
  kept_none x xs false is here none = rw is none

  none_of : (xs : List X) → list_any q xs ≡ false → list_any q (filter keeps xs) ≡ false
  none_of [] none = refl
  none_of (x ∷ xs) none = kept_none x xs (keeps x) refl (λ kept. first_not (q x) (list_any q xs) none) (none_of xs (others_not (q x) (list_any q xs) none))

  each_not : (xs : List X) → ((x : X) → keeps x ≡ true → q x ≡ false) → list_any q (filter keeps xs) ≡ false
  each_not [] not_one = refl
  each_not (x ∷ xs) not_one = kept_none x xs (keeps x) refl (not_one x) (each_not xs not_one)

  module _ (p : X → Bool) where
    some_on : (x : X) (xs : List X) (b k : Bool) → p x ≡ b → keeps x ≡ k
        → (list_any q (filter keeps (filter p xs)) ≡ true → list_any q (filter keeps xs) ≡ true)
        → list_any q (filter keeps (filter p (x ∷ xs))) ≡ true → list_any q (filter keeps (x ∷ xs)) ≡ true
    some_on x xs false k is kept later some = kept_some x xs k kept (later (rw is at some))
    some_on x xs true false is kept later some = kept_some x xs false kept (later (rw kept at (rw is at some)))
    some_on x xs true true is kept later some = rw kept (either (q x) (list_any q (filter keeps (filter p xs))) (list_any q (filter keeps xs)) later (rw kept at (rw is at some)))
      where
        either : (a b c : Bool) → (b ≡ true → c ≡ true) → (a || b) ≡ true → (a || c) ≡ true
        either true b c later is = refl
        either false b c later is = later is

    pub some_of : (xs : List X) → list_any q (filter keeps (filter p xs)) ≡ true → list_any q (filter keeps xs) ≡ true
    some_of [] some = some
    some_of (x ∷ xs) some = some_on x xs (p x) (keeps x) refl refl (some_of xs) some

    -- none of the first one and the others
    tail_not : (x : X) (xs : List X) (b k : Bool) → p x ≡ b → keeps x ≡ k → list_any q (filter keeps (filter p (x ∷ xs))) ≡ false
        → list_any q (filter keeps (filter p xs)) ≡ false
    tail_not x xs false k is kept none = rw is at none
    tail_not x xs true false is kept none = rw kept at (rw is at none)
    tail_not x xs true true is kept none = others_not (q x) (list_any q (filter keeps (filter p xs))) (rw kept at (rw is at none))

    head_not : (x : X) (xs : List X) → p x ≡ true → keeps x ≡ true → list_any q (filter keeps (filter p (x ∷ xs))) ≡ false → q x ≡ false
    head_not x xs is kept none = first_not (q x) (list_any q (filter keeps (filter p xs))) (rw kept at (rw is at none))

-- A TABLE WITHOUT A COLUMN THAT REFERS
module _ (table : ℕ) (key : Key) where
  abbrev is_one : ℕ × Key → Bool
  is_one reference = reference.0 == table && same_key reference.1 key

  by_parent : (column : ColumnDef) (value : Value) (rest : List (ColumnDef × Value)) (parent : Option ℕ) (null : Bool) → column.parent ≡ parent → is_null value ≡ null
      → is_reference_to table column ≡ false
      → list_any is_one (filter_map (λ (at : ColumnDef × Value). reference_to at.0.parent at.1) rest) ≡ false
      → list_any is_one (filter_map (λ (at : ColumnDef × Value). reference_to at.0.parent at.1) ((column, value) ∷ rest)) ≡ false
  by_parent column value rest None null is isnull none later = rw is later
  by_parent column value rest (Some parent) true is isnull none later = rw is (rw (isnull, list_any) later)
  by_parent column value rest (Some parent) false is isnull none later =
      let other : (parent == table) ≡ false = rw is at none in
      rw is (rw (isnull, list_any) (rw other later))

  none_refer : (columns : List ColumnDef) (values : List Value) → list_any (is_reference_to table) columns ≡ false → any_refers table key columns values ≡ false
  none_refer [] values none = refl
  none_refer (column ∷ columns) [] none = refl
  none_refer (column ∷ columns) (value ∷ values) none =
      by_parent column value (zip columns values) column.parent (is_null value) refl refl
      (first_not (is_reference_to table column) (list_any (is_reference_to table) columns) none)
      (none_refer columns values (others_not (is_reference_to table column) (list_any (is_reference_to table) columns) none))

  module _ (defs : List TableDef) where
    of_child : (child : ℕ) (row : TableRow) → list_any (is_reference_to table) (columns_at defs child) ≡ false → (row.table == child) ≡ true → refers_to defs table key row ≡ false
    of_child child row none is =
        none_refer (columns_at defs row.table) row.row.0 (ap (λ t. list_any (is_reference_to table) (columns_at defs t)) (same_place row.table child is) ∙ none)
      where
        same_place : (a b : ℕ) → (a == b) ≡ true → a ≡ b
        same_place a b is = grind (arith, nat_tests)

    pub no_children : (child : ℕ) (rows : List TableRow) → list_any (is_reference_to table) (columns_at defs child) ≡ false
        → list_any (refers_to defs table key) (without_row defs (rows_of_table child rows) table key) ≡ false
    no_children child rows none =
        none_of (refers_to defs table key) (λ (row : TableRow). not (is_at defs table key row)) (rows_of_table child rows)
        (each_not (refers_to defs table key) (λ (row : TableRow). row.table == child) rows (λ row is. of_child child row none is))

    past : (defs : List TableDef) (place : ℕ) → length defs ≤ place → columns_at defs place ≡ []
    past [] place within = refl
    past (def ∷ defs) zero within = absurd (omega arith)
    past (def ∷ defs) (suc place) within = past defs place (omega arith)

    split : (a b : ℕ) → (a < b) ⊎ (b ≤ a)
    split zero zero = inr (omega arith)
    split zero (suc b) = inl (omega arith)
    split (suc a) zero = inr (omega arith)
    split (suc a) (suc b) = elim (split a b) [
      | inl less ↦ inl (omega arith)
      | inr more ↦ inr (omega arith)
    ]

    -- ALL TABLES
    here_not : (keeps : TableRow → Bool) (row : TableRow) (rows : List TableRow)
        → ((child : ℕ) → child < length defs → list_any (refers_to defs table key) (filter keeps (rows_of_table child (row ∷ rows))) ≡ false)
        → keeps row ≡ true → refers_to defs table key row ≡ false
    here_not keeps row rows none kept = elim (split row.table (length defs)) [
      | inl known ↦ head_not (refers_to defs table key) keeps (λ (other : TableRow). other.table == row.table) row rows (eqb_itself row.table) kept (none row.table known)
      | inr unknown ↦ of_child row.table row (ap (list_any (is_reference_to table)) (past defs row.table unknown)) (eqb_itself row.table)
    ]

    in_none : (keeps : TableRow → Bool) (rows : List TableRow)
        → ((child : ℕ) → child < length defs → list_any (refers_to defs table key) (filter keeps (rows_of_table child rows)) ≡ false)
        → list_any (refers_to defs table key) (filter keeps rows) ≡ false
    in_none keeps [] none = refl
    in_none keeps (row ∷ rows) none =
        kept_none (refers_to defs table key) keeps row rows (keeps row) refl (here_not keeps row rows none)
        (in_none keeps rows (λ child known. tail_not (refers_to defs table key) keeps (λ (other : TableRow). other.table == child) row rows
        (row.table == child) (keeps row) refl refl (none child known)))

    pub no_other : (rows : List TableRow)
        → ((child : ℕ) → child < length defs → list_any (refers_to defs table key) (without_row defs (rows_of_table child rows) table key) ≡ false)
        → list_any (refers_to defs table key) (without_row defs rows table key) ≡ false
    no_other rows none = in_none (λ (row : TableRow). not (is_at defs table key row)) rows none

    pub some_other : (child : ℕ) (rows : List TableRow)
        → list_any (refers_to defs table key) (without_row defs (rows_of_table child rows) table key) ≡ true
        → list_any (refers_to defs table key) (without_row defs rows table key) ≡ true
    some_other child rows some =
        some_of (refers_to defs table key) (λ (row : TableRow). not (is_at defs table key row)) (λ (row : TableRow). row.table == child) rows some

-- THE ROWS OF A TABLE among rows whose tables rise
tables_apart : (i j : ℕ) → i ≤ j → (i ≡ j) ⊎ (i < j)
tables_apart zero zero le = inl refl
tables_apart zero (suc j) le = inr (omega arith)
tables_apart (suc i) zero le = absurd (omega arith)
tables_apart (suc i) (suc j) le = elim (tables_apart i j (omega arith)) [
  | inl same ↦ inl (ap suc same)
  | inr less ↦ inr (omega arith)
]

rises_first : (a b : ℕ) (o p : Ordering) → nat_cmp a b ≡ o → ordering_then o p ≡ Less → a ≤ b
rises_first a b Less p is less = grind (arith, nat_tests, is)
rises_first a b Equal p is less = grind (arith, nat_tests, is)
rises_first a b Greater p is less = absurd (cc)

pub tables_rise : (defs : List TableDef) (rows : List TableRow) → Ascend defs rows → IsNonDecreasingBy (λ (row : TableRow). row.table) rows
tables_rise defs rows are i j d le within = elim (tables_apart i j le) [
  | inl same ↦ subst (λ k. (get_or rows i d).table ≤ (get_or rows k d).table) same (omega arith)
  | inr less ↦ rises_first (get_or rows i d).table (get_or rows j d).table (nat_cmp (get_or rows i d).table (get_or rows j d).table) _ refl (are i j d less within)
]

module _ {X : Type 0} (p low high : X → Bool) where
  part : (count : ℕ) (xs : List X) → ((x : X) → low x ≡ false → high x ≡ true → p x ≡ true) → All (λ x. low x ≡ false) xs
      → All (λ x. high x ≡ true) (take count xs) → filter p (take count xs) ≡ take count xs
  part zero xs both not_low are_high = refl
  part (suc count) [] both not_low are_high = refl
  part (suc count) (x ∷ xs) both not_low are_high =
      rw (both x (All-head (λ y. low y ≡ false) x xs not_low) (All-head (λ y. high y ≡ true) x (take count xs) are_high))
      (ap (λ ys. x ∷ ys) (part count xs both (All-tail (λ y. low y ≡ false) x xs not_low) (All-tail (λ y. high y ≡ true) x (take count xs) are_high)))

  pub middle : (xs : List X) (start count : ℕ) → ((x : X) → low x ≡ true → p x ≡ false) → ((x : X) → low x ≡ false → high x ≡ true → p x ≡ true)
      → ((x : X) → high x ≡ false → p x ≡ false)
      → All (λ x. low x ≡ true) (take start xs) → All (λ x. low x ≡ false) (drop start xs)
      → All (λ x. high x ≡ true) (take count (drop start xs)) → All (λ x. high x ≡ false) (drop count (drop start xs))
      → take count (drop start xs) ≡ filter p xs
  middle xs start count before within after lows not_lows highs not_highs =
      let later = drop start xs in
      sym (ap (filter p) (sym (take-append-drop start xs)) ∙ (filter-append p (take start xs) later
      ∙ (ap (λ ys. ys ++ filter p later) (filter_none p (take start xs) (All-weaker (λ x. low x ≡ true) (λ x. p x ≡ false) before (take start xs) lows))
      ∙ (ap (filter p) (sym (take-append-drop count later)) ∙ (filter-append p (take count later) (drop count later)
      ∙ (ap (λ ys. ys ++ filter p (drop count later)) (part count later within not_lows highs)
      ∙ (ap (λ ys. take count later ++ ys) (filter_none p (drop count later) (All-weaker (λ x. high x ≡ false) (λ x. p x ≡ false) after (drop count later) not_highs))
      ∙ append-nil (take count later))))))))

below_not : (a b : ℕ) → nat_lt a b ≡ true → (a == b) ≡ false
below_not a b is = grind (arith, nat_tests, is)

between_is : (a b : ℕ) → nat_lt a b ≡ false → nat_lt a (b + 1) ≡ true → (a == b) ≡ true
between_is a b low high = grind (arith, nat_tests, low, high)

above_not : (a b : ℕ) → nat_lt a (b + 1) ≡ false → (a == b) ≡ false
above_not a b is = grind (arith, nat_tests, is)

pub table_between : (rows later : List TableRow) (table start count : ℕ) → later ≡ drop start rows
    → All (λ (row : TableRow). nat_lt row.table table ≡ true) (take start rows) → All (λ (row : TableRow). nat_lt row.table table ≡ false) (drop start rows)
    → All (λ (row : TableRow). nat_lt row.table (table + 1) ≡ true) (take count later)
    → All (λ (row : TableRow). nat_lt row.table (table + 1) ≡ false) (drop count later)
    → take count later ≡ rows_of_table table rows
table_between rows later table start count same lows not_lows highs not_highs =
    ap (take count) same
    ∙ middle (λ (row : TableRow). row.table == table) (λ (row : TableRow). nat_lt row.table table) (λ (row : TableRow). nat_lt row.table (table + 1)) rows start count
    (λ row is. below_not row.table table is) (λ row low high. between_is row.table table low high) (λ row is. above_not row.table table is)
    lows not_lows (subst (λ xs. All (λ (row : TableRow). nat_lt row.table (table + 1) ≡ true) (take count xs)) same highs)
    (subst (λ xs. All (λ (row : TableRow). nat_lt row.table (table + 1) ≡ false) (drop count xs)) same not_highs)

pub whole_rest : {X : Type 0} (xs : List X) (start : ℕ) → take (length xs - start) (drop start xs) ≡ drop start xs
whole_rest xs start = take_all (length xs - start) (drop start xs) (omega (arith, length-drop start xs))

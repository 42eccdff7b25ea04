-- After every step that breaks no rule the references hold.
use Rattle.std.proofs.Common.{◌≡◌, ℕ, Bool, true, false, not, cond, ◌&&◌, ◌||◌, ◌==◌, List, [], ◌∷◌, refl, sym, ap, subst, ◌∙◌, true≢false, filter, inl, inr, ◌⊎◌, Ordering, Less, Equal, Greater, is_lt, is_eq, nat_cmp}
use Rattle.std.specs.List.{list_any, list_all}
use Rattle.std.specs.Ordering.{ordering_then, ordering_reverse}
use Rattle.std.proofs.lemmas.Bool.{eqb-true}
use Rattle.std.proofs.lemmas.Cmp.{lists_total, nat_cmp_total, tied_itself}
use Rattle.std.specs.Cmp.{IsTotalOrder, unsigned_tied}
use Rattle.std.specs.Cmp.Lexicographic.{slice_cmp}
use Rattle.sds_value.specs.Values.{value_order}
use Rattle.std.proofs.lemmas.List.Folds.{list_any-append}
use Rattle.sds_value.specs.declared.table.TableDef.{TableDef}
use Rattle.sds_value.proofs.Orders.{value_order_total}
use Rattle.sds_types.specs.declared.row.Key.{Key}
use Rattle.sds_types.specs.declared.row.TableRow.{TableRow}
use Rattle.sds_trade.specs.rules.Steps.{with_row, without_row}
use Rattle.sds_trade.specs.rules.Tables.{finds_parents, has_row, is_at, key_of, key_order, references_of, refers_to, row_order, same_key}
use Rattle.sds_trade.proofs.TableLaws.{row_total}

-- BOOLEANS
pub both_left : (a b : Bool) → (a && b) ≡ true → a ≡ true
both_left true b is = refl
both_left false b is = is

pub both_right : (a b : Bool) → (a && b) ≡ true → b ≡ true
both_right true b is = is
both_right false b is = absurd (true≢false (sym is))

pub both_of : (a b : Bool) → a ≡ true → b ≡ true → (a && b) ≡ true
both_of a b first second = rw (first, second) refl

either : (b : Bool) → (b ≡ true) ⊎ (b ≡ false)
either true = inl refl
either false = inr refl

pub or_right : (a b : Bool) → b ≡ true → (a || b) ≡ true
or_right true b is = refl
or_right false b is = is

pub or_left : (a b : Bool) → a ≡ true → (a || b) ≡ true
or_left true b is = refl
or_left false b is = absurd (true≢false (sym is))

or_none : (a b : Bool) → (a || b) ≡ false → b ≡ false
or_none true b is = absurd (true≢false is)
or_none false b is = is

pub not_false : (b : Bool) → not b ≡ false → b ≡ true
not_false true is = refl
not_false false is = absurd (true≢false is)

-- WITNESSES. A list with an element that passes keeps it through each filter that it passes
record Passing {X : Type 0} (p : X → Bool) (xs : List X) : Type 0 where
  it : X
  holds : p it ≡ true
  kept : (q : X → Bool) → q it ≡ true → list_any p (filter q xs) ≡ true

keeps_head : {X : Type 0} (p : X → Bool) (x : X) (xs : List X) (b : Bool) → b ≡ true → p x ≡ true → list_any p (cond b (x ∷ xs) xs) ≡ true
keeps_head p x xs true is passes = or_left (p x) (list_any p xs) passes
keeps_head p x xs false is passes = absurd (true≢false (sym is))

keeps_tail : {X : Type 0} (p : X → Bool) (x : X) (xs : List X) (b : Bool) → list_any p xs ≡ true → list_any p (cond b (x ∷ xs) xs) ≡ true
keeps_tail p x xs true is = or_right (p x) (list_any p xs) is
keeps_tail p x xs false is = is

passing_on : {X : Type 0} (p : X → Bool) (x : X) (xs : List X) (b : Bool) → p x ≡ b → (b || list_any p xs) ≡ true
    → (list_any p xs ≡ true → Passing p xs) → Passing p (x ∷ xs)
passing_on p x xs true is some rest =
    record { it = x; holds = is; kept = λ q passed. keeps_head p x (filter q xs) (q x) passed is }
passing_on p x xs false is some rest = let later = rest some in
    record { it = later.it; holds = later.holds; kept = λ q passed. keeps_tail p x (filter q xs) (q x) (later.kept q passed) }

passing : {X : Type 0} (p : X → Bool) (xs : List X) → list_any p xs ≡ true → Passing p xs
passing p [] some = absurd (true≢false (sym some))
passing p (x ∷ xs) some = passing_on p x xs (p x) refl some (passing p xs)

-- KEYS. Keys that are one are one with the same keys
key_total : IsTotalOrder (slice_cmp value_order)
key_total = lists_total value_order_total

equal_is : (o : Ordering) → is_eq o ≡ true → o ≡ Equal
equal_is Less is = absurd (true≢false (sym is))
equal_is Equal is = refl
equal_is Greater is = absurd (true≢false (sym is))

then_equal : (a b : Ordering) → ordering_then a b ≡ Equal → (a ≡ Equal) × (b ≡ Equal)
then_equal Less b is = absurd (true≢false (sym (ap is_eq is)))
then_equal Equal b is = (refl, is)
then_equal Greater b is = absurd (true≢false (sym (ap is_eq is)))

eqb_itself : (n : ℕ) → (n == n) ≡ true
eqb_itself n = sym (unsigned_tied n n) ∙ ap is_eq (tied_itself nat_cmp_total n)

cmp_equal : (n m : ℕ) → nat_cmp n m ≡ Equal → n ≡ m
cmp_equal n m is = eqb-true n m (sym (unsigned_tied n m) ∙ ap is_eq is)

-- from a key that is one with two others
same_over : (a b c : Key) → same_key a b ≡ true → same_key a c ≡ true → same_key b c ≡ true
same_over a b c first second =
    ap is_eq (sym (key_total.congr a.0 b.0 c.0 (equal_is (key_order a b) first))) ∙ second

same_turned : (a b : Key) → same_key a b ≡ true → same_key b a ≡ true
same_turned a b is = same_over a b a is (ap is_eq (tied_itself key_total a.0))

-- a row at a key is at each key that is one with it
at_alike : (defs : List TableDef) (table : ℕ) (key other : Key) (row : TableRow) → same_key key other ≡ true
    → is_at defs table key row ≡ true → is_at defs table other row ≡ true
at_alike defs table key other row same is =
    both_of (row.table == table) (same_key (key_of defs table row.row) other)
    (both_left (row.table == table) (same_key (key_of defs table row.row) key) is)
    (same_over key (key_of defs table row.row) other
    (same_turned (key_of defs table row.row) key (both_right (row.table == table) (same_key (key_of defs table row.row) key) is)) same)

any_on : {X : Type 0} (p q : X → Bool) (x : X) (xs : List X) (b : Bool) → p x ≡ b → ((x : X) → p x ≡ true → q x ≡ true)
    → (b || list_any p xs) ≡ true → (list_any p xs ≡ true → list_any q xs ≡ true) → (q x || list_any q xs) ≡ true
any_on p q x xs true is more some rest = or_left (q x) (list_any q xs) (more x is)
any_on p q x xs false is more some rest = or_right (q x) (list_any q xs) (rest some)

any_more : {X : Type 0} (p q : X → Bool) (xs : List X) → ((x : X) → p x ≡ true → q x ≡ true) → list_any p xs ≡ true → list_any q xs ≡ true
any_more p q [] more some = some
any_more p q (x ∷ xs) more some = any_on p q x xs (p x) refl more some (any_more p q xs more)

has_alike : (defs : List TableDef) (rows : List TableRow) (table : ℕ) (key other : Key) → same_key key other ≡ true
    → has_row defs rows table key ≡ true → has_row defs rows table other ≡ true
has_alike defs rows table key other same has =
    any_more (is_at defs table key) (is_at defs table other) rows (λ row is. at_alike defs table key other row same is) has

-- WITH A ROW. A row of a key stands below the new row or above it, or the new row has that key
equal_at : (defs : List TableDef) (table : ℕ) (key : Key) (row new : TableRow) → is_at defs table key row ≡ true
    → row_order defs row new ≡ Equal → is_at defs table key new ≡ true
equal_at defs table key row new is equal =
    let tables : row.table ≡ table = eqb-true row.table table (both_left (row.table == table) (same_key (key_of defs table row.row) key) is) in
    let keys : same_key (key_of defs table row.row) key ≡ true = both_right (row.table == table) (same_key (key_of defs table row.row) key) is in
    let parts = then_equal (nat_cmp row.table new.table) (key_order (key_of defs row.table row.row) (key_of defs new.table new.row)) equal in
    let one : row.table ≡ new.table = cmp_equal row.table new.table parts.0 in
    let new_table : new.table ≡ table = sym one ∙ tables in
    let kept : same_key (key_of defs table row.row) (key_of defs table new.row) ≡ true =
    ap is_eq (sym (ap (λ t. key_order (key_of defs t row.row) (key_of defs table new.row)) tables)
    ∙ (sym (ap (λ t. key_order (key_of defs row.table row.row) (key_of defs t new.row)) new_table) ∙ parts.1)) in
    both_of (new.table == table) (same_key (key_of defs table new.row) key)
    (ap (λ t. t == table) new_table ∙ eqb_itself table)
    (same_over (key_of defs table row.row) (key_of defs table new.row) key kept keys)

by_order : (p : TableRow → Bool) (first last : List TableRow) (new : TableRow) (o r : Ordering) → o ≡ r
    → (o ≡ Less → list_any p first ≡ true) → (o ≡ Greater → list_any p last ≡ true) → (o ≡ Equal → p new ≡ true)
    → (list_any p first || (p new || list_any p last)) ≡ true
by_order p first last new o Less is less greater equal = or_left (list_any p first) (p new || list_any p last) (less is)
by_order p first last new o Greater is less greater equal =
    or_right (list_any p first) (p new || list_any p last) (or_right (p new) (list_any p last) (greater is))
by_order p first last new o Equal is less greater equal =
    or_right (list_any p first) (p new || list_any p last) (or_left (p new) (list_any p last) (equal is))

pub with_row_has : (defs : List TableDef) (rows : List TableRow) (new : TableRow) (table : ℕ) (key : Key)
    → has_row defs rows table key ≡ true → has_row defs (with_row defs rows new) table key ≡ true
with_row_has defs rows new table key has =
    let p = is_at defs table key in
    let below = λ (row : TableRow). is_lt (row_order defs row new) in
    let above = λ (row : TableRow). is_lt (row_order defs new row) in
    let w = passing p rows has in
    list_any-append p (filter below rows) (new ∷ filter above rows) ∙
    by_order p (filter below rows) (filter above rows) new (row_order defs w.it new) (row_order defs w.it new) refl
    (λ less. w.kept below (ap is_lt less))
    (λ greater. w.kept above (ap is_lt ((row_total defs).antisymm new w.it ∙ ap ordering_reverse greater)))
    (λ equal. equal_at defs table key w.it new w.holds equal)

-- A STEP KEEPS a row of each key, but for the old key, and the old key too where another row refers to it
pub record Moved (table : ℕ) (old : Key) (parent : ℕ) (key : Key) : Type 0 where
  tables : parent ≡ table
  keys : same_key key old ≡ true

others_on : (defs : List TableDef) (table : ℕ) (old : Key) (parent : ℕ) (key : Key) (rows : List TableRow)
    → (w : Passing (is_at defs parent key) rows) (b : Bool) → is_at defs table old w.it ≡ b
    → (has_row defs (without_row defs rows table old) parent key ≡ true) ⊎ Moved table old parent key
others_on defs table old parent key rows w false is = inl (w.kept (λ (row : TableRow). not (is_at defs table old row)) (ap not is))
others_on defs table old parent key rows w true is =
    let here : w.it.table ≡ table = eqb-true w.it.table table (both_left (w.it.table == table) (same_key (key_of defs table w.it.row) old) is) in
    let there : w.it.table ≡ parent = eqb-true w.it.table parent (both_left (w.it.table == parent) (same_key (key_of defs parent w.it.row) key) w.holds) in
    let of_old : same_key (key_of defs table w.it.row) old ≡ true = both_right (w.it.table == table) (same_key (key_of defs table w.it.row) old) is in
    let of_key : same_key (key_of defs parent w.it.row) key ≡ true = both_right (w.it.table == parent) (same_key (key_of defs parent w.it.row) key) w.holds in
    let one : parent ≡ table = sym there ∙ here in
    inr (record { tables = one; keys = same_over (key_of defs parent w.it.row) key old of_key (subst (λ t. same_key (key_of defs t w.it.row) old ≡ true) (sym one) of_old) })

pub without_has : (defs : List TableDef) (rows : List TableRow) (table : ℕ) (old : Key) (parent : ℕ) (key : Key)
    → has_row defs rows parent key ≡ true → (has_row defs (without_row defs rows table old) parent key ≡ true) ⊎ Moved table old parent key
without_has defs rows table old parent key has =
    let w = passing (is_at defs parent key) rows has in others_on defs table old parent key rows w (is_at defs table old w.it) refl

-- REFERENCES of a row: each is kept, but where the row refers to the old key
carry_on : {X : Type 0} (q s : X → Bool) (x : X) (xs : List X) → (q x ≡ true) ⊎ (s x ≡ true) → (s x || list_any s xs) ≡ false
    → (list_any s xs ≡ false → list_all q xs ≡ true) → (q x && list_all q xs) ≡ true
carry_on q s x xs (inl holds) none rest = both_of (q x) (list_all q xs) holds (rest (or_none (s x) (list_any s xs) none))
carry_on q s x xs (inr refers) none rest = absurd (true≢false (sym (or_left (s x) (list_any s xs) refers) ∙ none))

carried : {X : Type 0} (p q s : X → Bool) (xs : List X) → ((x : X) → p x ≡ true → (q x ≡ true) ⊎ (s x ≡ true))
    → list_all p xs ≡ true → list_any s xs ≡ false → list_all q xs ≡ true
carried p q s [] more all none = refl
carried p q s (x ∷ xs) more all none =
    carry_on q s x xs (more x (both_left (p x) (list_all p xs) all)) none
    (λ later. carried p q s xs more (both_right (p x) (list_all p xs) all) later)

pub all_more : {X : Type 0} (p q : X → Bool) (xs : List X) → ((x : X) → p x ≡ true → q x ≡ true) → list_all p xs ≡ true → list_all q xs ≡ true
all_more p q [] more all = refl
all_more p q (x ∷ xs) more all = both_of (q x) (list_all q xs) (more x (both_left (p x) (list_all p xs) all))
    (all_more p q xs more (both_right (p x) (list_all p xs) all))

-- what stands where a row of the old key is gone: each row that it had, but for that one
abbrev pub Keeps : List TableDef → List TableRow → List TableRow → ℕ → Key → Type 0
Keeps defs rows after table old = (parent : ℕ) (key : Key) → has_row defs rows parent key ≡ true
    → (has_row defs after parent key ≡ true) ⊎ Moved table old parent key

by_keeps : {A B C : Type 0} → (B → A ⊎ C) → A ⊎ B → A ⊎ C
by_keeps f (inl a) = inl a
by_keeps f (inr b) = f b

pub row_on : (defs : List TableDef) (rows after : List TableRow) (table : ℕ) (old : Key) (row : TableRow) (b : Bool)
    → refers_to defs table old row ≡ b → Keeps defs rows after table old → finds_parents defs rows row.table row.row ≡ true
    → (refers_to defs table old row ≡ true → has_row defs after table old ≡ true) → finds_parents defs after row.table row.row ≡ true
row_on defs rows after table old row false is keeps finds child =
    carried (λ (reference : ℕ × Key). has_row defs rows reference.0 reference.1) (λ (reference : ℕ × Key). has_row defs after reference.0 reference.1)
    (λ (reference : ℕ × Key). reference.0 == table && same_key reference.1 old) (references_of defs row.table row.row)
    (λ reference has. by_keeps (λ moved. inr (both_of (reference.0 == table) (same_key reference.1 old) (ap (λ t. t == table) moved.tables ∙ eqb_itself table) moved.keys))
    (keeps reference.0 reference.1 has)) finds is
row_on defs rows after table old row true is keeps finds child =
    all_more (λ (reference : ℕ × Key). has_row defs rows reference.0 reference.1) (λ (reference : ℕ × Key). has_row defs after reference.0 reference.1)
    (references_of defs row.table row.row)
    (λ reference has. elim (keeps reference.0 reference.1 has) [
      | inl stands ↦ stands
      | inr moved ↦ subst (λ t. has_row defs after t reference.1 ≡ true) (sym moved.tables)
          (has_alike defs after table old reference.1 (same_turned reference.1 old moved.keys) (child is))
    ]) finds

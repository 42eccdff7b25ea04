-- Which keys rows have after one of them is taken out, or one is put in.
use Rattle.std.proofs.Common.{◌≡◌, ℕ, Bool, true, false, not, ◌&&◌, ◌||◌, ◌==◌, List, ◌∷◌, refl, sym, ap, ◌∙◌, filter, Ordering, Less, Equal, Greater, is_eq, is_lt}
use Rattle.std.specs.List.{list_any}
use Rattle.std.specs.Ordering.{ordering_reverse}
use Rattle.std.proofs.lemmas.Bool.{eqb-true}
use Rattle.std.proofs.lemmas.Cmp.{alike_right}
use Rattle.std.proofs.lemmas.List.Folds.{list_any-append}
use Rattle.std.proofs.lemmas.Map.Views.{any-filter_same}
use Rattle.sds_value.specs.declared.table.TableDef.{TableDef}
use Rattle.sds_types.specs.declared.row.Key.{Key}
use Rattle.sds_types.specs.declared.row.TableRow.{TableRow}
use Rattle.sds_trade.specs.rules.Steps.{with_row, without_row}
use Rattle.sds_trade.specs.rules.Tables.{has_row, is_at, key_of, row_order, same_key}
use Rattle.sds_trade.proofs.ReferenceLaws.{both_left, both_right}
use Rattle.sds_rows.specs.Searches.{place_order}
use Rattle.sds_rows.proofs.Labels.{Label, at_is, equal_is, label_of, label_order, label_total, same_one}

-- WITHOUT A ROW
moved_on : (defs : List TableDef) (parent table : ℕ) (key old : Key) (row : TableRow) (b : Bool) → (parent == table) ≡ b
    → key_of defs parent row.row ≡ key
    → (b && same_key (key_of defs table row.row) old) ≡ (b && same_key key old)
moved_on defs parent table key old row true is one =
    ap (λ k. same_key k old) (ap (λ t. key_of defs t row.row) (sym (eqb-true parent table is)) ∙ one)
moved_on defs parent table key old row false is one = refl

at_other : (defs : List TableDef) (parent table : ℕ) (key old : Key) (row : TableRow) → is_at defs parent key row ≡ true
    → is_at defs table old row ≡ (parent == table && same_key key old)
at_other defs parent table key old row is =
    let here : row.table ≡ parent = eqb-true row.table parent (both_left (row.table == parent) (same_key (key_of defs parent row.row) key) is) in
    let one : key_of defs parent row.row ≡ key = same_one (key_of defs parent row.row) key (both_right (row.table == parent) (same_key (key_of defs parent row.row) key) is) in
    ap (λ t. t == table && same_key (key_of defs table row.row) old) here
    ∙ moved_on defs parent table key old row (parent == table) refl one

pub has_without : (defs : List TableDef) (rows : List TableRow) (table : ℕ) (old : Key) (parent : ℕ) (key : Key)
    → has_row defs (without_row defs rows table old) parent key
    ≡ (not (parent == table && same_key key old) && has_row defs rows parent key)
has_without defs rows table old parent key =
    any-filter_same (is_at defs parent key) (λ (row : TableRow). not (is_at defs table old row)) (not (parent == table && same_key key old))
    (λ row is. ap not (at_other defs parent table key old row is)) rows

-- WITH A ROW
by_order : (o : Ordering) (h : Bool) → ((is_lt (ordering_reverse o) && h) || (is_eq o || (is_lt o && h))) ≡ (is_eq o || h)
by_order Less h = refl
by_order Equal h = refl
by_order Greater true = refl
by_order Greater false = refl

equal_place : (defs : List TableDef) (table : ℕ) (key : Key) (row : TableRow) → is_at defs table key row ≡ true
    → label_order (label_of defs row) (table, key.0) ≡ Equal
equal_place defs table key row is = equal_is (place_order defs table key row) (sym (at_is defs table key row) ∙ is)

pub has_with : (defs : List TableDef) (rows : List TableRow) (new : TableRow) (table : ℕ) (key : Key)
    → has_row defs (with_row defs rows new) table key ≡ (is_at defs table key new || has_row defs rows table key)
has_with defs rows new table key =
    let p = is_at defs table key in
    let low = λ (row : TableRow). is_lt (row_order defs row new) in
    let high = λ (row : TableRow). is_lt (row_order defs new row) in
    let target : Label = (table, key.0) in
    let o = label_order (label_of defs new) target in
    let h = has_row defs rows table key in
    let first : list_any p (filter low rows) ≡ (is_lt (ordering_reverse o) && h) =
    any-filter_same p low (is_lt (ordering_reverse o)) (λ row is.
    ap is_lt (label_total.congr (label_of defs row) target (label_of defs new) (equal_place defs table key row is)
    ∙ label_total.antisymm target (label_of defs new))) rows in
    let last : list_any p (filter high rows) ≡ (is_lt o && h) =
    any-filter_same p high (is_lt o) (λ row is.
    ap is_lt (alike_right label_total (label_of defs row) target (label_of defs new) (equal_place defs table key row is))) rows in
    list_any-append p (filter low rows) (new ∷ filter high rows)
    ∙ (ap (λ b. b || (p new || list_any p (filter high rows))) first
    ∙ (ap (λ b. (is_lt (ordering_reverse o) && h) || (p new || b)) last
    ∙ (ap (λ b. (is_lt (ordering_reverse o) && h) || (b || (is_lt o && h))) (at_is defs table key new)
    ∙ (by_order o h ∙ ap (λ b. b || h) (sym (at_is defs table key new))))))

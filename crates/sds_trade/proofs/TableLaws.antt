-- After every step the rows ascend, and rows that ascend have their keys apart.
use Rattle.std.proofs.Common.{◌≡◌, ℕ, Bool, true, false, not, ◌&&◌, ◌==◌, List, ◌∷◌, Option, None, Some, refl, sym, ap, subst, ◌∙◌, true≢false, All, filter, get_or, Ordering, Less, Equal, Greater, is_lt, is_eq, nat_cmp}
use Rattle.std.specs.Ordering.{ordering_then}
use Rattle.std.specs.Cmp.{IsTotalOrder}
use Rattle.std.proofs.lemmas.Bool.{eqb-true}
use Rattle.std.proofs.lemmas.Cmp.{on_total, then_total, nat_cmp_total, lists_total, tied_itself}
use Rattle.std.proofs.lemmas.List.Elements.{All-cons}
use Rattle.std.proofs.lemmas.List.Kept.{AllPairs-cons, AllPairs-filter}
use Rattle.sds_value.specs.declared.table.TableDef.{TableDef}
use Rattle.sds_value.proofs.Orders.{value_order_total}
use Rattle.sds_types.specs.declared.row.Row.{Row}
use Rattle.sds_types.specs.declared.row.RowStep.{RowStep}
use Rattle.sds_types.specs.declared.row.RowStep.TheVariants.{Insert, Update, Delete}
use Rattle.sds_types.specs.declared.row.TableRow.{TableRow}
use Rattle.sds_trade.specs.laws.Tables.{AscendingKeysAreApart, StepsKeepOrder}
use Rattle.sds_trade.specs.rules.Steps.{other_rows, with_new, with_row, new_row, table_of}
use Rattle.sds_trade.specs.rules.Tables.{Ascend, is_at, key_of, key_order, row_order}
use Rattle.sds_trade.proofs.Lists.{passes, pairs_append}

pub less_is : (o : Ordering) → is_lt o ≡ true → o ≡ Less
less_is Less is = refl
less_is Equal is = absurd (true≢false (sym is))
less_is Greater is = absurd (true≢false (sym is))

-- the order of rows is total
pub row_total : (defs : List TableDef) → IsTotalOrder (row_order defs)
row_total defs = then_total (on_total (λ (row : TableRow). row.table) nat_cmp_total)
    (on_total (λ (row : TableRow). (key_of defs row.table row.row).0) (lists_total value_order_total))

-- WITH A ROW. What stands before it is below it, and what stands after is above
pub with_row_ascends : (defs : List TableDef) (rows : List TableRow) (new : TableRow) → Ascend defs rows → Ascend defs (with_row defs rows new)
with_row_ascends defs rows new are =
    let R = λ (a b : TableRow). row_order defs a b ≡ Less in
    let below = λ (row : TableRow). is_lt (row_order defs row new) in
    let above = λ (row : TableRow). is_lt (row_order defs new row) in
    let total = row_total defs in
    let after : All (R new) (filter above rows) =
    λ k d within. less_is (row_order defs new (get_or (filter above rows) k d)) (passes above rows k d within) in
    pairs_append R (filter below rows) (new ∷ filter above rows) (AllPairs-filter R below rows are)
    (AllPairs-cons R new (filter above rows) after (AllPairs-filter R above rows are))
    (λ k d within.
    let x = get_or (filter below rows) k d in
    let first : R x new = less_is (row_order defs x new) (passes below rows k d within) in
    All-cons (R x) new (filter above rows) first
    (λ j e inside. total.trans x new (get_or (filter above rows) j e) first (after j e inside)))

others_ascend : (defs : List TableDef) (rows : List TableRow) (step : RowStep) → Ascend defs rows → Ascend defs (other_rows defs rows step)
others_ascend defs rows (Insert table row) are = are
others_ascend defs rows (Update table key row) are =
    AllPairs-filter (λ (a b : TableRow). row_order defs a b ≡ Less) (λ (row : TableRow). not (is_at defs table key row)) rows are
others_ascend defs rows (Delete table key) are =
    AllPairs-filter (λ (a b : TableRow). row_order defs a b ≡ Less) (λ (row : TableRow). not (is_at defs table key row)) rows are

new_ascends : (defs : List TableDef) (rows : List TableRow) (table : ℕ) (row : Option Row) → Ascend defs rows → Ascend defs (with_new defs rows table row)
new_ascends defs rows table None are = are
new_ascends defs rows table (Some row) are = with_row_ascends defs rows (record { table = table; row = row }) are

pub steps_keep_order : StepsKeepOrder
steps_keep_order defs rows step are =
    new_ascends defs (other_rows defs rows step) (table_of step) (new_row step) (others_ascend defs rows step are)

-- APART. A row below another of its table has another key
below_is_apart : (same : Bool) (tables keys : Ordering) → (same ≡ true → tables ≡ Equal) → ordering_then tables keys ≡ Less → (same && is_eq keys) ≡ false
below_is_apart false tables keys equal less = refl
below_is_apart true tables keys equal less =
    ap is_eq (sym (ap (λ o. ordering_then o keys) (equal refl)) ∙ less)

apart_at : (defs : List TableDef) (a b : TableRow) (same : Bool) → (a.table == b.table) ≡ same → row_order defs a b ≡ Less
    → (same && is_eq (key_order (key_of defs b.table a.row) (key_of defs b.table b.row))) ≡ false
apart_at defs a b false is less = refl
apart_at defs a b true is less =
    let e : a.table ≡ b.table = eqb-true a.table b.table is in
    let moved : ordering_then (nat_cmp b.table b.table) (key_order (key_of defs b.table a.row) (key_of defs b.table b.row)) ≡ Less =
    subst (λ t. ordering_then (nat_cmp t b.table) (key_order (key_of defs t a.row) (key_of defs b.table b.row)) ≡ Less) e less in
    below_is_apart true (nat_cmp b.table b.table) (key_order (key_of defs b.table a.row) (key_of defs b.table b.row))
    (λ _. tied_itself nat_cmp_total b.table) moved

pub ascending_keys_are_apart : AscendingKeysAreApart
ascending_keys_are_apart defs rows are i j d below within =
    apart_at defs (get_or rows i d) (get_or rows j d) ((get_or rows i d).table == (get_or rows j d).table) refl (are i j d below within)

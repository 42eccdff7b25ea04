-- Rows of a sound state have the values of their tables' columns.
use Rattle.std.proofs.Common.{◌≡◌, ℕ, ◌==◌, ◌||◌, Bool, true, false, cond, List, [], ◌∷◌, map, refl, sym, subst, All, filter, get_or}
use Rattle.std.specs.List.{zip}
use Rattle.std.proofs.lemmas.Bool.{eqb-true}
use Rattle.std.proofs.lemmas.List.Elements.{All-cons, All-nil}
use Rattle.sds_value.specs.Values.{fits}
use Rattle.sds_value.specs.declared.kind.Value.{Value}
use Rattle.sds_value.specs.declared.table.ColumnDef.{ColumnDef}
use Rattle.sds_value.specs.declared.table.TableDef.{TableDef}
use Rattle.sds_types.specs.declared.row.Row.{Row}
use Rattle.sds_types.specs.declared.row.TableRow.{TableRow}
use Rattle.sds_trade.proofs.Lists.{all_head, all_tail}
use Rattle.sds_trade.specs.rules.Fitting.{FitColumns, FitsRow}
use Rattle.sds_trade.specs.rules.Places.{columns_at}
use Rattle.sds_trade.specs.rules.Tables.{IsRowOf, is_null}
use Rattle.sds_rows.specs.Stored.{rows_in}

-- a row of a table has values of its columns
held_suits : (null not_null fit : Bool) → elim null [ true ↦ not_null | false ↦ fit ] ≡ true → (null || fit) ≡ true
held_suits true not_null fit is = refl
held_suits false not_null fit is = is

row_fits : (columns : List ColumnDef) (row : Row) → IsRowOf columns row → FitColumns columns row.0
row_fits columns row held = record {
  whole = held.whole;
  each = λ k d within.
      let at : ColumnDef × Value = get_or (zip columns row.0) k d in
      held_suits (is_null at.1) _ (fits at.0.kind at.1) (held.held k d within);
}

-- the rows of the table at a place
abbrev IsHeldRow : List TableDef → TableRow → Type 0
IsHeldRow defs row = IsRowOf (columns_at defs row.table) row.row

pub rows_fit : (defs : List TableDef) (table : ℕ) (rows : List TableRow) → All (λ (row : TableRow). IsRowOf (columns_at defs row.table) row.row) rows
    → All (FitsRow defs table) (rows_in table rows)
rows_fit defs table [] held = All-nil (FitsRow defs table)
rows_fit defs table (row ∷ rows) held =
    on (row.table == table) refl (rows_fit defs table rows (all_tail (IsHeldRow defs) row rows held)) (all_head (IsHeldRow defs) row rows held)
  where
    on : (b : Bool) → (row.table == table) ≡ b → All (FitsRow defs table) (rows_in table rows) → IsHeldRow defs row
        → All (FitsRow defs table) (map (λ (r : TableRow). r.row) (cond b (row ∷ filter (λ (r : TableRow). r.table == table) rows) (filter (λ (r : TableRow). r.table == table) rows)))
    on true same rest is =
        All-cons (FitsRow defs table) row.row (rows_in table rows)
        (subst (λ n. FitsRow defs n row.row) (eqb-true row.table table same) (row_fits (columns_at defs row.table) row.row is)) rest
    on false same rest is = rest

-- and so have rows that are seen through borrows
each_seen : {X Y : Type 0} (P : Y → Type 0) (f : X → Y) (xs : List X) → All P (map f xs) → All (λ x. P (f x)) xs
each_seen P f [] are = All-nil (λ x. P (f x))
each_seen P f (x ∷ xs) are = All-cons (λ x. P (f x)) x xs (all_head P (f x) (map f xs) are) (each_seen P f xs (all_tail P (f x) (map f xs) are))

pub rows_found_fit : {X : Type 0} (defs : List TableDef) (table : ℕ) (rows : List TableRow) (f : X → Row) (found : List X) → map f found ≡ rows_in table rows
    → All (λ (row : TableRow). IsRowOf (columns_at defs row.table) row.row) rows → All (λ x. FitsRow defs table (f x)) found
rows_found_fit defs table rows f found is held =
    each_seen (FitsRow defs table) f found (subst (All (FitsRow defs table)) (sym is) (rows_fit defs table rows held))

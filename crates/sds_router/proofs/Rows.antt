-- Rows that fit their columns, and whom the rows of a table name.
use Rattle.std.proofs.Common.{◌≡◌, ℕ, Bool, true, false, not, ◌&&◌, ◌||◌, ◌==◌, cond, List, [], ◌∷◌, get_or, refl, sym, subst, ap, ◌∙◌, map, None, Some, Option}
use Rattle.std.proofs.lemmas.Bool.{eqb-true}
use Rattle.std.proofs.lemmas.List.Elements.{All-nil, All-cons}
use Rattle.std.specs.Bool.{IsTrue}
use Rattle.std.specs.Borrow.{Bor}
use Rattle.std.specs.List.{All, filter, list_all, list_any, zip}
use Rattle.std.specs.Prelude.{slice_get}
use Rattle.sds_value.specs.declared.kind.Value.{Value}
use Rattle.sds_value.specs.declared.row.Peer.{Peer}
use Rattle.sds_value.specs.declared.table.ColumnDef.{ColumnDef}
use Rattle.sds_value.specs.declared.table.TableDef.{TableDef}
use Rattle.sds_value.specs.Values.{fits}
use Rattle.sds_types.specs.declared.lookup.Lookup.{Lookup}
use Rattle.sds_types.specs.declared.row.Change.{Change}
use Rattle.sds_types.specs.declared.row.Row.{Row}
use Rattle.sds_types.specs.declared.row.TableRow.{TableRow}
use Rattle.sds_types.specs.declared.subselect.Condition.{Condition}
use Rattle.sds_types.specs.declared.subselect.Subselect.{Subselect}
use Rattle.sds_trade.specs.rules.Fitting.{FitColumns, Suits}
use Rattle.sds_trade.specs.rules.Places.{column_place, columns_at, table_place}
use Rattle.sds_trade.specs.rules.RoutedValues.{are_one_text, current_text, is_text, text_at, text_in}
use Rattle.sds_trade.specs.rules.Routers.{chooses, compared_text, finds, is_chosen, is_found, meets, node_text}
use Rattle.sds_trade.specs.rules.Tables.{IsRowOf, is_null}
use Rattle.sds_router.specs.Asks.{has_wanted, row_names}
use Rattle.sds_router.specs.Standing.{AreRowsOf, rows_of}
use Rattle.sds_router.specs.declared.wanted.Wanted.{Wanted}
use Rattle.sds_router.proofs.Lists.{all_head, all_pairs_at, all_seen, all_tail, and_false, any_map, any_none, any_same}

-- FITTING. A value at a place of a row that fits its columns
pub suits_at : (columns : List ColumnDef) (values : List Value) (i : ℕ) (column : ColumnDef) (value : Value) → FitColumns columns values
    → slice_get columns i ≡ Some column → slice_get values i ≡ Some value → IsTrue (is_null value || fits column.kind value)
suits_at columns values i column value fit first second = all_pairs_at Suits columns values fit.each i column value first second

held_suits : (null not_null fit : Bool) → elim null [ true ↦ not not_null | false ↦ fit ] ≡ true → (null || fit) ≡ true
held_suits true not_null fit held = refl
held_suits false not_null fit held = held

pub fits_columns : (columns : List ColumnDef) (row : Row) → IsRowOf columns row → FitColumns columns row.0
fits_columns columns row is = record {
  whole = is.whole;
  each = λ k d within. let at = get_or (zip columns row.0) k d in
      held_suits (is_null at.1) at.0.not_null (fits at.0.kind at.1) (is.held k d within);
}

fit_more : (defs : List TableDef) (table : ℕ) (row : TableRow) (rows : List TableRow) (b : Bool) → (row.table == table) ≡ b → IsRowOf (columns_at defs row.table) row.row
    → All (λ (row : Row). FitColumns (columns_at defs table) row.0) (rows_of table rows)
    → All (λ (row : Row). FitColumns (columns_at defs table) row.0)
    (map (λ (row : TableRow). row.row) (cond b (row ∷ filter (λ (row : TableRow). row.table == table) rows) (filter (λ (row : TableRow). row.table == table) rows)))
fit_more defs table row rows true is held rest =
    All-cons (λ (row : Row). FitColumns (columns_at defs table) row.0) row.row (rows_of table rows)
    (fits_columns (columns_at defs table) row.row (subst (λ (place : ℕ). IsRowOf (columns_at defs place) row.row) (eqb-true row.table table is) held)) rest
fit_more defs table row rows false is held rest = rest

rows_fit : (defs : List TableDef) (table : ℕ) (rows : List TableRow) → AreRowsOf defs rows
    → All (λ (row : Row). FitColumns (columns_at defs table) row.0) (rows_of table rows)
rows_fit defs table [] are = All-nil (λ (row : Row). FitColumns (columns_at defs table) row.0)
rows_fit defs table (row ∷ rows) are = fit_more defs table row rows (row.table == table) refl
    (all_head (λ (row : TableRow). IsRowOf (columns_at defs row.table) row.row) row rows are)
    (rows_fit defs table rows (all_tail (λ (row : TableRow). IsRowOf (columns_at defs row.table) row.row) row rows are))

pub found_fit : (defs : List TableDef) (table : ℕ) (rows : List TableRow) (found : List (Bor Row)) (columns : List ColumnDef) → AreRowsOf defs rows
    → map (λ (row : Bor Row). row.now) found ≡ rows_of table rows → columns ≡ columns_at defs table
    → All (λ (row : Bor Row). FitColumns columns row.now.0) found
found_fit defs table rows found columns are same at =
    all_seen (λ (row : Row). FitColumns columns row.0) (λ (row : Bor Row). row.now) found
    (rw (same, at) (rows_fit defs table rows are))

-- NAMING. A test of a table's rows is one of all rows that are the table's
of_table_more : (test : Row → Bool) (table : ℕ) (row : TableRow) (rows : List TableRow) (b : Bool) (rest : Bool)
    → list_any test (rows_of table rows) ≡ rest
    → list_any test (map (λ (row : TableRow). row.row) (cond b (row ∷ filter (λ (row : TableRow). row.table == table) rows) (filter (λ (row : TableRow). row.table == table) rows)))
    ≡ ((b && test row.row) || rest)
of_table_more test table row rows true rest same = ap (λ b. test row.row || b) same
of_table_more test table row rows false rest same = same

any_of_table : (test : Row → Bool) (table : ℕ) (rows : List TableRow)
    → list_any test (rows_of table rows) ≡ list_any (λ (row : TableRow). row.table == table && test row.row) rows
any_of_table test table [] = refl
any_of_table test table (row ∷ rows) =
    of_table_more test table row rows (row.table == table) (list_any (λ (row : TableRow). row.table == table && test row.row) rows) (any_of_table test table rows)

named_by_place : (columns : List ColumnDef) (wanted : List Wanted) (name text : List ℕ) (column table : ℕ) (rows : List TableRow) (found : List (Bor Row))
    → Some column ≡ column_place columns name → map (λ (row : Bor Row). row.now) found ≡ rows_of table rows
    → list_any (λ (row : Bor Row). list_all (has_wanted columns row.now) wanted && is_text (text_at columns row.now column) text) found
    ≡ list_any (λ (row : TableRow). row.table == table && row_names columns wanted name text row.row) rows
named_by_place columns wanted name text column table rows found at same =
    let test = λ (row : Row). row_names columns wanted name text row in
    let by_place : (row : Row) → (list_all (has_wanted columns row) wanted && is_text (text_at columns row column) text) ≡ test row =
    λ row. rw (← at) refl in
    any_same (λ (row : Bor Row). list_all (has_wanted columns row.now) wanted && is_text (text_at columns row.now column) text)
    (λ (row : Bor Row). test row.now) found (λ row. by_place row.now)
    ∙ (any_map test (λ (row : Bor Row). row.now) found ∙ (ap (list_any test) same ∙ any_of_table test table rows))

pub named_rows : (columns given : List ColumnDef) (wanted : List Wanted) (name text : List ℕ) (column table : ℕ) (rows : List TableRow) (found seen : List (Bor Row))
    → given ≡ columns → Some column ≡ column_place given name → seen ≡ found → map (λ (row : Bor Row). row.now) found ≡ rows_of table rows
    → list_any (λ (row : Bor Row). list_all (has_wanted given row.now) wanted && is_text (text_at given row.now column) text) seen
    ≡ list_any (λ (row : TableRow). row.table == table && row_names columns wanted name text row.row) rows
named_rows columns given wanted name text column table rows found seen is at shown same =
    rw (← is, shown) (named_by_place given wanted name text column table rows found at same)

pub no_column : (columns given : List ColumnDef) (wanted : List Wanted) (name text : List ℕ) (table : ℕ) (rows : List TableRow)
    → given ≡ columns → None ≡ column_place given name
    → false ≡ list_any (λ (row : TableRow). row.table == table && row_names columns wanted name text row.row) rows
no_column columns given wanted name text table rows is at =
    let nowhere : None ≡ column_place columns name = subst (λ (cs : List ColumnDef). None ≡ column_place cs name) is at in
    sym (any_none (λ (row : TableRow). row.table == table && row_names columns wanted name text row.row) rows (λ row.
    let none : row_names columns wanted name text row.row ≡ false = rw (← nowhere) (and_false (list_all (has_wanted columns row.row) wanted)) in
    rw none (and_false (row.table == table))))

both_true : (b : Bool) → (b && true) ≡ b
both_true true = refl
both_true false = refl

-- LOOKUPS
pub looked_up : (defs : List TableDef) (rows : List TableRow) (change : Change) (peer : Peer) (lookup : Lookup) (table : ℕ) (key : Wanted)
    (wanted : List Wanted) (given : List ColumnDef) (text : Option (List ℕ))
    → Some table ≡ table_place defs lookup.table → given ≡ columns_at defs table
    → text ≡ current_text defs change lookup.column → wanted ≡ key ∷ []
    → ((row : Row) → has_wanted given row key ≡ are_one_text (text_in given lookup.lookup_column row) text)
    → list_any (λ (row : TableRow). row.table == table && row_names (columns_at defs table) wanted lookup.external_id peer.external row.row) rows
    ≡ finds defs rows change peer lookup
looked_up defs rows change peer lookup table key wanted given text at is told listed same =
    let key_is : (row : Row) → has_wanted (columns_at defs table) row key
    ≡ are_one_text (text_in (columns_at defs table) lookup.lookup_column row) (current_text defs change lookup.column) =
    λ row. rw (← is, ← told) (same row) in
    rw (← at, listed)
    (any_same (λ (row : TableRow). row.table == table && row_names (columns_at defs table) (key ∷ []) lookup.external_id peer.external row.row)
    (is_found defs change peer lookup table) rows
    (λ row. rw (both_true (has_wanted (columns_at defs table) row.row key), key_is row.row) refl))

pub nothing_found : (defs : List TableDef) (rows : List TableRow) (change : Change) (peer : Peer) (lookup : Lookup) (table : ℕ)
    (given : List ColumnDef) (text : Option (List ℕ))
    → Some table ≡ table_place defs lookup.table → given ≡ columns_at defs table
    → text ≡ current_text defs change lookup.column
    → ((row : Row) → false ≡ are_one_text (text_in given lookup.lookup_column row) text)
    → false ≡ finds defs rows change peer lookup
nothing_found defs rows change peer lookup table given text at is told none =
    let nowhere : (row : Row) → false ≡ are_one_text (text_in (columns_at defs table) lookup.lookup_column row) (current_text defs change lookup.column) =
    λ row. rw (← is, ← told) (none row) in
    rw (← at) (sym
    (any_none (is_found defs change peer lookup table) rows (λ row. rw (← nowhere row.row) (and_false (row.table == table)))))

-- CHOICES
same_test : (b x y z : Bool) → (b ≡ true → x ≡ y) → (b && (x && z)) ≡ (b && (y && z))
same_test true x y z same = ap (λ a. a && z) (same refl)
same_test false x y z same = refl

pub chosen : (defs : List TableDef) (rows : List TableRow) (change : Change) (peer : Peer) (choice : Subselect) (table : ℕ)
    (wanted seen : List Wanted) (text : List ℕ) (given : List ColumnDef)
    → Some table ≡ table_place defs choice.table → given ≡ columns_at defs table → text ≡ node_text peer choice.by → seen ≡ wanted
    → ((row : TableRow) → columns_at defs row.table ≡ given
    → list_all (has_wanted given row.row) wanted ≡ list_all (meets defs change row) choice.conditions)
    → list_any (λ (row : TableRow). row.table == table && row_names (columns_at defs table) seen choice.column text row.row) rows
    ≡ chooses defs rows change peer choice
chosen defs rows change peer choice table wanted seen text given at is by shown same =
    let all_are : (row : TableRow) → columns_at defs row.table ≡ columns_at defs table
    → list_all (has_wanted (columns_at defs table) row.row) wanted ≡ list_all (meets defs change row) choice.conditions =
    subst (λ (cs : List ColumnDef). (row : TableRow) → columns_at defs row.table ≡ cs
    → list_all (has_wanted cs row.row) wanted ≡ list_all (meets defs change row) choice.conditions) is same in
    rw (← at, by, shown)
    (any_same (λ (row : TableRow). row.table == table && row_names (columns_at defs table) wanted choice.column (node_text peer choice.by) row.row)
    (is_chosen defs change peer choice table) rows (λ row.
    same_test (row.table == table) (list_all (has_wanted (columns_at defs table) row.row) wanted) (list_all (meets defs change row) choice.conditions)
    (is_text (text_in (columns_at defs table) choice.column row.row) (node_text peer choice.by))
    (λ is. all_are row (ap (columns_at defs) (eqb-true row.table table is)))))

no_test : (b x z : Bool) → (b ≡ true → false ≡ x) → (b && (x && z)) ≡ false
no_test true x z none = rw (← none refl) refl
no_test false x z none = refl

pub nothing_chosen : (defs : List TableDef) (rows : List TableRow) (change : Change) (peer : Peer) (choice : Subselect) (table : ℕ) (given : List ColumnDef)
    → Some table ≡ table_place defs choice.table → given ≡ columns_at defs table
    → ((row : TableRow) → columns_at defs row.table ≡ given → false ≡ list_all (meets defs change row) choice.conditions)
    → false ≡ chooses defs rows change peer choice
nothing_chosen defs rows change peer choice table given at is none = rw (← at) (sym
    (any_none (is_chosen defs change peer choice table) rows (λ row.
    no_test (row.table == table) (list_all (meets defs change row) choice.conditions)
    (is_text (text_in (columns_at defs table) choice.column row.row) (node_text peer choice.by))
    (λ same. none row (ap (columns_at defs) (eqb-true row.table table same) ∙ sym is)))))

pub meets_by : (defs : List TableDef) (change : Change) (row : TableRow) (condition : Condition) (columns : List ColumnDef) (text : Option (List ℕ)) (b : Bool)
    → columns_at defs row.table ≡ columns → text ≡ compared_text defs change condition.value
    → b ≡ are_one_text (text_in columns condition.column row.row) text → b ≡ meets defs change row condition
meets_by defs change row condition columns text b at is same =
    same ∙ (ap (λ (cs : List ColumnDef). are_one_text (text_in cs condition.column row.row) text) (sym at)
    ∙ ap (λ (t : Option (List ℕ)). are_one_text (text_in (columns_at defs row.table) condition.column row.row) t) is)

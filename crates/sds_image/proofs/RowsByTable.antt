-- Rows that ascend are those of each table, one table after another.
use Rattle.std.proofs.Common.{◌≡◌, ℕ, ◌+◌, ◌<◌, ◌≤◌, ◌==◌, Bool, true, false, cond, List, [], ◌∷◌, ◌++◌, length, map, refl, sym, ap, ◌∙◌, arith, true≢false, All, Ordering, filter, nat_cmp}
use Rattle.std.specs.Prelude.{nat_lt}
use Rattle.std.specs.Cmp.{nat_cmp_is}
use Rattle.std.specs.Ordering.{is_lt, ordering_then}
use Rattle.std.specs.declared.cmp.Ordering.TheVariants.{Less, Greater}
use Rattle.std.proofs.lemmas.Bool.{eqb-true}
use Rattle.std.proofs.lemmas.Bool.Decides.{nat_tests}
use Rattle.std.proofs.lemmas.List.{append_assoc, append-nil, map-append}
use Rattle.sds_outside.specs.Records as outside
use Rattle.sds_value.specs.declared.table.TableDef.{TableDef}
use Rattle.sds_types.specs.declared.config.Config.{Config}
use Rattle.sds_types.specs.declared.row.Row.{Row}
use Rattle.sds_types.specs.declared.row.TableRow.{TableRow}
use Rattle.sds_trade.proofs.Lists.{all_head, all_tail, pairs_head, pairs_tail}
use Rattle.sds_trade.specs.rules.Tables.{Ascend, row_order}
use Rattle.sds_history.specs.history.RowRecords.{row_record}
use Rattle.sds_records.specs.Parts.{table_row}
use Rattle.sds_rows.specs.Stored.{rows_in}
use Rattle.sds_image.specs.Pairs.{pairs}

-- the rows of the tables before a place, and those of the table at it
abbrev pub rows_below : ℕ → List TableRow → List TableRow
rows_below table rows = filter (λ (row : TableRow). nat_lt row.table table) rows

abbrev pub rows_at : ℕ → List TableRow → List TableRow
rows_at table rows = filter (λ (row : TableRow). row.table == table) rows

pub none_below : (rows : List TableRow) → rows_below 0 rows ≡ []
none_below [] = refl
none_below (row ∷ rows) = ap (λ b. cond b (row ∷ rows_below 0 rows) (rows_below 0 rows)) (never row.table) ∙ none_below rows
  where
    never : (n : ℕ) → nat_lt n 0 ≡ false
    never n = grind (arith, nat_tests)

pub all_below : (table : ℕ) (rows : List TableRow) → All (λ (row : TableRow). row.table < table) rows → rows_below table rows ≡ rows
all_below table [] known = refl
all_below table (row ∷ rows) known =
    ap (λ b. cond b (row ∷ rows_below table rows) (rows_below table rows)) (less row.table table (all_head (λ (r : TableRow). r.table < table) row rows known))
    ∙ ap (λ rest. row ∷ rest) (all_below table rows (all_tail (λ (r : TableRow). r.table < table) row rows known))
  where
    less : (m n : ℕ) → m < n → nat_lt m n ≡ true
    less m n is = grind (arith, nat_tests, is)

-- a row before another is of a table at most as far
not_after : (a b : ℕ) (o : Ordering) → ordering_then (nat_cmp a b) o ≡ Less → a ≤ b
not_after a b o is = on (nat_lt b a) refl
  where
    later : nat_lt b a ≡ true → b < a
    later test = grind (arith, nat_tests, test)

    on : (t : Bool) → nat_lt b a ≡ t → a ≤ b
    on true test = absurd (true≢false (ap is_lt (sym is ∙ ap (λ c. ordering_then c o) (sym (nat_cmp_is a b Greater (later test))))))
    on false test = grind (arith, nat_tests, test)

abbrev IsFrom : ℕ → TableRow → Type 0
IsFrom table row = table ≤ row.table

later_rows : (defs : List TableDef) (row : TableRow) (rows : List TableRow) → Ascend defs (row ∷ rows) → All (IsFrom row.table) rows
later_rows defs row rows up k d within =
    not_after row.table _ _ (pairs_head (λ (a b : TableRow). row_order defs a b ≡ Less) row rows up k d within)

none_from : (table : ℕ) (rows : List TableRow) → All (IsFrom table) rows → rows_below table rows ≡ []
none_from table [] from = refl
none_from table (row ∷ rows) from =
    ap (λ b. cond b (row ∷ rows_below table rows) (rows_below table rows)) (not_less row.table table (all_head (IsFrom table) row rows from))
    ∙ none_from table rows (all_tail (IsFrom table) row rows from)
  where
    not_less : (m n : ℕ) → n ≤ m → nat_lt m n ≡ false
    not_less m n is = grind (arith, nat_tests, is)

-- the rows up to a table are those before it and its own
next_table : (defs : List TableDef) (table : ℕ) (rows : List TableRow) → Ascend defs rows → rows_below (table + 1) rows ≡ rows_below table rows ++ rows_at table rows
next_table defs table [] up = refl
next_table defs table (row ∷ rows) up =
    by (nat_lt row.table table) (row.table == table) refl refl (next_table defs table rows (pairs_tail (λ (a b : TableRow). row_order defs a b ≡ Less) row rows up))
    (later_rows defs row rows up)
  where
    first : Bool → List TableRow
    first next = cond next (row ∷ rows_below (table + 1) rows) (rows_below (table + 1) rows)

    next_less : (m n : ℕ) → nat_lt m n ≡ true → nat_lt m (n + 1) ≡ true
    next_less m n is = grind (arith, nat_tests, is)

    next_same : (m n : ℕ) → m ≡ n → nat_lt m (n + 1) ≡ true
    next_same m n is = grind (arith, nat_tests, is)

    never_both : (m n : ℕ) → nat_lt m n ≡ true → (m == n) ≡ true → false ≡ true
    never_both m n less same = absurd (let is = eqb-true m n same in let low : m < n = grind (arith, nat_tests, less) in omega (arith, low, is))

    neither : (m n : ℕ) → nat_lt m n ≡ false → (m == n) ≡ false → nat_lt m (n + 1) ≡ false
    neither m n less same = grind (arith, nat_tests, less, same)

    by : (less same : Bool) → nat_lt row.table table ≡ less → (row.table == table) ≡ same
        → rows_below (table + 1) rows ≡ rows_below table rows ++ rows_at table rows → All (IsFrom row.table) rows
        → first (nat_lt row.table (table + 1)) ≡ cond less (row ∷ rows_below table rows) (rows_below table rows) ++ cond same (row ∷ rows_at table rows) (rows_at table rows)
    by true true less same rest from = absurd (true≢false (sym (never_both row.table table less same)))
    by true false less same rest from = ap first (next_less row.table table less) ∙ ap (λ xs. row ∷ xs) rest
    by false true less same rest from =
        let at : row.table ≡ table = eqb-true row.table table same in
        let none : rows_below table rows ≡ [] = ap (λ n. rows_below n rows) (sym at) ∙ none_from row.table rows from in
        ap first (next_same row.table table at)
        ∙ (ap (λ xs. row ∷ xs) (rest ∙ ap (λ xs. xs ++ rows_at table rows) none)
        ∙ sym (ap (λ xs. xs ++ row ∷ rows_at table rows) none))
    by false false less same rest from = ap first (neither row.table table less same) ∙ rest

-- RECORDS of the rows of one table, and of those up to it
at_table : (config : Config) (table : ℕ) (rows : List TableRow)
    → map (λ (row : Row). row_record config (table_row table row)) (rows_in table rows) ≡ map (row_record config) (rows_at table rows)
at_table config table [] = refl
at_table config table (row ∷ rows) = on (row.table == table) refl (at_table config table rows)
  where
    on : (b : Bool) → (row.table == table) ≡ b
        → map (λ (row : Row). row_record config (table_row table row)) (rows_in table rows) ≡ map (row_record config) (rows_at table rows)
        → map (λ (row : Row). row_record config (table_row table row)) (map (λ (r : TableRow). r.row) (cond b (row ∷ rows_at table rows) (rows_at table rows)))
        ≡ map (row_record config) (cond b (row ∷ rows_at table rows) (rows_at table rows))
    on true same rest =
        ap (λ n. row_record config (table_row n row.row) ∷ map (λ (row : Row). row_record config (table_row table row)) (rows_in table rows)) (sym (eqb-true row.table table same))
        ∙ ap (λ xs. row_record config row ∷ xs) rest
    on false same rest = rest

pub table_added : (config : Config) (table : ℕ) (rows : List TableRow) → Ascend config.tables rows
    → pairs (map (row_record config) (rows_below (table + 1) rows))
    ≡ pairs (map (row_record config) (rows_below table rows)) ++ pairs (map (λ (row : Row). row_record config (table_row table row)) (rows_in table rows))
table_added config table rows up =
    ap (λ xs. pairs (map (row_record config) xs)) (next_table config.tables table rows up)
    ∙ (ap pairs (map-append (row_record config) (rows_below table rows) (rows_at table rows))
    ∙ (map-append _ (map (row_record config) (rows_below table rows)) (map (row_record config) (rows_at table rows))
    ∙ ap (λ xs. pairs (map (row_record config) (rows_below table rows)) ++ pairs xs) (sym (at_table config table rows))))

-- PUSHED table after table
pub none_pushed : (config : Config) (rows : List TableRow) (start : List outside.Record) → start ≡ start ++ pairs (map (row_record config) (rows_below 0 rows))
none_pushed config rows start =
    sym (ap (λ xs. start ++ pairs (map (row_record config) xs)) (none_below rows) ∙ append-nil start)

pub rows_pushed : (config : Config) (table : ℕ) (rows : List TableRow) (start before after : List outside.Record) (found : List Row) → Ascend config.tables rows
    → found ≡ rows_in table rows
    → before ≡ start ++ pairs (map (row_record config) (rows_below table rows))
    → after ≡ before ++ pairs (map (λ (row : Row). row_record config (table_row table row)) found)
    → after ≡ start ++ pairs (map (row_record config) (rows_below (table + 1) rows))
rows_pushed config table rows start before after found up are is also =
    also
    ∙ (ap (λ xs. before ++ pairs (map (λ (row : Row). row_record config (table_row table row)) xs)) are
    ∙ (ap (λ xs. xs ++ pairs (map (λ (row : Row). row_record config (table_row table row)) (rows_in table rows))) is
    ∙ (append_assoc start (pairs (map (row_record config) (rows_below table rows))) (pairs (map (λ (row : Row). row_record config (table_row table row)) (rows_in table rows)))
    ∙ ap (λ xs. start ++ xs) (sym (table_added config table rows up)))))

pub all_pushed : (config : Config) (table : ℕ) (rows : List TableRow) (start all : List outside.Record) → table ≡ length config.tables
    → All (λ (row : TableRow). row.table < length config.tables) rows
    → all ≡ start ++ pairs (map (row_record config) (rows_below table rows)) → all ≡ start ++ pairs (map (row_record config) rows)
all_pushed config table rows start all end known is =
    is ∙ ap (λ xs. start ++ pairs (map (row_record config) xs)) (ap (λ n. rows_below n rows) end ∙ all_below (length config.tables) rows known)

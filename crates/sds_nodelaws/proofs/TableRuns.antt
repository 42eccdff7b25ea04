-- A run of rows whose steps fit leaves a node's tables, and each step that it made has the rows that its event has.
use Rattle.std.proofs.Common.{◌≡◌, ℕ, suc, ◌+◌, ◌<◌, ◌≤◌, ◌==◌, Bool, true, false, cond, List, [], ◌∷◌, length, Option, None, Some, refl, sym, ap, subst, ◌∙◌, arith, true≢false, filter, find, not, ◌||◌, ◌&&◌, All, get_or, is_lt}
use Rattle.std.specs.List.{list_any, zip}
use Rattle.std.specs.Ordering.{ordering_reverse}
use Rattle.std.specs.Prelude.{IfSome, is_some, option_map}
use Rattle.std.proofs.lemmas.List.{length-append}
use Rattle.std.proofs.lemmas.List.Elements.{All-nil, All-cons, All-append}
use Rattle.sds_value.specs.declared.table.ColumnDef.{ColumnDef}
use Rattle.sds_value.specs.declared.table.TableDef.{TableDef}
use Rattle.sds_value.specs.declared.kind.Value.{Value}
use Rattle.sds_value.specs.Values.{fits}
use Rattle.sds_types.specs.Limits.{most_rows}
use Rattle.sds_types.specs.declared.conflict.Resolution.{Resolution}
use Rattle.sds_types.specs.declared.conflict.Resolution.TheVariants.{Apply, SkipRow, SkipBatch, Broken}
use Rattle.sds_types.specs.declared.row.Key.{Key}
use Rattle.sds_types.specs.declared.row.Row.{Row}
use Rattle.sds_types.specs.declared.row.RowStep.{RowStep}
use Rattle.sds_types.specs.declared.row.RowStep.TheVariants.{Insert, Update, Delete}
use Rattle.sds_types.specs.declared.row.TableRow.{TableRow}
use Rattle.sds_types.specs.declared.rule.Rule.{Rule}
use Rattle.sds_trade.proofs.Lists.{all_head, all_tail, none_found}
use Rattle.sds_trade.proofs.ReferenceLaws.{not_false}
use Rattle.sds_trade.proofs.StepsKeep.{steps_keep_references}
use Rattle.sds_trade.proofs.TableLaws.{less_is, row_total, steps_keep_order}
use Rattle.sds_trade.specs.rules.Captured.{Done}
use Rattle.sds_trade.specs.rules.Fitting.{FitsRow}
use Rattle.sds_trade.specs.rules.Places.{columns_at}
use Rattle.sds_trade.specs.rules.Runs.{RunEnd, by_broken, by_step_rules, done_of, run, with_done}
use Rattle.sds_trade.specs.rules.Runs.RunEnd.{Made, Ignored, Refused}
use Rattle.sds_trade.specs.rules.StepRules.{broken_rule, has_null, step_breaks, step_rules}
use Rattle.sds_trade.specs.rules.Steps.{event_of, new_row, rows_after, table_of, with_row, without_row}
use Rattle.sds_trade.specs.rules.Tables.{AreTables, IsRowOf, has_row, is_at, is_null, row_at, row_order, same_key, key_of}
use Rattle.sds_history.specs.history.SoundParts.{has_old}
use Rattle.sds_nodelaws.proofs.KeyedLists.{two_filters}
use Rattle.sds_nodelaws.proofs.Lists.{and_left, filter_all, find_all, find_passes, from_not_le}
use Rattle.sds_nodelaws.proofs.Tests.{same_number}

-- A STEP on a table that is there, whose new row fits the table
pub record StepFits (defs : List TableDef) (step : RowStep) : Type 0 where
  pub there : table_of step < length defs
  pub row : IfSome (new_row step) (FitsRow defs (table_of step))

-- a new row holds in each column what the column may hold
holds : (null not_null fit : Bool) → (null || fit) ≡ true → (not_null && null) ≡ false → elim null [ true ↦ not not_null | false ↦ fit ] ≡ true
holds true true fit suits none = absurd (true≢false none)
holds true false fit suits none = refl
holds false not_null fit suits none = suits

pub each_fails : {X : Type 0} (p : X → Bool) (xs : List X) → list_any p xs ≡ false → All (λ x. p x ≡ false) xs
each_fails p [] none = All-nil (λ x. p x ≡ false)
each_fails p (x ∷ xs) none = each_on (p x) refl none (each_fails p xs)
  where
    each_on : (b : Bool) → p x ≡ b → (b || list_any p xs) ≡ false → (list_any p xs ≡ false → All (λ y. p y ≡ false) xs) → All (λ y. p y ≡ false) (x ∷ xs)
    each_on true is none rest = absurd (true≢false none)
    each_on false is none rest = All-cons (λ y. p y ≡ false) x xs is (rest none)

pub new_held : (defs : List TableDef) (table : ℕ) (row : Row) → FitsRow defs table row → has_null (columns_at defs table) row ≡ false
    → IsRowOf (columns_at defs table) row
new_held defs table row fit none =
    let columns = columns_at defs table in
    let fails = each_fails (λ (at : ColumnDef × Value). at.0.not_null && is_null at.1) (zip columns row.0) none in
    record {
      whole = fit.whole;
      held = λ k d within.
          let at = get_or (zip columns row.0) k d in
          holds (is_null at.1) at.0.not_null (fits at.0.kind at.1) (fit.each k d within) (fails k d within);
    }

pub all_with : (P : TableRow → Type 0) (defs : List TableDef) (rows : List TableRow) (new : TableRow) → All P rows → P new → All P (with_row defs rows new)
all_with P defs rows new are is =
    let low = λ (row : TableRow). is_lt (row_order defs row new) in
    let high = λ (row : TableRow). is_lt (row_order defs new row) in
    All-append P (filter low rows) (new ∷ filter high rows) (filter_all P low rows are)
    (All-cons P new (filter high rows) is (filter_all P high rows are))

-- HOW MANY ROWS stand after a step
pub with_row_length : (defs : List TableDef) (rows : List TableRow) (new : TableRow) → length (with_row defs rows new) ≤ length rows + 1
with_row_length defs rows new =
    let low = λ (row : TableRow). is_lt (row_order defs row new) in
    let high = λ (row : TableRow). is_lt (row_order defs new row) in
    one_more (length (filter low rows)) (length (filter high rows)) (length rows) (length (with_row defs rows new))
    (length-append (filter low rows) (new ∷ filter high rows))
    (two_filters low high rows (λ row is. ap is_lt ((row_total defs).antisymm new row ∙ ap ordering_reverse (less_is (row_order defs row new) is))))
  where
    one_more : (a b n all : ℕ) → all ≡ a + suc b → a + b ≤ n → all ≤ n + 1
    one_more a b n all is less = omega (arith, is, less)

filter_length : {X : Type 0} (p : X → Bool) (xs : List X) → length (filter p xs) ≤ length xs
filter_length p [] = omega arith
filter_length p (x ∷ xs) = on (p x) (filter_length p xs)
  where
    on : (b : Bool) → length (filter p xs) ≤ length xs → length (cond b (x ∷ filter p xs) (filter p xs)) ≤ suc (length xs)
    on true rest = omega (arith, rest)
    on false rest = omega (arith, rest)

one_dropped : {X : Type 0} (p : X → Bool) (xs : List X) → list_any p xs ≡ true → length (filter (λ x. not (p x)) xs) + 1 ≤ length xs
one_dropped p [] is = absurd (true≢false (sym is))
one_dropped p (x ∷ xs) is = on (p x) refl (one_dropped p xs) (filter_length (λ y. not (p y)) xs) is
  where
    on : (b : Bool) → p x ≡ b → (list_any p xs ≡ true → length (filter (λ y. not (p y)) xs) + 1 ≤ length xs) → length (filter (λ y. not (p y)) xs) ≤ length xs
        → (b || list_any p xs) ≡ true → length (cond (not b) (x ∷ filter (λ y. not (p y)) xs) (filter (λ y. not (p y)) xs)) + 1 ≤ suc (length xs)
    on true here rest most any = omega (arith, most)
    on false here rest most any = let more = rest any in omega (arith, more)

few_after : (defs : List TableDef) (rows : List TableRow) (step : RowStep) → length rows ≤ most_rows → broken_rule defs rows step ≡ None
    → length (rows_after defs rows step) ≤ most_rows
few_after defs rows (Insert table row) few none =
    let fails = none_found (step_breaks defs rows (Insert table row)) step_rules none in
    room (length rows) _ (from_not_le most_rows (length rows) fails.1.1.1.1.1.0) (with_row_length defs rows (record { table = table; row = row }))
  where
    room : (n m : ℕ) → n < most_rows → m ≤ n + 1 → m ≤ most_rows
    room n m less more = omega (arith, less, more)
few_after defs rows (Update table key row) few none =
    let fails = none_found (step_breaks defs rows (Update table key row)) step_rules none in
    room (length rows) (length (without_row defs rows table key)) _ few
    (one_dropped (is_at defs table key) rows (not_false (has_row defs rows table key) fails.1.1.0))
    (with_row_length defs (without_row defs rows table key) (record { table = table; row = row }))
  where
    room : (n less m : ℕ) → n ≤ most_rows → less + 1 ≤ n → m ≤ less + 1 → m ≤ most_rows
    room n less m few one more = omega (arith, few, one, more)
few_after defs rows (Delete table key) few none = at_most (filter_length (λ (row : TableRow). not (is_at defs table key row)) rows) few
  where
    at_most : {a b c : ℕ} → a ≤ b → b ≤ c → a ≤ c
    at_most {a} {b} {c} first second = omega (arith, first, second)

-- THE TABLES after it
module _ (defs : List TableDef) where
  abbrev there : TableRow → Type 0
  there row = row.table < length defs

  abbrev held : TableRow → Type 0
  held row = IsRowOf (columns_at defs row.table) row.row

  tables_after : (rows : List TableRow) (step : RowStep) → AreTables defs rows → StepFits defs step → broken_rule defs rows step ≡ None
      → AreTables defs (rows_after defs rows step)
  tables_after rows (Insert table row) are fit none =
      let new : TableRow = record { table = table; row = row } in
      let fails = none_found (step_breaks defs rows (Insert table row)) step_rules none in
      record {
        few = few_after defs rows (Insert table row) are.few none;
        known = all_with there defs rows new are.known fit.there;
        held = all_with held defs rows new are.held (new_held defs table row fit.row fails.0);
        ascend = steps_keep_order defs rows (Insert table row) are.ascend;
        references = steps_keep_references defs rows (Insert table row) none are.references;
      }
  tables_after rows (Update table old row) are fit none =
      let new : TableRow = record { table = table; row = row } in
      let fails = none_found (step_breaks defs rows (Update table old row)) step_rules none in
      let others = λ (kept : TableRow). not (is_at defs table old kept) in
      record {
        few = few_after defs rows (Update table old row) are.few none;
        known = all_with there defs (without_row defs rows table old) new (filter_all there others rows are.known) fit.there;
        held = all_with held defs (without_row defs rows table old) new (filter_all held others rows are.held) (new_held defs table row fit.row fails.0);
        ascend = steps_keep_order defs rows (Update table old row) are.ascend;
        references = steps_keep_references defs rows (Update table old row) none are.references;
      }
  tables_after rows (Delete table old) are fit none =
      let others = λ (kept : TableRow). not (is_at defs table old kept) in
      record {
        few = few_after defs rows (Delete table old) are.few none;
        known = filter_all there others rows are.known;
        held = filter_all held others rows are.held;
        ascend = steps_keep_order defs rows (Delete table old) are.ascend;
        references = steps_keep_references defs rows (Delete table old) none are.references;
      }

-- THE ROWS of a step: those that its event has
pub record IsDone (defs : List TableDef) (done : Done) : Type 0 where
  pub there : table_of done.step < length defs
  pub had : is_some done.old ≡ has_old (event_of done.step)
  pub made : IfSome (new_row done.step) (IsRowOf (columns_at defs (table_of done.step)))
  pub stood : IfSome done.old (IsRowOf (columns_at defs (table_of done.step)))

-- a row that is looked up is one of its table
pub row_stands : (defs : List TableDef) (rows : List TableRow) (table : ℕ) (key : Key) → AreTables defs rows
    → IfSome (row_at defs rows table key) (IsRowOf (columns_at defs table))
row_stands defs rows table key are = on (find (is_at defs table key) rows) refl
  where
    on : (found : Option TableRow) → find (is_at defs table key) rows ≡ found
        → IfSome (option_map (λ (row : TableRow). row.row) found) (IsRowOf (columns_at defs table))
    on None is = tt
    on (Some row) is =
        subst (λ t. IsRowOf (columns_at defs t) row.row)
        (same_number row.table table (and_left (row.table == table) (same_key (key_of defs table row.row) key) (find_passes (is_at defs table key) rows row is)))
        (find_all (λ (r : TableRow). IsRowOf (columns_at defs r.table) r.row) (is_at defs table key) rows row are.held is)

finds_any : {X : Type 0} (p : X → Bool) (xs : List X) → is_some (find p xs) ≡ list_any p xs
finds_any p [] = refl
finds_any p (x ∷ xs) = on (p x) (finds_any p xs)
  where
    on : (b : Bool) → is_some (find p xs) ≡ list_any p xs → is_some (cond b (Some x) (find p xs)) ≡ (b || list_any p xs)
    on true rest = refl
    on false rest = rest

row_found : (defs : List TableDef) (rows : List TableRow) (table : ℕ) (key : Key) → has_row defs rows table key ≡ true → is_some (row_at defs rows table key) ≡ true
row_found defs rows table key is = on (find (is_at defs table key) rows) (finds_any (is_at defs table key) rows ∙ is)
  where
    on : (found : Option TableRow) → is_some found ≡ true → is_some (option_map (λ (row : TableRow). row.row) found) ≡ true
    on None some = some
    on (Some row) some = refl

step_done : (defs : List TableDef) (rows : List TableRow) (step : RowStep) → AreTables defs rows → StepFits defs step → broken_rule defs rows step ≡ None
    → IsDone defs (done_of defs rows step)
step_done defs rows (Insert table row) are fit none =
    let fails = none_found (step_breaks defs rows (Insert table row)) step_rules none in
    record { there = fit.there; had = refl; made = new_held defs table row fit.row fails.0; stood = tt }
step_done defs rows (Update table key row) are fit none =
    let fails = none_found (step_breaks defs rows (Update table key row)) step_rules none in
    record {
      there = fit.there;
      had = row_found defs rows table key (not_false (has_row defs rows table key) fails.1.1.0);
      made = new_held defs table row fit.row fails.0;
      stood = row_stands defs rows table key are;
    }
step_done defs rows (Delete table key) are fit none =
    let fails = none_found (step_breaks defs rows (Delete table key)) step_rules none in
    record {
      there = fit.there;
      had = row_found defs rows table key (not_false (has_row defs rows table key) fails.1.1.0);
      made = tt;
      stood = row_stands defs rows table key are;
    }

-- A RUN
abbrev pub AsksWell : List TableDef → Resolution → Type 0
AsksWell defs (Apply step) = StepFits defs step
AsksWell defs SkipRow = Unit {0}
AsksWell defs SkipBatch = Unit {0}
AsksWell defs (Broken rule) = Unit {0}

abbrev pub EndsIn : List TableDef → RunEnd → Type 0
EndsIn defs (Made dones rows) = AreTables defs rows × All (IsDone defs) dones
EndsIn defs Ignored = Unit {0}
EndsIn defs (Refused number rule) = Unit {0}

by_is : (broken : Option Rule) (overflow : Bool) (own step : RowStep) → by_broken broken overflow own ≡ Apply step → (own ≡ step) × (broken ≡ None)
by_is None true own step is = absurd (cc)
by_is None false own step is = (cc, refl)
by_is (Some rule) overflow own step is = absurd (cc)

asked_step : (defs : List TableDef) (overflow : RowStep → Bool) (rows : List TableRow) (asks : Resolution) (step : RowStep) → AsksWell defs asks
    → by_step_rules defs overflow rows asks ≡ Apply step → StepFits defs step × (broken_rule defs rows step ≡ None)
asked_step defs overflow rows (Apply own) step fit is =
    let both = by_is (broken_rule defs rows own) (overflow own) own step is in
    (subst (StepFits defs) both.0 fit, subst (λ (s : RowStep). broken_rule defs rows s ≡ None) both.0 both.1)
asked_step defs overflow rows SkipRow step fit is = absurd (cc)
asked_step defs overflow rows SkipBatch step fit is = absurd (cc)
asked_step defs overflow rows (Broken rule) step fit is = absurd (cc)

more_done : (defs : List TableDef) (done : Done) (end : RunEnd) → IsDone defs done → EndsIn defs end → EndsIn defs (with_done done end)
more_done defs done (Made dones rows) is ends = (ends.0, All-cons (IsDone defs) done dones is ends.1)
more_done defs done Ignored is ends = tt
more_done defs done (Refused number rule) is ends = tt

row_runs : {R : Type 0} (defs : List TableDef) (overflow : RowStep → Bool) (judge : List TableRow → R → Resolution) (rows : List TableRow)
    (next : ℕ × R) (later : List (ℕ × R)) → AreTables defs rows → AsksWell defs (judge rows next.1)
    → ((from : List TableRow) → AreTables defs from → EndsIn defs (run defs overflow judge from later))
    → EndsIn defs (run defs overflow judge rows (next ∷ later))
row_runs defs overflow judge rows next later are well rest = on (by_step_rules defs overflow rows (judge rows next.1)) refl
  where
    on : (r : Resolution) → by_step_rules defs overflow rows (judge rows next.1) ≡ r → EndsIn defs (elim r [
      | Apply step ↦ with_done (done_of defs rows step) (run defs overflow judge (rows_after defs rows step) later)
      | SkipRow ↦ run defs overflow judge rows later
      | SkipBatch ↦ Ignored
      | Broken rule ↦ Refused next.0 rule
    ])
    on (Apply step) is =
        let fit = asked_step defs overflow rows (judge rows next.1) step well is in
        more_done defs (done_of defs rows step) (run defs overflow judge (rows_after defs rows step) later)
        (step_done defs rows step are fit.0 fit.1)
        (rest (rows_after defs rows step) (tables_after defs rows step are fit.0 fit.1))
    on SkipRow is = rest rows are
    on SkipBatch is = tt
    on (Broken rule) is = tt

pub runs_end : {R : Type 0} (P : R → Type 0) (defs : List TableDef) (overflow : RowStep → Bool) (judge : List TableRow → R → Resolution)
    → ((rows : List TableRow) (row : R) → AreTables defs rows → P row → AsksWell defs (judge rows row))
    → (list : List (ℕ × R)) → All (λ (at : ℕ × R). P at.1) list → (rows : List TableRow) → AreTables defs rows
    → EndsIn defs (run defs overflow judge rows list)
runs_end P defs overflow judge well [] each rows are = (are, All-nil (IsDone defs))
runs_end {R} P defs overflow judge well (next ∷ later) each rows are =
    row_runs defs overflow judge rows next later are (well rows next.1 are (all_head (λ (at : ℕ × R). P at.1) next later each))
    (λ from tables. runs_end P defs overflow judge well later (all_tail (λ (at : ℕ × R). P at.1) next later each) from tables)

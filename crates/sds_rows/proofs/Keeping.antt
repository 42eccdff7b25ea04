-- After a step that fits and breaks no rule the rows are a node's tables again.
use Rattle.std.proofs.Common.{◌≡◌, ℕ, suc, ◌+◌, ◌≤◌, ◌<◌, ◌++◌, take, drop, nat_le, subst, Bool, true, false, not, ◌&&◌, ◌||◌, List, [], ◌∷◌, length, refl, sym, ap, ◌∙◌, arith, true≢false, All, filter, get_or, None, is_lt}
use Rattle.std.specs.List.{insert, list_any, remove, zip}
use Rattle.std.proofs.lemmas.Bool.Decides.{nat_tests}
use Rattle.std.proofs.lemmas.List.{length-take, take-append-drop}
use Rattle.std.proofs.Math.Seq.{take-append_seam}
use Rattle.std.proofs.lemmas.List.Elements.{All-append, All-cons, All-filter, All-nil}
use Rattle.sds_value.specs.declared.kind.Value.{Value}
use Rattle.sds_value.specs.declared.table.ColumnDef.{ColumnDef}
use Rattle.sds_value.specs.declared.table.TableDef.{TableDef}
use Rattle.sds_value.specs.Values.{fits}
use Rattle.sds_types.specs.Limits.{most_rows}
use Rattle.sds_types.specs.declared.row.Row.{Row}
use Rattle.sds_types.specs.declared.row.Key.{Key}
use Rattle.sds_types.specs.declared.row.RowStep.{RowStep}
use Rattle.sds_types.specs.declared.row.RowStep.TheVariants.{Insert, Update, Delete}
use Rattle.sds_types.specs.declared.row.TableRow.{TableRow}
use Rattle.sds_trade.specs.rules.Fitting.{FitsRow, FitsStep}
use Rattle.sds_trade.specs.rules.Places.{columns_at}
use Rattle.sds_trade.specs.rules.StepRules.{broken_rule, has_null, step_breaks, step_rules}
use Rattle.sds_trade.specs.rules.Steps.{rows_after, with_row, without_row}
use Rattle.sds_trade.specs.rules.Tables.{AreTables, Ascend, IsRowOf, is_at, is_null, row_order}
use Rattle.sds_rows.specs.Stored.{AreInOrder}
use Rattle.sds_rows.specs.Undoing.{Undoes}
use Rattle.sds_rows.specs.declared.undo.Inverse.TheVariants.{Remove, Exchange}
use Rattle.sds_trade.proofs.Lists.{none_found}
use Rattle.sds_trade.proofs.StepsKeep.{steps_keep_references}
use Rattle.sds_trade.proofs.TableLaws.{steps_keep_order}

-- A NEW ROW holds in each column what the column may hold
holds : (null not_null fit : Bool) → (null || fit) ≡ true → (not_null && null) ≡ false → elim null [ true ↦ not not_null | false ↦ fit ] ≡ true
holds true true fit suits none = absurd (true≢false none)
holds true false fit suits none = refl
holds false not_null fit suits none = suits

each_fails : {X : Type 0} (p : X → Bool) (xs : List X) → list_any p xs ≡ false → All (λ x. p x ≡ false) xs
each_fails p [] none = All-nil (λ x. p x ≡ false)
each_fails p (x ∷ xs) none = each_on p x xs (p x) refl none (each_fails p xs)
  where
    each_on : {X : Type 0} (p : X → Bool) (x : X) (xs : List X) (b : Bool) → p x ≡ b → (b || list_any p xs) ≡ false
        → (list_any p xs ≡ false → All (λ x. p x ≡ false) xs) → All (λ x. p x ≡ false) (x ∷ xs)
    each_on p x xs true is none rest = absurd (true≢false none)
    each_on p x xs false is none rest = All-cons (λ y. p y ≡ false) x xs is (rest none)

new_held : (defs : List TableDef) (table : ℕ) (row : Row) → FitsRow defs table row → has_null (columns_at defs table) row ≡ false
    → IsRowOf (columns_at defs table) row
new_held defs table row fit none =
    let columns = columns_at defs table in
    let fails = each_fails (λ (at : ColumnDef × Value). at.0.not_null && is_null at.1) (zip columns row.0) none in
    record {
      whole = fit.whole;
      held = λ k d within.
          let at = get_or (zip columns row.0) k d in
          holds (is_null at.1) at.0.not_null (fits at.0.kind at.1) (fit.each k d within) (fails k d within);
    }

-- ALL ROWS of what a step leaves
all_with : (P : TableRow → Type 0) (defs : List TableDef) (rows : List TableRow) (new : TableRow) → All P rows → P new → All P (with_row defs rows new)
all_with P defs rows new are is =
    let low = λ (row : TableRow). is_lt (row_order defs row new) in
    let high = λ (row : TableRow). is_lt (row_order defs new row) in
    All-append P (filter low rows) (new ∷ filter high rows) (All-filter low P rows are)
    (All-cons P new (filter high rows) is (All-filter high P rows are))

all_without : (P : TableRow → Type 0) (defs : List TableDef) (rows : List TableRow) (table : ℕ) (key : Key) → All P rows → All P (without_row defs rows table key)
all_without P defs rows table key are = All-filter (λ (row : TableRow). not (is_at defs table key row)) P rows are

module _ (defs : List TableDef) where
  abbrev known : TableRow → Type 0
  known row = row.table < length defs

  abbrev held : TableRow → Type 0
  held row = IsRowOf (columns_at defs row.table) row.row

  pub step_keeps : (rows : List TableRow) (step : RowStep) → AreTables defs rows → FitsStep defs step → broken_rule defs rows step ≡ None
      → length (rows_after defs rows step) ≤ most_rows → AreTables defs (rows_after defs rows step)
  step_keeps rows (Insert table row) are fit none few =
      let new : TableRow = record { table = table; row = row } in
      let fails = none_found (step_breaks defs rows (Insert table row)) step_rules none in
      record {
        few = few;
        known = all_with known defs rows new are.known fit.0;
        held = all_with held defs rows new are.held (new_held defs table row fit.1 fails.0);
        ascend = steps_keep_order defs rows (Insert table row) are.ascend;
        references = steps_keep_references defs rows (Insert table row) none are.references;
      }
  step_keeps rows (Update table old row) are fit none few =
      let new : TableRow = record { table = table; row = row } in
      let fails = none_found (step_breaks defs rows (Update table old row)) step_rules none in
      record {
        few = few;
        known = all_with known defs (without_row defs rows table old) new (all_without known defs rows table old are.known) fit.0;
        held = all_with held defs (without_row defs rows table old) new (all_without held defs rows table old are.held) (new_held defs table row fit.2 fails.0);
        ascend = steps_keep_order defs rows (Update table old row) are.ascend;
        references = steps_keep_references defs rows (Update table old row) none are.references;
      }
  step_keeps rows (Delete table old) are fit none few = record {
    few = few;
    known = all_without known defs rows table old are.known;
    held = all_without held defs rows table old are.held;
    ascend = steps_keep_order defs rows (Delete table old) are.ascend;
    references = steps_keep_references defs rows (Delete table old) none are.references;
  }

-- THE ROWS THAT THE CODE MAKES are those after the step
pub ordered_as : (defs : List TableDef) (rows : List TableRow) (step : RowStep) (new : List TableRow) → AreInOrder defs rows
    → new ≡ rows_after defs rows step → length new ≤ most_rows → AreInOrder defs new
ordered_as defs rows step new are is few =
    record { few = few; ascend = subst (Ascend defs) (sym is) (steps_keep_order defs rows step are.ascend) }

has_room : (rows : List TableRow) → nat_le most_rows (length rows) ≡ false → length rows + 1 ≤ most_rows
has_room rows none = grind (arith, nat_tests)

pub few_inserted : (defs : List TableDef) (rows : List TableRow) (step : RowStep) (table : ℕ) (row : Row) (new : List TableRow)
    → step ≡ Insert table row → broken_rule defs rows step ≡ None → length new ≡ length rows + 1 → length new ≤ most_rows
few_inserted defs rows step table row new is none more =
    let fails = none_found (step_breaks defs rows (Insert table row)) step_rules (subst (λ s. broken_rule defs rows s ≡ None) is none) in
    rw more (has_room rows fails.1.1.1.1.1.0)

pub ascend_without : (defs : List TableDef) (rows : List TableRow) (table : ℕ) (key : Key) (own : List TableDef) (new : List TableRow)
    → own ≡ defs → Ascend defs rows → new ≡ without_row own rows table key → Ascend own new
ascend_without defs rows table key own new same are is =
    subst (λ d. Ascend d new) (sym same)
    (subst (Ascend defs) (sym (is ∙ ap (λ d. without_row d rows table key) same)) (steps_keep_order defs rows (Delete table key) are))

-- BACK AGAIN: taking out what was put in
drop_past : {X : Type 0} (xs : List X) (x : X) (ys : List X) → drop (suc (length xs)) (xs ++ x ∷ ys) ≡ ys
drop_past [] x ys = refl
drop_past (y ∷ xs) x ys = drop_past xs x ys

pub remove_insert : {X : Type 0} (rows : List X) (at : ℕ) (x : X) → at ≤ length rows → remove (insert rows at x) at ≡ rows
remove_insert rows at x within =
    let short : length (take at rows) ≡ at = omega (arith, length-take at rows, within) in
    let first : take at (insert rows at x) ≡ take at rows =
    ap (λ n. take n (take at rows ++ x ∷ drop at rows)) (sym short) ∙ take-append_seam (take at rows) (x ∷ drop at rows) in
    let last : drop (suc at) (insert rows at x) ≡ drop at rows =
    ap (λ n. drop (suc n) (take at rows ++ x ∷ drop at rows)) (sym short) ∙ drop_past (take at rows) x (drop at rows) in
    ap (λ ys. ys ++ drop (suc at) (insert rows at x)) first ∙ (ap (λ ys. take at rows ++ ys) last ∙ take-append-drop at rows)

pub undo_insert : (defs : List TableDef) (rows new : List TableRow) (at : ℕ) (x : TableRow) → AreInOrder defs rows
    → new ≡ insert rows at x → at ≤ length rows → length new ≡ length rows + 1
    → Undoes defs (record { inverse = Remove at }) new rows
undo_insert defs rows new at x are is within more = record {
  within = omega arith;
  back = ap (λ r. remove r at) is ∙ remove_insert rows at x within;
  order = are;
}

pub undo_update : (defs : List TableDef) (rows middle new : List TableRow) (old_at at : ℕ) (old x : TableRow) → AreInOrder defs rows
    → insert middle old_at old ≡ rows → old_at < length rows → length middle + 1 ≡ length rows
    → new ≡ insert middle at x → at ≤ length middle → length new ≡ length middle + 1
    → Undoes defs (record { inverse = Exchange at old_at old }) new rows
undo_update defs rows middle new old_at at old x are back old_within less is within more = record {
  within = (omega arith, omega arith);
  back = ap (λ r. insert r old_at old) (ap (λ r. remove r at) is ∙ remove_insert middle at x within) ∙ back;
  order = are;
}

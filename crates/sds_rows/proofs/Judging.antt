-- What the rules on steps ask, by what the code looks up.
use Rattle.std.proofs.Common.{◌≡◌, ℕ, Bool, true, false, not, ◌&&◌, ◌||◌, ◌==◌, List, refl, sym, ap, ◌∙◌}
use Rattle.std.specs.List.{filter_map, list_all, list_any, zip}
use Rattle.sds_value.specs.declared.kind.Value.{Value}
use Rattle.sds_value.specs.declared.table.ColumnDef.{ColumnDef}
use Rattle.sds_value.specs.declared.table.TableDef.{TableDef}
use Rattle.sds_types.specs.declared.row.Key.{Key}
use Rattle.sds_types.specs.declared.row.Row.{Row}
use Rattle.sds_types.specs.declared.row.RowStep.{RowStep}
use Rattle.sds_types.specs.declared.row.RowStep.TheVariants.{Insert, Update, Delete}
use Rattle.sds_types.specs.declared.row.TableRow.{TableRow}
use Rattle.sds_trade.specs.rules.Steps.{rows_after, with_row, without_row}
use Rattle.sds_trade.specs.rules.StepRules.{doubles_key, leaves_children}
use Rattle.sds_trade.specs.rules.Tables.{has_row, is_at, key_of, reference_to, refers_to, same_key}
use Rattle.sds_rows.proofs.Having.{has_with, has_without}
use Rattle.sds_rows.proofs.Labels.{eqb_itself, same_itself}

-- each reference of these values stands, and one of them is of a key
abbrev pub all_found : List TableDef → List TableRow → List ColumnDef → List Value → Bool
all_found defs rows columns values =
    list_all (λ (reference : ℕ × Key). has_row defs rows reference.0 reference.1)
    (filter_map (λ (at : ColumnDef × Value). reference_to at.0.parent at.1) (zip columns values))

abbrev pub any_refers : ℕ → Key → List ColumnDef → List Value → Bool
any_refers table key columns values =
    list_any (λ (reference : ℕ × Key). reference.0 == table && same_key reference.1 key)
    (filter_map (λ (at : ColumnDef × Value). reference_to at.0.parent at.1) (zip columns values))

module _ (defs : List TableDef) (rows : List TableRow) (table : ℕ) (old : Key) where
  -- the key of an update is another's where it is a new one that a row has
  pub doubled : (key : Key) → has_row defs (without_row defs rows table old) table key
      ≡ (not (same_key key old) && has_row defs rows table key)
  doubled key = has_without defs rows table old table key
      ∙ ap (λ b. not (b && same_key key old) && has_row defs rows table key) (eqb_itself table)

  gone : has_row defs (without_row defs rows table old) table old ≡ false
  gone = doubled old ∙ ap (λ b. not b && has_row defs rows table old) (same_itself old)

  -- rows are orphaned by a delete where one refers to the key, and by an update where the key is new too
  both_true : (a : Bool) → (a && true) ≡ a
  both_true true = refl
  both_true false = refl

  pub deleted : (refer : Bool) → (refer && not (has_row defs (without_row defs rows table old) table old)) ≡ refer
  deleted refer = ap (λ b. refer && not b) gone ∙ both_true refer

  turned : (a b : Bool) → (a && not (b || false)) ≡ (not b && a)
  turned true true = refl
  turned true false = refl
  turned false true = refl
  turned false false = refl

  pub updated : (refer : Bool) (row : Row)
      → (refer && not (has_row defs (with_row defs (without_row defs rows table old) (record { table = table; row = row })) table old))
      ≡ (not (same_key (key_of defs table row) old) && refer)
  updated refer row =
      let new : TableRow = record { table = table; row = row } in
      let own = same_key (key_of defs table row) old in
      ap (λ b. refer && not b) (has_with defs (without_row defs rows table old) new table old)
      ∙ (ap (λ b. refer && not ((b && own) || has_row defs (without_row defs rows table old) table old)) (eqb_itself table)
      ∙ (ap (λ b. refer && not (own || b)) gone ∙ turned refer own))

  -- THE RULES AT AN UPDATE, and at a delete
  pub doubles_update : (row : Row) (step : RowStep) (own has : Bool) → step ≡ Update table old row
      → own ≡ same_key (key_of defs table row) old → has ≡ has_row defs rows table (key_of defs table row)
      → (not own && has) ≡ doubles_key defs rows step
  doubles_update row step own has is own_is has_is =
      rw (is, own_is, has_is) (sym (doubled (key_of defs table row)))

  pub leaves_update : (row : Row) (step : RowStep) (own refer : Bool) → step ≡ Update table old row
      → own ≡ same_key (key_of defs table row) old → refer ≡ list_any (refers_to defs table old) (without_row defs rows table old)
      → (not own && refer) ≡ leaves_children defs rows step
  leaves_update row step own refer is own_is refer_is =
      rw (is, own_is, refer_is) (sym (updated (list_any (refers_to defs table old) (without_row defs rows table old)) row))

  pub leaves_delete : (step : RowStep) (refer : Bool) → step ≡ Delete table old
      → refer ≡ list_any (refers_to defs table old) (without_row defs rows table old)
      → refer ≡ leaves_children defs rows step
  leaves_delete step refer is refer_is =
      rw (is, refer_is) (sym (deleted (list_any (refers_to defs table old) (without_row defs rows table old))))

-- a row stands after a step where it is the new one, or one that stood and stays
pub after_insert : (defs : List TableDef) (rows : List TableRow) (table : ℕ) (row : Row) (step : RowStep) (parent : ℕ) (key : Key) (new has : Bool)
    → step ≡ Insert table row → new ≡ is_at defs parent key (record { table = table; row = row })
    → has ≡ has_row defs rows parent key
    → (new || has) ≡ has_row defs (rows_after defs rows step) parent key
after_insert defs rows table row step parent key new has is new_is has_is =
    rw (is, new_is, has_is) (sym (has_with defs rows (record { table = table; row = row }) parent key))

pub after_update : (defs : List TableDef) (rows : List TableRow) (table : ℕ) (old : Key) (row : Row) (step : RowStep) (parent : ℕ) (key : Key) (new has : Bool)
    → step ≡ Update table old row → new ≡ is_at defs parent key (record { table = table; row = row })
    → has ≡ has_row defs (without_row defs rows table old) parent key
    → (new || has) ≡ has_row defs (rows_after defs rows step) parent key
after_update defs rows table old row step parent key new has is new_is has_is =
    rw (is, new_is, has_is) (sym (has_with defs (without_row defs rows table old) (record { table = table; row = row }) parent key))

pub has_beside : (defs : List TableDef) (rows : List TableRow) (table : ℕ) (old : Key) (parent : ℕ) (key : Key) (here has : Bool)
    → here ≡ (parent == table && same_key key old) → has ≡ has_row defs rows parent key
    → (not here && has) ≡ has_row defs (without_row defs rows table old) parent key
has_beside defs rows table old parent key here has here_is has_is =
    rw (here_is, has_is) (sym (has_without defs rows table old parent key))

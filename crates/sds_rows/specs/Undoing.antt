-- What the undo of a step makes of the rows after it.
use Rattle.std.specs.Prelude.{◌≡◌, ℕ, ◌+◌, ◌<◌, ◌≤◌, List, [], ◌∷◌, map, length}
use Rattle.std.specs.List.{insert, remove}
use Rattle.sds_value.specs.declared.table.TableDef.{TableDef}
use Rattle.sds_types.specs.declared.row.TableRow.{TableRow}
use Rattle.sds_trade.specs.rules.Captured as plain
use Rattle.sds_rows.specs.declared.undo.Done.{Done}
use Rattle.sds_rows.specs.declared.undo.Undo.{Undo}
use Rattle.sds_rows.specs.declared.undo.Inverse.{Inverse}
use Rattle.sds_rows.specs.declared.undo.Inverse.TheVariants.{Remove, PutBack, Exchange}
use Rattle.sds_rows.specs.Stored.{AreInOrder, Stored}

-- the row that was put in is taken out, and the one that was taken out is put in
abbrev pub rows_back : Inverse → List TableRow → List TableRow
rows_back (Remove at) rows = remove rows at
rows_back (PutBack at old) rows = insert rows at old
rows_back (Exchange at old_at old) rows = insert (remove rows at) old_at old

-- the places are in range among so many rows
abbrev pub IsInRange : Inverse → ℕ → Type 0
IsInRange (Remove at) count = at < count
IsInRange (PutBack at old) count = at ≤ count
IsInRange (Exchange at old_at old) count = (at < count) × (old_at + 1 ≤ count)

-- the undo leads from the rows after a step back to those before it
pub record Undoes (defs : List TableDef) (undo : Undo) (after before : List TableRow)
    : Type 0 where
  pub within : IsInRange undo.inverse (length after)
  pub back : rows_back undo.inverse after ≡ before
  pub order : AreInOrder defs before

-- the undos of steps that were made one after another lead back from the rows after them to those
-- before them, each of which had room among so many
abbrev pub LeadBack : List TableDef → ℕ → List Undo → List TableRow → List TableRow → Type 0
LeadBack defs room [] after before = after ≡ before
LeadBack defs room (undo ∷ later) after before = (middle : List TableRow)
    × Undoes defs undo middle before × (length before ≤ room)
    × LeadBack defs room later after middle

-- the undos of steps that were made
abbrev pub undos_of : List Done → List Undo
undos_of dones = map (λ (done : Done). done.undo) dones

-- the same where contracts see tables after and before
abbrev pub Undone : List Done → Stored → List TableRow → Type 0
Undone dones tables before =
    LeadBack tables.defs (length tables.rows + tables.spare) (undos_of dones) tables.rows before

-- a step that was made, without what undoes it
abbrev pub without_undo : Done → plain.Done
without_undo done = record { step = done.step; old = done.old }

abbrev pub without_undos : List Done → List plain.Done
without_undos dones = map without_undo dones

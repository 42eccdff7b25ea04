-- Batches by number, and changes whose rows fit their table.
use Rattle.std.specs.Prelude.{ℕ, ◌==◌, List, Option, IfSome}
use Rattle.std.specs.List.{find}
use Rattle.sds_value.specs.declared.table.TableDef.{TableDef}
use Rattle.sds_types.specs.declared.batch.OutBatch.{OutBatch}
use Rattle.sds_types.specs.declared.row.Change.{Change}
use Rattle.sds_trade.specs.rules.Fitting.{FitsRow}

-- the first batch of a number
abbrev pub batch_of_number : List OutBatch → ℕ → Option OutBatch
batch_of_number batches number = find (λ (batch : OutBatch). batch.id == number) batches

-- the rows of a change fit its table
pub record HasFitRows (defs : List TableDef) (change : Change) : Type 0 where
  pub new : IfSome change.new (FitsRow defs change.table)
  pub old : IfSome change.old (FitsRow defs change.table)

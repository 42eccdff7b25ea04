-- Steps whose rows are of their tables, and how many changes wait.
use Rattle.std.specs.Prelude.{ℕ, Bool, nat_le, List}
use Rattle.std.specs.List.{All}
use Rattle.sds_types.specs.Limits.{most_unrouted_changes}
use Rattle.sds_types.specs.declared.config.Config.{Config}
use Rattle.sds_trade.specs.rules.Captured as plain
use Rattle.sds_trade.specs.rules.Steps.{new_row, table_of}
use Rattle.sds_records.specs.Parts.{FitsSide, HasKey}
use Rattle.sds_rows.specs.Undoing.{without_undo}
use Rattle.sds_rows.specs.declared.undo.Done.{Done}

-- the rows that a step puts and takes have values of its table's columns, and the table has its key
pub record FitsStep (config : Config) (done : plain.Done) : Type 0 where
  pub new : FitsSide config.tables (table_of done.step) (new_row done.step)
  pub old : FitsSide config.tables (table_of done.step) done.old
  pub key : HasKey config.tables (table_of done.step)

abbrev pub FitSteps : Config → List Done → Type 0
FitSteps config dones = All (λ (done : Done). FitsStep config (without_undo done)) dones

-- so many changes wait that no step may be captured
abbrev pub is_full : ℕ → Bool
is_full waiting = nat_le most_unrouted_changes waiting

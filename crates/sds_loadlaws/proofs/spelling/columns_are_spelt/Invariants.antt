use Rattle.std.proofs.Common.{◌≡◌, drop}
use Rattle.std.specs.List.{list_all}
use Rattle.sds_loadlaws.specs.Spelt.{is_spelt_column}
use Rattle.sds_loadlaws.proofs.spelling.columns_are_spelt.Given as goal

abbrev pub invariant-loop-column : goal.invariant-loop-column
invariant-loop-column l = list_all is_spelt_column (drop l.column-index l.columns) ≡ list_all is_spelt_column l.columns

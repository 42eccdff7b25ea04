use Rattle.std.proofs.Common.{◌≡◌, drop}
use Rattle.std.specs.List.{list_all}
use Rattle.sds_types.specs.declared.load_row.Addend.{Addend}
use Rattle.sds_value.specs.Digits.{is_in_range}
use Rattle.sds_trade.specs.rules.RowValues.{sum_at}
use Rattle.sds_trade.specs.rules.Tables.{value_at}
use Rattle.sds_rowvalues.proofs.row_values.sums_fit.Given as goal

abbrev pub invariant-loop-addend : goal.invariant-loop-addend
invariant-loop-addend l =
    list_all (λ (addend : Addend). is_in_range (sum_at l.row addend.column (value_at l.values addend.column))) (drop l.addend-index l.addend-items)
    ≡ list_all (λ (addend : Addend). is_in_range (sum_at l.row addend.column (value_at l.values addend.column))) l.addend-items

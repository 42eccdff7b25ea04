-- What an insert adds: so many times its new number.
use Rattle.std.proofs.Common.{◌≡◌, refl, Some, ℤ, pos, ◌*ℤ◌, ◌-ℤ◌}
use Rattle.std.specs.List.{zip}
use Rattle.sds_value.specs.declared.row.Event.TheVariants.{Insert}
use Rattle.sds_value.specs.declared.kind.Value.{Value}
use Rattle.sds_types.specs.declared.load_row.LoadRow.{LoadRow}
use Rattle.sds_types.specs.declared.transform.Add.{Add}
use Rattle.sds_trade.specs.rules.LoadRows.{addend_of, units_of, value_for}
use Rattle.sds_rowvalues.proofs.Pairs.{zip_none}

pub inserted : (row : LoadRow) (add : Add) (new sum : ℤ) → row.event ≡ Insert
    → new ≡ units_of (value_for (zip row.columns row.new) add.column)
    → sum ≡ add.multiplier *ℤ (new -ℤ pos 0) → Some sum ≡ (addend_of row add).add
inserted row add new sum event is product =
    rw event (rw (zip_none {B = Value} row.columns) (rw (product, is) refl))

use Rattle.std.proofs.Common.{◌≡◌, ◌==◌, drop}
use Rattle.std.specs.List.{find}
use Rattle.sds_types.specs.declared.load_row.Addend.{Addend}
use Rattle.sds_rowvalues.proofs.sums.addend_for.Given as goal

abbrev pub invariant-loop-addend : goal.invariant-loop-addend
invariant-loop-addend l = find (λ (addend : Addend). addend.column == l.column) (drop l.addend-index l.addend-items) ≡ find (λ (addend : Addend). addend.column == l.column) l.addend-items

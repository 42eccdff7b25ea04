use Rattle.std.proofs.Common.{sym, arith}
use Rattle.std.proofs.lemmas.List.{take_all, length-take-le}
use Rattle.sds_config.proofs.conflicts.first_columns.Goals as goal

pub returns-then-columns-le64-clause-columns : goal.returns-then-columns-le64-clause-columns
returns-then-columns-le64-clause-columns c = sym (take_all 64 c.args.columns.now c.if-columns-le64.true)

pub slice_bounds-result-end : goal.slice_bounds-result-end
slice_bounds-result-end c = sym (length-take-le 64 c.args.columns.now (omega arith))

pub returns-clause-bound : goal.returns-clause-bound
returns-clause-bound c = omega (arith, length-take-le 64 c.args.columns.now (omega arith))

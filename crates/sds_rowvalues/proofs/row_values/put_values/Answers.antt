use Rattle.std.proofs.Common.{arith, inl, inr}
use Rattle.sds_value.specs.declared.kind.Value.TheVariants.{Null}
use Rattle.sds_rowvalues.proofs.Fitting.{row_is_put, sum_fits_at}
use Rattle.sds_rowvalues.proofs.row_values.put_values.Goals as goal

pub put_value-requires : goal.put_value-requires
put_value-requires c = λ added.
    sum_fits_at c.args.row.now c.args.values.now c.loop-place.place c.in-Some.kept.now c.requires (c.in-Some.ensures.lookup.4 (omega arith) Null) added

pub returns-in_default : goal.returns-in_default
returns-in_default c =
    row_is_put c.args.defs.now c.args.row.now c.args.values.now c.columns_at-columns.result.now c.loop-place.made.items c.of.result c.loop-place.place
    c.columns_at-columns.ensures c.of.ensures c.loop-place.invariant (inr c.in_default.ensures.lookup.3)

pub returns : goal.returns
returns c =
    row_is_put c.args.defs.now c.args.row.now c.args.values.now c.columns_at-columns.result.now c.loop-place.made.items c.of-2.result c.loop-place.place
    c.columns_at-columns.ensures c.of-2.ensures c.loop-place.invariant (inl c.loop-place-test.false)

use Rattle.sds_rowvalues.proofs.Held.{suits}
use Rattle.sds_rowvalues.proofs.printing.fields_of_values.Goals as goal

pub field_of-requires : goal.field_of-requires
field_of-requires c =
    suits c.args.columns.now c.args.values.now c.loop-place.place c.index-columns-place.result c.in-Some.value.now c.requires
    c.loop-place-test.true c.in-Some.ensures.lookup.3.0 c.index-columns-place.is c.in-Some.ensures.lookup.1

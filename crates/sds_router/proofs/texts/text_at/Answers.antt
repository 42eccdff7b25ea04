use Rattle.std.proofs.Common.{sym}
use Rattle.sds_router.proofs.Rows.{suits_at}
use Rattle.sds_router.proofs.texts.text_at.Goals as goal

pub text_of-requires : goal.text_of-requires
text_of-requires c = suits_at c.args.columns.now c.args.row.now.0 c.args.place
    c.in-Some.column.now c.in-Some-value_at.value.now c.requires
    (sym c.in-Some.ensures) (sym c.in-Some-value_at.ensures)

use Rattle.std.proofs.Common.{sym, ◌∙◌}
use Rattle.sds_records.proofs.Numbers.{one_more, writes_of}
use Rattle.sds_records.proofs.tellings.told_numbers.Goals as goal

pub returns-in_default : goal.returns-in_default
returns-in_default c = λ numbers wide same.
    let at = writes_of c.args.fields.now numbers c.loop-field.field-index c.field-item.result wide same c.loop-field-test.true c.field-item.is in
    absurd (c.in_default.not-Some at.number (c.number_in.ensures at.number at.fits at.field))

pub loop-field-preserved : goal.loop-field-preserved
loop-field-preserved c = λ numbers wide same.
    let at = writes_of c.args.fields.now numbers c.loop-field.field-index c.field-item.result wide same c.loop-field-test.true c.field-item.is in
    c.in_ok-push.ensures.ok
    ∙ one_more numbers c.loop-field.numbers c.loop-field.field-index c.in-Some.number c.field-item.result at (c.loop-field.invariant numbers wide same)
    (sym c.in-Some.is ∙ c.number_in.ensures at.number at.fits at.field)

use Rattle.std.proofs.Common.{subst, sym}
use Rattle.sds_image.specs.Reading.{AreTold}
use Rattle.sds_image.proofs.TellingParts.{bad_among, told_next}
use Rattle.sds_image.proofs.telling.read_parts.Goals as goal

pub returns-in-Err-clause-bad : goal.returns-in-Err-clause-bad
returns-in-Err-clause-bad c = λ sound.
    bad_among c.args.config.now c.args.records.now c.loop-place.place c.index-records-place.result c.loop-place.parts c.in-Err.refusal
    c.loop-place.invariant c.loop-place-test.true (sym c.index-records-place.is) (c.in-Err.ensures.bad sound)

pub loop-place-preserved : goal.loop-place-preserved
loop-place-preserved c =
    subst (AreTold c.args.config.now _) (sym c.in_ok-push-in-Ok.ensures.ok)
    (told_next c.args.config.now c.args.records.now c.loop-place.place c.index-records-place.result c.loop-place.parts c.in-Ok.part
    c.loop-place.invariant c.loop-place-test.true (sym c.index-records-place.is) c.in-Ok.ensures.ok c.in-Ok.ensures.held c.in-Ok.ensures.after)

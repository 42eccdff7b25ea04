use Rattle.sds_image.proofs.TellingParts.{next_after, not_after}
use Rattle.sds_image.proofs.telling.read_next.Goals as goal

pub returns-then-not-is_after-clause-bad : goal.returns-then-not-is_after-clause-bad
returns-then-not-is_after-clause-bad c = λ sound.
    not_after c.args.config.now c.args.before.now c.args.key.now c.args.body.now c.in_ok-twin.field-0 c.is_after.result c.is_after.ensures c.if-not-is_after.true
    c.in_ok-twin.ensures

pub returns-clause-after : goal.returns-clause-after
returns-clause-after c = next_after c.args.before.now c.args.key.now c.args.body.now c.is_after.result c.is_after.ensures c.if-not-is_after.false

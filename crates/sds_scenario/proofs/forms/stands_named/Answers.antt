use Rattle.std.proofs.Common.{refl, codes}
use Rattle.sds_scenario.proofs.Literals.{matches, differs}
use Rattle.sds_scenario.proofs.forms.stands_named.Goals as goal

pub returns-in-after : goal.returns-in-after
returns-in-after c = rw (matches c.args.word.now (codes "after") refl c.in-after.is) refl

pub returns-in-before : goal.returns-in-before
returns-in-before c = rw (matches c.args.word.now (codes "before") refl c.in-before.is) refl

pub returns-in_default : goal.returns-in_default
returns-in_default c =
    let after = differs c.args.word.now (codes "after") c.utf8.word refl c.in_default.not-after in
    let before = differs c.args.word.now (codes "before") c.utf8.word refl c.in_default.not-before in
    rw (after, before) refl

use Rattle.std.proofs.Common.{nat_cmp, sym, ◌∙◌}
use Rattle.std.specs.BTreeSet.{contains}
use Rattle.sds_image.proofs.SeenParts.{number_passed}
use Rattle.sds_image.proofs.seen.Seen.has_unrouted.Goals as goal

pub loop-number-preserved : goal.loop-number-preserved
loop-number-preserved c = number_passed (contains nat_cmp c.args.self.now.changes) c.loop-number.number c.args.counts.now.last_change _
    c.loop-number-test.true (sym c.is_kept.ensures ∙ c.if-not-is_kept.false) c.loop-number.invariant

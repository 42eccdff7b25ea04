use Rattle.std.proofs.Common.{nat_cmp, ◌∙◌}
use Rattle.std.specs.BTreeSet.{contains}
use Rattle.sds_history.specs.history.SoundStates.{is_kept}
use Rattle.sds_image.proofs.SeenParts.{all_same}
use Rattle.sds_image.proofs.seen.Seen.are_kept.Goals as goal

pub returns : goal.returns
returns c = λ state seen. c.has_all.ensures
    ∙ all_same (contains nat_cmp c.args.self.now.changes) (is_kept state) seen.changes c.args.numbers.now

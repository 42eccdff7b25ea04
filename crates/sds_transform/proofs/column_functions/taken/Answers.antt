use Rattle.std.proofs.Common.{Ok, ℕ}
use Rattle.std.proofs.lemmas.Iterator.{YieldsList-from_chars, YieldsList-from_take, text_from_collect}
use Rattle.std.proofs.lemmas.Iterator.Consumers.{YieldsList-at}
use Rattle.std.proofs.lemmas.Iterator.Adapters.{YieldsList-from_skip}
use Rattle.sds_transform.proofs.column_functions.taken.Goals as goal

pub returns : goal.returns
returns c =
    text_from_collect {E = ℕ} (Ok c.in_ok-made.made) c.in_ok-made.ensures.ran
    (YieldsList-from_take c.args.count (YieldsList-at c.take.ensures.source (YieldsList-from_skip c.args.first (YieldsList-from_chars c.args.text.now c.utf8.text (cc)) c.skip.ensures.count)) c.take.ensures.count)

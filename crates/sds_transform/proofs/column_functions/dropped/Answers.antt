use Rattle.std.proofs.Common.{Ok, ℕ}
use Rattle.std.proofs.lemmas.Iterator.{YieldsList-from_chars, text_from_collect}
use Rattle.std.proofs.lemmas.Iterator.Adapters.{YieldsList-from_skip}
use Rattle.sds_transform.proofs.column_functions.dropped.Goals as goal

pub returns : goal.returns
returns c =
    text_from_collect {E = ℕ} (Ok c.in_ok-made.made) c.in_ok-made.ensures.ran (YieldsList-from_skip c.args.first (YieldsList-from_chars c.args.text.now c.utf8.text (cc)) c.skip.ensures.count)

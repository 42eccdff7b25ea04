use Rattle.std.proofs.Common.{subst, sym, false}
use Rattle.std.proofs.lemmas.Result.{on_ok_weaker}
use Rattle.sds_line.specs.Splitting.{Fed, Follows}
use Rattle.sds_line.proofs.Taken.{follows_more}
use Rattle.sds_line.proofs.lines.Lines.feed.Goals as goal

pub returns-else-is_err-clause-follows : goal.returns-else-is_err-clause-follows
returns-else-is_err-clause-follows c = on_ok_weaker c.feed-answer.result (λ is text taken f.
    follows_more c.self.inside.phase c.self.inside.splitter c.feed-answer.new.self text c.args.piece.now taken is (subst (λ (v : Fed). Follows text taken false v) (sym c.self.view_is) f)) c.feed-answer.ensures.ok

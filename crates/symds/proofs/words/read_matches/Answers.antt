use Rattle.std.proofs.Common.{subst, map}
use Rattle.clap.specs.Faults.{fault_of}
use Rattle.clap.specs.Kinds.{FailsBy}
use Rattle.symds.proofs.Matching.{simple}
use Rattle.symds.proofs.words.read_matches.Goals as goal

pub returns-clause-refused : goal.returns-clause-refused
returns-clause-refused c = subst (λ a. FailsBy (fault_of a (map (λ text. text.now) c.args.texts.now)) c.try_get_matches_from.result)
    c.in_ok-program.ensures (c.try_get_matches_from.ensures.kinds (simple _ c.in_ok-program.ensures))

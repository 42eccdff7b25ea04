use Rattle.std.proofs.Common.{ap, sym, ◌∙◌, codes}
use Rattle.clap.specs.Matches.{found_of}
use Rattle.symds.specs.Words.{characters_of}
use Rattle.symds.proofs.Matching.{all_are, none_are}
use Rattle.symds.proofs.words.rest_in.Goals as goal

pub returns-in-None : goal.returns-in-None
returns-in-None c = c.new.ensures ∙ ap characters_of (none_are (found_of c.args.matches.now) (codes "rest") c.in-None.ensures)

pub returns-in-Some : goal.returns-in-Some
returns-in-Some c = rw (← all_are (found_of c.args.matches.now) (codes "rest") _ c.in-Some.ensures) c.copies_of.ensures

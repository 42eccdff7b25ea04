use Rattle.std.proofs.Common.{◌≡◌, IfOk, Result, Ok, Err}
use Rattle.clap.specs.Matches.{found_of}
use Rattle.symds.proofs.Matching.{command_given, command_none}
use Rattle.symds.proofs.words.command_in.Goals as goal

pub returns-in-None : goal.returns-in-None
returns-in-None c = rw (← command_none (found_of c.args.matches.now) c.in-None.ensures) c.copied.ensures

pub returns-in-Some : goal.returns-in-Some
returns-in-Some c = rw (← command_given (found_of c.args.matches.now) _ c.in-Some.ensures) c.copied-in-Some.ensures

use Rattle.clap.specs.Matches.{found_of}
use Rattle.clap.specs.Walk.{rows_of}
use Rattle.symds.proofs.Matching.{order_is}
use Rattle.symds.proofs.words.order_in.Goals as goal

pub returns : goal.returns
returns c = order_is (rows_of (found_of c.args.matches.now)) c.in-Some.folder.now c.in-Some-keeper_in.keeper.now _ _ _ _ _ c.in-Some.ensures c.in-Some-keeper_in.ensures c.in-Some-port_in.ensures
    c.in_ok-copied.ensures c.in_ok-copied-2.ensures c.in_ok-command_in.ensures c.in_ok-rest_in.ensures

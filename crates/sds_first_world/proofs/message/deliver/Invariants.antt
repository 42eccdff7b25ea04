use Rattle.std.proofs.Common.{All, drop}
use Rattle.sds_first_spec.specs.Acts.{History}
use Rattle.sds_first_node.specs.Meaning.{StandsFor}
use Rattle.sds_first_world.proofs.Loading.{IsWholeSent, Goes}
use Rattle.sds_first_world.proofs.message.deliver.Given as goal

abbrev pub invariant-loop-sent : goal.invariant-loop-sent
invariant-loop-sent l = (h : History) → All IsWholeSent l.sents → StandsFor l.initial.node h → Goes l.from l.sents (drop l.sent-index l.sents) l.node l.acks.items h

use Rattle.sds_trade.proofs.ChangeLaws.{peers_are_named_once}
use Rattle.sds_trade.proofs.laws.peers_are_named_once.Goals as goal

pub returns : goal.returns
returns c = peers_are_named_once

use Rattle.sds_examples.proofs.TiersComputed.{nothing_comes_back, ping_back_comes_back}
use Rattle.sds_examples.proofs.scenarios.changes_do_not_come_back.Goals as goal

pub returns-clause-stays : goal.returns-clause-stays
returns-clause-stays c = nothing_comes_back

pub returns-clause-comes_back : goal.returns-clause-comes_back
returns-clause-comes_back c = ping_back_comes_back

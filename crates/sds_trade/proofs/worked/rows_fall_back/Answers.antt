use Rattle.sds_trade.proofs.FallingComputed.{inserts_stand, updates_stand, deletes_stand, newer_version_wins, version_is_needed}
use Rattle.sds_trade.proofs.worked.rows_fall_back.Goals as goal

pub returns-clause-inserts : goal.returns-clause-inserts
returns-clause-inserts c = inserts_stand

pub returns-clause-updates : goal.returns-clause-updates
returns-clause-updates c = updates_stand

pub returns-clause-deletes : goal.returns-clause-deletes
returns-clause-deletes c = deletes_stand

pub returns-clause-newer : goal.returns-clause-newer
returns-clause-newer c = newer_version_wins

pub returns-clause-needed : goal.returns-clause-needed
returns-clause-needed c = version_is_needed

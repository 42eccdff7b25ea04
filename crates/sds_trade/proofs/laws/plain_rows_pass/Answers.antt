use Rattle.sds_trade.proofs.PlainRows.{plain_changes_are_extracted, plain_rows_are_shaped}
use Rattle.sds_trade.proofs.laws.plain_rows_pass.Goals as goal

pub returns-clause-extracted : goal.returns-clause-extracted
returns-clause-extracted c = plain_changes_are_extracted

pub returns-clause-shaped : goal.returns-clause-shaped
returns-clause-shaped c = plain_rows_are_shaped

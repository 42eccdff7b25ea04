use Rattle.sds_trade.proofs.WritesComputed.{null_name, bad_key, short_row, no_table, null_key}
use Rattle.sds_trade.proofs.worked.writes_break_rules_on_texts.Goals as goal

pub returns-clause-null : goal.returns-clause-null
returns-clause-null c = null_name

pub returns-clause-bad : goal.returns-clause-bad
returns-clause-bad c = bad_key

pub returns-clause-short : goal.returns-clause-short
returns-clause-short c = short_row

pub returns-clause-table : goal.returns-clause-table
returns-clause-table c = no_table

pub returns-clause-key : goal.returns-clause-key
returns-clause-key c = null_key

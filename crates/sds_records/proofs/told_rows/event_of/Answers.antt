use Rattle.sds_records.proofs.Words.{delete_is, insert_is, update_is}
use Rattle.sds_records.proofs.told_rows.event_of.Goals as goal

pub returns-then-is : goal.returns-then-is
returns-then-is c = λ event said. insert_is c.args.word.now event c.is.result c.is.ensures c.if-is.true said

pub returns-then-is-2 : goal.returns-then-is-2
returns-then-is-2 c = λ event said. update_is c.args.word.now event c.is-2.result c.is-2.ensures c.if-is-2.true said

pub returns : goal.returns
returns c = λ event said. delete_is c.args.word.now event c.is.result c.is-2.result c.is.ensures c.if-is.false c.is-2.ensures c.if-is-2.false said

use Rattle.sds_records.proofs.Words.{acked_is, erred_is, new_is}
use Rattle.sds_records.proofs.tellings.told_standing.Goals as goal

pub returns-then-is : goal.returns-then-is
returns-then-is c = λ now held said fields. new_is c.args.word.now now c.is.result c.is.ensures c.if-is.true said

pub returns-then-is-2 : goal.returns-then-is-2
returns-then-is-2 c = λ now held said fields. acked_is c.args.word.now now c.is-2.result c.is-2.ensures c.if-is-2.true said

pub returns : goal.returns
returns c = λ now held said fields. erred_is c.args.word.now c.args.row.now c.args.rule.now now c.is.result c.is-2.result c.erred_of.result c.is.ensures c.if-is.false
    c.is-2.ensures c.if-is-2.false c.erred_of.ensures held said fields

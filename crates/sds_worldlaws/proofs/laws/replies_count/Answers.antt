use Rattle.sds_worldlaws.proofs.AnswersInOrder.{replies_answer_in_order}
use Rattle.sds_worldlaws.proofs.Progress.{taken_replies_count}
use Rattle.sds_worldlaws.proofs.laws.replies_count.Goals as goal

pub returns-clause-order : goal.returns-clause-order
returns-clause-order c = replies_answer_in_order

pub returns-clause-count : goal.returns-clause-count
returns-clause-count c = taken_replies_count

use Rattle.sds_outgoing.proofs.Telling.{error_found, no_error}
use Rattle.sds_outgoing.proofs.standings.last_error.Goals as goal

pub returns-in-Some : goal.returns-in-Some
returns-in-Some c = error_found c.args.batch.now c.args.acks.now c.in-Some.ack.now c.args.batch.now.standing c.erred_by.result c.in-Some.ensures c.erred_by.ensures

pub returns-in-None : goal.returns-in-None
returns-in-None c = no_error c.args.batch.now c.args.acks.now c.args.batch.now.standing c.in-None.ensures

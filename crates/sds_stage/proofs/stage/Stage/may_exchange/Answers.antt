use Rattle.std.specs.Str.{chars}
use Rattle.sds_stage.proofs.Messaged.{made_at, plays_on}
use Rattle.sds_stage.proofs.Staged.{stage_with}
use Rattle.sds_stage.specs.Sending.{Exchanges}
use Rattle.sds_stage.proofs.stage.Stage.may_exchange.Goals as goal

pub returns-in_err-may-clause-stage : goal.returns-in_err-may-clause-stage
returns-in_err-may-clause-stage c = stage_with c.args.self.now c.in-Some.place c.asks_at.new.node c.requires.stage c.in_err-may.ensures.node

pub returns-clause-stage : goal.returns-clause-stage
returns-clause-stage c = stage_with c.args.self.now c.in-Some.place c.asks_at.new.node c.requires.stage c.in_ok-may.ensures.node

pub returns-clause-plays : goal.returns-clause-plays
returns-clause-plays c = λ played plays.
    plays_on c.args.self.now c.deref.result.now (chars c.args.from.now) c.in-Some.place c.index_mut.result.now c.asks_at.new.node played c.deref.ensures.value
    c.in-Some.ensures c.index_mut.ensures.value (λ config stood stands. (c.in_ok-may.ensures.asks config stood stands).0) plays

pub returns-clause-asks : goal.returns-clause-asks
returns-clause-asks c = λ played plays.
    made_at c.args.self.now c.deref.result.now (chars c.args.from.now) c.in-Some.place c.index_mut.result.now
    (λ stood. Exchanges c.args.self.now.config stood (chars c.args.to.now) c.args.action c.in_ok-may.may) played c.deref.ensures.value c.in-Some.ensures
    c.index_mut.ensures.value (λ stood stands. (c.in_ok-may.ensures.asks c.args.self.now.config stood stands).1) plays

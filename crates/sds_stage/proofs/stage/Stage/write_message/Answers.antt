use Rattle.std.proofs.Common.{All, sym, subst}
use Rattle.std.specs.Str.{chars}
use Rattle.sds_doclaws.specs.Writable.{HasFewKeys}
use Rattle.sds_types.specs.declared.config.Config.{Config}
use Rattle.sds_stage.proofs.Messaged.{config_at, made_at, plays_on}
use Rattle.sds_stage.proofs.Staged.{stage_with}
use Rattle.sds_stage.specs.Sending.{Sends}
use Rattle.sds_stage.proofs.stage.Stage.write_message.Goals as goal

pub send_at-requires-clause-few : goal.send_at-requires-clause-few
send_at-requires-clause-few c =
    subst (λ (config : Config). All (HasFewKeys config) config.transforms) (sym (config_at c.args.self.now c.deref.result.now (chars c.args.from.now) c.in-Some.place
    c.index_mut.result.now c.requires.plays.world c.deref.ensures.value c.in-Some.ensures c.index_mut.ensures.value c.requires.plays.plays)) c.requires.few

pub returns-in_err-answer-clause-stage : goal.returns-in_err-answer-clause-stage
returns-in_err-answer-clause-stage c = stage_with c.args.self.now c.in-Some.place c.send_at.new.node c.requires.stage c.in_err-answer.ensures.node

pub returns-clause-stage : goal.returns-clause-stage
returns-clause-stage c = stage_with c.args.self.now c.in-Some.place c.send_at.new.node c.requires.stage c.in_ok-answer.ensures.node

pub returns-clause-plays : goal.returns-clause-plays
returns-clause-plays c = λ played plays.
    plays_on c.args.self.now c.deref.result.now (chars c.args.from.now) c.in-Some.place c.index_mut.result.now c.send_at.new.node played c.deref.ensures.value
    c.in-Some.ensures c.index_mut.ensures.value (λ config stood stands. (c.in_ok-answer.ensures.sends config stood stands).0) plays

pub returns-clause-makes : goal.returns-clause-makes
returns-clause-makes c = λ played plays.
    made_at c.args.self.now c.deref.result.now (chars c.args.from.now) c.in-Some.place c.index_mut.result.now
    (λ stood. Sends c.args.self.now.config stood (chars c.args.to.now) c.args.channels.now c.args.text.now.items c.send_at.new.text.items c.in_ok-answer.answer) played
    c.deref.ensures.value c.in-Some.ensures c.index_mut.ensures.value (λ stood stands. (c.in_ok-answer.ensures.sends c.args.self.now.config stood stands).1) plays

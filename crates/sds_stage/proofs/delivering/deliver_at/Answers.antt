use Rattle.std.proofs.Common.{sym, subst, ◌∙◌, ap, Ok, Err, Result}
use Rattle.std.specs.Str.{chars}
use Rattle.sds_history.specs.world.Delivering.{confirm_at}
use Rattle.sds_history.specs.world.Sending.{may_take}
use Rattle.sds_types.specs.declared.node_fault.NodeFault.{NodeFault}
use Rattle.sds_stage.specs.Standing.{Stands}
use Rattle.sds_stage.proofs.Called.{if_ok}
use Rattle.sds_stage.proofs.Delivered.{loaded_by, lost_by, refused_by}
use Rattle.sds_stage.proofs.Messaged.{seen_of}
use Rattle.sds_stage.proofs.delivering.deliver_at.Goals as goal

pub returns-then-not-may_take-clause-takes : goal.returns-then-not-may_take-clause-takes
returns-then-not-may_take-clause-takes c = λ config stood sender to parts stands text.
    let stays = c.in_ok-settle_at.ensures.stands config stood stands in
    lost_by config sender to parts (chars c.args.from.now) c.args.mentions.now stood (Stands config c.settle_at.new.node)
    (sym (seen_of (λ under state. may_take under state (chars c.args.from.now)) config c.settle_at.new.node stood stays c.in_ok-settle_at.ensures.sure)
    ∙ (sym c.may_take.ensures ∙ c.if-not-may_take.true)) stays

pub returns-in-Err-clause-takes : goal.returns-in-Err-clause-takes
returns-in-Err-clause-takes c = λ config stood sender to parts stands text.
    let stays = c.in_ok-settle_at.ensures.stands config stood stands in
    let went = c.in_ok-fault.ensures.goes config stood stays in
    refused_by config sender to parts (chars c.args.from.now) c.args.mentions.now stood c.in-Err.fault (Stands config c.confirm_at.new.node)
    (sym (seen_of (λ under state. may_take under state (chars c.args.from.now)) config c.settle_at.new.node stood stays c.in_ok-settle_at.ensures.sure)
    ∙ (sym c.may_take.ensures ∙ c.if-not-may_take.false)) (sym went.result_is ∙ c.in-Err.is) went.stands

pub returns-clause-takes : goal.returns-clause-takes
returns-clause-takes c =
    if_ok c.load_text.result c.load_text.ensures.loads (λ answer loads config stood sender to parts stands text.
    let stays = c.in_ok-settle_at.ensures.stands config stood stands in
    let went = c.in_ok-fault.ensures.goes config stood stays in
    loaded_by config sender to parts (chars c.args.from.now) c.args.mentions.now stood (Stands config c.load_text.new.node) answer
    (sym (seen_of (λ under state. may_take under state (chars c.args.from.now)) config c.settle_at.new.node stood stays c.in_ok-settle_at.ensures.sure)
    ∙ (sym c.may_take.ensures ∙ c.if-not-may_take.false)) (sym went.result_is ∙ c.in_default.is)
    (loads config (confirm_at config stood (chars c.args.from.now)).node sender to parts went.stands text))

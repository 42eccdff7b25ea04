use Rattle.std.proofs.Common.{◌≡◌, sym, ◌∙◌}
use Rattle.std.specs.Str.{chars}
use Rattle.sds_world.proofs.Exchanged.{exchanged_answered, exchanged_delivered, exchanged_sent}
use Rattle.sds_world.proofs.Rehearsed.{on_ok}
use Rattle.sds_world.proofs.rehearsal.Rehearsal.exchange.Goals as goal

pub returns-in_default-clause-exchanges : goal.returns-in_default-clause-exchanges
returns-in_default-clause-exchanges c =
    exchanged_sent c.args.self.now c.send.new.self c.args.out.now.items c.send.new.out.items (chars c.args.from.now) (chars c.args.to.now) c.in_ok-message.ensures.plays
    (λ played plays. sym c.in_default.is ∙ c.in_ok-message.ensures.next played plays)

pub returns-in_default-2-clause-exchanges : goal.returns-in_default-2-clause-exchanges
returns-in_default-2-clause-exchanges c =
    exchanged_delivered c.args.self.now c.send.new.self c.deliver.new.self c.args.out.now.items c.send.new.out.items c.deliver.new.out.items (chars c.args.from.now)
    (chars c.args.to.now) c.in-Some.message c.in_ok-message.ensures.plays (λ played plays. sym c.in-Some.is ∙ c.in_ok-message.ensures.next played plays)
    c.in_ok-reply.ensures.plays (λ played plays. sym c.in_default-2.is ∙ c.in_ok-reply.ensures.next played plays)

pub returns-clause-exchanges : goal.returns-clause-exchanges
returns-clause-exchanges c =
    on_ok c.answer.result c.answer.ensures.plays (λ answers.
    exchanged_answered c.args.self.now c.send.new.self c.deliver.new.self c.answer.new.self c.args.out.now.items c.send.new.out.items c.deliver.new.out.items
    c.answer.new.out.items (chars c.args.from.now) (chars c.args.to.now) c.in-Some.message c.in-Some-2.reply c.in_ok-message.ensures.plays
    (λ played plays. sym c.in-Some.is ∙ c.in_ok-message.ensures.next played plays)
    c.in_ok-reply.ensures.plays (λ played plays. sym c.in-Some-2.is ∙ c.in_ok-reply.ensures.next played plays) answers)

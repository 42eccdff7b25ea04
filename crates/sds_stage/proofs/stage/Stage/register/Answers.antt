use Rattle.std.proofs.Common.{◌∙◌, sym, ap}
use Rattle.std.specs.Prelude.{Ok}
use Rattle.std.specs.Str.{chars}
use Rattle.sds_stage.proofs.Registered.{asked_join, asks_at, named_at, played_joined, played_refused, put_me}
use Rattle.sds_stage.proofs.Staged.{on_ok, stage_with}
use Rattle.sds_stage.proofs.stage.Stage.register.Goals as goal

pub register_at-requires-clause-asked : goal.register_at-requires-clause-asked
register_at-requires-clause-asked c =
    named_at c.args.self.now.nodes.items c.deref.result.now (chars c.args.asks.now) c.in-Some.child c.index.result.now c.in_ok-asking.asking
    c.deref.ensures.value c.in-Some.ensures c.index.ensures c.requires.stage.nodes (c.in_ok-asking.ensures ∙ c.me.ensures)

pub returns-in_err-answer-clause-stage : goal.returns-in_err-answer-clause-stage
returns-in_err-answer-clause-stage c =
    stage_with c.args.self.now c.in-Some-place_in.place c.register_at.new.node c.requires.stage c.in_err-answer.ensures.node

pub returns-in_err-other-clause-stage : goal.returns-in_err-other-clause-stage
returns-in_err-other-clause-stage c =
    stage_with c.args.self.now c.in-Some-place_in.place c.register_at.new.node c.requires.stage c.in_ok-answer.ensures.node

pub join-requires-clause-stage : goal.join-requires-clause-stage
join-requires-clause-stage c =
    stage_with c.args.self.now c.in-Some-place_in.place c.register_at.new.node c.requires.stage c.in_ok-answer.ensures.node

pub join-requires-clause-asked : goal.join-requires-clause-asked
join-requires-clause-asked c =
    asked_join c.register_at.new.node c.in_ok-other.other (chars c.as_str.result.now) c.in_ok-answer.answer c.in_ok-answer.ensures.node
    (put_me c.args.self.now.nodes.items c.deref-2.result.now (chars c.args.at.now) c.in-Some-place_in.place c.register_at.new.node c.index-2.result.now c.in_ok-other.other
    c.deref-2.ensures.value c.in-Some-place_in.ensures c.index-2.ensures (c.in_ok-other.ensures ∙ c.me-2.ensures))
    c.in_ok-answer.ensures.token (c.in-Ok.is ∙ ap Ok (sym c.as_str.ensures.chars))

pub returns-in-Ok-clause-plays : goal.returns-in-Ok-clause-plays
returns-in-Ok-clause-plays c =
    on_ok c.join.result c.join.ensures.goes (λ joins. played_joined c.args.self.now c.join.new.self (chars c.args.asks.now) (chars c.args.at.now)
    (chars c.as_str.result.now) c.in-Some-place_in.place c.register_at.new.node c.in_ok-answer.answer c.in_ok-other.other c.args.out.now.items c.join.new.out.items
    (c.in-Ok.is ∙ ap Ok (sym c.as_str.ensures.chars))
    (asks_at c.args.self.now c.deref.result.now c.deref-2.result.now (chars c.args.asks.now) (chars c.args.at.now) c.in-Some.child c.in-Some-place_in.place
    c.index.result.now c.index_mut.result.now c.register_at.new.node c.in_ok-asking.asking c.in_ok-answer.answer c.deref.ensures.value c.in-Some.ensures
    c.deref-2.ensures.value c.in-Some-place_in.ensures c.index.ensures (c.in_ok-asking.ensures ∙ c.me.ensures) c.index_mut.ensures.value c.in_ok-answer.ensures.goes)
    (put_me c.args.self.now.nodes.items c.deref-2.result.now (chars c.args.at.now) c.in-Some-place_in.place c.register_at.new.node c.index-2.result.now c.in_ok-other.other
    c.deref-2.ensures.value c.in-Some-place_in.ensures c.index-2.ensures (c.in_ok-other.ensures ∙ c.me-2.ensures)) joins)

pub returns-clause-stage : goal.returns-clause-stage
returns-clause-stage c =
    stage_with c.args.self.now c.in-Some-place_in.place c.register_at.new.node c.requires.stage c.in_ok-answer.ensures.node

pub returns-clause-plays : goal.returns-clause-plays
returns-clause-plays c =
    on_ok c.put_registering.result c.put_registering.ensures.ok (λ writes. played_refused c.args.self.now (chars c.args.asks.now) (chars c.args.at.now)
    c.in-Some-place_in.place c.register_at.new.node c.in_ok-answer.answer c.in-Err.refusal c.args.out.now.items c.put_registering.new.out.items c.in-Err.is
    (asks_at c.args.self.now c.deref.result.now c.deref-2.result.now (chars c.args.asks.now) (chars c.args.at.now) c.in-Some.child c.in-Some-place_in.place
    c.index.result.now c.index_mut.result.now c.register_at.new.node c.in_ok-asking.asking c.in_ok-answer.answer c.deref.ensures.value c.in-Some.ensures
    c.deref-2.ensures.value c.in-Some-place_in.ensures c.index.ensures (c.in_ok-asking.ensures ∙ c.me.ensures) c.index_mut.ensures.value c.in_ok-answer.ensures.goes)
    writes)

use Rattle.std.proofs.Common.{◌≡◌, Option, Some, None, Result, refl, subst, sym, ap, ◌∙◌}
use Rattle.std.specs.Prelude.{ℕ, ◌++◌, IfOk, IfSome, IsTrue, List, [], OnOk, slice_get}
use Rattle.std.specs.List.{All, list_all}
use Rattle.std.specs.Str.{chars}
use Rattle.sds_nodelaws.specs.Asked.{is_ack}
use Rattle.sds_types.specs.declared.ack.Ack.{Ack}
use Rattle.sds_types.specs.declared.message.Reply.{Reply}
use Rattle.sds_types.specs.declared.sync.SyncRefusal.{SyncRefusal}
use Rattle.sds_types.specs.declared.world_event.WorldEvent.TheVariants as event
use Rattle.sds_screen.specs.Lines.{delivering_line}
use Rattle.sds_stage.specs.Playing as stage
use Rattle.sds_world.specs.Messages.{place_next, replies_more, reply_answer}
use Rattle.sds_world.proofs.Delivered.{IsAcked, acked_more, delivers_by, delivers_nowhere, delivers_some, replies_nowhere, replies_some, same_reply}
use Rattle.sds_world.proofs.Rehearsed.{both_ok, found_at, if_ok, on_ok, rehearses, with_stage}
use Rattle.sds_world.proofs.rehearsal.Rehearsal.deliver.Goals as goal

pub returns-in_default-2-clause-plays : goal.returns-in_default-2-clause-plays
returns-in_default-2-clause-plays c = λ played plays fresh.
    let went = delivers_by c.args.self.now c.deliver.new.self played c.args.number c.args.mentions.now c.deref-2.result.now (chars c.as_str-from.result.now)
    (chars c.as_str-to.result.now) c.in-Some.message.now c.in_ok-answer.field-0 None plays
    (found_at c.args.self.now.messages.items c.deref.result.now c.args.number c.place_of.result c.in-Some.message.now c.deref.ensures.value c.place_of.ensures
    c.in-Some.ensures.lookup.3.0 c.in-Some.ensures.lookup.3.1)
    c.as_str-from.ensures.chars c.as_str-to.ensures.chars (c.deref-2.ensures.value ∙ c.inner-text.ensures) c.in_default-2.is
    (λ made from to. c.in_ok-answer.ensures.delivers played made plays.stage from to) in
    delivers_nowhere c.args.self.now (with_stage c.args.self.now c.deliver.new.self) c.deliver.new.self played c.args.number c.args.mentions.now c.args.out.now.items
    c.in-Some.message.now went.made c.requires.rehearsal.stage.config plays (record { nodes = refl; messages_are = refl; replies_are = refl })
    (record { config = c.in_ok-answer.ensures.config; noise = c.in_ok-answer.ensures.noise }) went.found went.happens

pub returns-in_default-2-clause-rehearsal : goal.returns-in_default-2-clause-rehearsal
returns-in_default-2-clause-rehearsal c =
    rehearses c.args.self.now (with_stage c.args.self.now c.deliver.new.self) c.args.out.now.items c.args.out.now.items
    (event.Deliver c.args.number c.args.mentions.now) c.requires.rehearsal c.in_ok-answer.ensures.stage (returns-in_default-2-clause-plays c) tt c.requires.rehearsal.replies

pub returns-in_default-2-clause-next : goal.returns-in_default-2-clause-next
returns-in_default-2-clause-next c = λ played plays.
    let went = delivers_by c.args.self.now c.deliver.new.self played c.args.number c.args.mentions.now c.deref-2.result.now (chars c.as_str-from.result.now)
    (chars c.as_str-to.result.now) c.in-Some.message.now c.in_ok-answer.field-0 None plays
    (found_at c.args.self.now.messages.items c.deref.result.now c.args.number c.place_of.result c.in-Some.message.now c.deref.ensures.value c.place_of.ensures
    c.in-Some.ensures.lookup.3.0 c.in-Some.ensures.lookup.3.1)
    c.as_str-from.ensures.chars c.as_str-to.ensures.chars (c.deref-2.ensures.value ∙ c.inner-text.ensures) c.in_default-2.is
    (λ made from to. c.in_ok-answer.ensures.delivers played made plays.stage from to) in
    replies_nowhere c.args.self.now.stage.config c.deliver.new.self played c.args.number c.args.mentions.now went.made went.found went.happens

pub returns-clause-plays : goal.returns-clause-plays
returns-clause-plays c =
    both_ok c.keep_reply.result c.keep_reply.ensures.replies c.keep_reply.ensures.writes (λ replies writes played plays fresh.
    let went = delivers_by c.args.self.now c.deliver.new.self played c.args.number c.args.mentions.now c.deref-2.result.now (chars c.as_str-from.result.now)
    (chars c.as_str-to.result.now) c.in-Some.message.now c.in_ok-answer.field-0 (Some c.in-Some-2.answer) plays
    (found_at c.args.self.now.messages.items c.deref.result.now c.args.number c.place_of.result c.in-Some.message.now c.deref.ensures.value c.place_of.ensures
    c.in-Some.ensures.lookup.3.0 c.in-Some.ensures.lookup.3.1)
    c.as_str-from.ensures.chars c.as_str-to.ensures.chars (c.deref-2.ensures.value ∙ c.inner-text.ensures) c.in-Some-2.is
    (λ made from to. c.in_ok-answer.ensures.delivers played made plays.stage from to) in
    let same = same_reply c.args.self.now.stage.config played c.in-Some.message.now went.made c.in-Some-2.answer c.in_ok-made.made c.in_ok-made.ensures went.is in
    delivers_some c.args.self.now c.keep_reply.new.self c.deliver.new.self played c.args.number c.args.mentions.now c.args.out.now.items c.keep_reply.new.out.items
    went.made c.in-Some-2.answer c.requires.rehearsal.stage.config plays
    (record {
      nodes = c.keep_reply.ensures.stage;
      messages_are = c.keep_reply.ensures.messages;
      replies_are = replies ∙ ap (λ (r : Result Reply SyncRefusal). replies_more c.args.self.now.replies.items r) same;
    })
    (record { config = c.in_ok-answer.ensures.config; noise = c.in_ok-answer.ensures.noise }) went.found went.happens
    (writes ∙ ap (λ (r : Result Reply SyncRefusal). c.args.out.now.items ++ delivering_line c.args.number (reply_answer c.args.self.now.replies.items r)) same))

pub returns-clause-rehearsal : goal.returns-clause-rehearsal
returns-clause-rehearsal c =
    both_ok c.keep_reply.result (returns-clause-plays c) c.keep_reply.ensures.replies (λ plays replies. rehearses c.args.self.now c.keep_reply.new.self c.args.out.now.items
    c.keep_reply.new.out.items (event.Deliver c.args.number c.args.mentions.now) c.requires.rehearsal
    (subst stage.IsStage (sym c.keep_reply.ensures.stage) c.in_ok-answer.ensures.stage) plays tt
    (subst (All IsAcked) (sym (replies ∙ ap (λ (r : Result Reply SyncRefusal). replies_more c.args.self.now.replies.items r) c.in_ok-made.ensures))
    (acked_more c.args.self.now.replies.items c.in-Some.message.now.to c.in-Some.message.now.from c.in-Some-2.answer c.requires.rehearsal.replies
    (subst (λ (o : Option (Result (List Ack) SyncRefusal)). IfSome o (λ end. IfOk end (λ acks. IsTrue (list_all is_ack acks)))) c.in-Some-2.is c.in_ok-answer.ensures.acks))))

pub returns-clause-next : goal.returns-clause-next
returns-clause-next c =
    if_ok c.keep_reply.result c.keep_reply.ensures.next (λ next is played plays.
    let went = delivers_by c.args.self.now c.deliver.new.self played c.args.number c.args.mentions.now c.deref-2.result.now (chars c.as_str-from.result.now)
    (chars c.as_str-to.result.now) c.in-Some.message.now c.in_ok-answer.field-0 (Some c.in-Some-2.answer) plays
    (found_at c.args.self.now.messages.items c.deref.result.now c.args.number c.place_of.result c.in-Some.message.now c.deref.ensures.value c.place_of.ensures
    c.in-Some.ensures.lookup.3.0 c.in-Some.ensures.lookup.3.1)
    c.as_str-from.ensures.chars c.as_str-to.ensures.chars (c.deref-2.ensures.value ∙ c.inner-text.ensures) c.in-Some-2.is
    (λ made from to. c.in_ok-answer.ensures.delivers played made plays.stage from to) in
    let same = same_reply c.args.self.now.stage.config played c.in-Some.message.now went.made c.in-Some-2.answer c.in_ok-made.made c.in_ok-made.ensures went.is in
    is ∙ (ap (λ (r : Result Reply SyncRefusal). place_next c.args.self.now.replies.items r) same
    ∙ replies_some c.args.self.now c.deliver.new.self played c.args.number c.args.mentions.now went.made c.in-Some-2.answer plays went.found went.happens))

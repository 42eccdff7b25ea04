use Rattle.std.proofs.Common.{◌≡◌, Option, Some, None, Result, refl, subst}
use Rattle.std.specs.Prelude.{ℕ, List, OnOk, slice_get}
use Rattle.sds_types.specs.declared.ack.AckRefusal.{AckRefusal}
use Rattle.sds_types.specs.declared.world_event.WorldEvent.TheVariants as event
use Rattle.sds_stage.specs.Sending as stages
use Rattle.sds_world.specs.Playing.{Plays}
use Rattle.sds_world.proofs.Delivered.{answers_nowhere, answers_some}
use Rattle.sds_world.proofs.Rehearsed.{both_ok, found_at, on_ok, rehearses, with_stage}
use Rattle.sds_world.proofs.rehearsal.Rehearsal.answer.Goals as goal

pub returns-in_default-2-clause-plays : goal.returns-in_default-2-clause-plays
returns-in_default-2-clause-plays c = λ played plays fresh.
    answers_nowhere c.args.self.now (with_stage c.args.self.now c.answer.new.self) c.answer.new.self played c.args.number c.args.out.now.items c.in-Some.reply.now
    c.requires.rehearsal.stage.config plays (record { nodes = refl; messages_are = refl; replies_are = refl })
    (record { config = c.in_ok-answer.ensures.config; noise = c.in_ok-answer.ensures.noise })
    (found_at c.args.self.now.replies.items c.deref.result.now c.args.number c.place_of.result c.in-Some.reply.now c.deref.ensures.value c.place_of.ensures
    c.in-Some.ensures.lookup.3.0 c.in-Some.ensures.lookup.3.1)
    (subst (λ (o : Option (Result ℕ AckRefusal)). stages.HasAnswered c.args.self.now.stage c.answer.new.self played c.in-Some.reply.now o) c.in_default-2.is
    (c.in_ok-answer.ensures.answers played plays.stage))

pub returns-in_default-2-clause-rehearsal : goal.returns-in_default-2-clause-rehearsal
returns-in_default-2-clause-rehearsal c =
    rehearses c.args.self.now (with_stage c.args.self.now c.answer.new.self) c.args.out.now.items c.args.out.now.items (event.Answer c.args.number) c.requires.rehearsal
    c.in_ok-answer.ensures.stage (λ played plays fresh.
    answers_nowhere c.args.self.now (with_stage c.args.self.now c.answer.new.self) c.answer.new.self played c.args.number c.args.out.now.items c.in-Some.reply.now
    c.requires.rehearsal.stage.config plays (record { nodes = refl; messages_are = refl; replies_are = refl })
    (record { config = c.in_ok-answer.ensures.config; noise = c.in_ok-answer.ensures.noise })
    (found_at c.args.self.now.replies.items c.deref.result.now c.args.number c.place_of.result c.in-Some.reply.now c.deref.ensures.value c.place_of.ensures
    c.in-Some.ensures.lookup.3.0 c.in-Some.ensures.lookup.3.1)
    (subst (λ (o : Option (Result ℕ AckRefusal)). stages.HasAnswered c.args.self.now.stage c.answer.new.self played c.in-Some.reply.now o) c.in_default-2.is
    (c.in_ok-answer.ensures.answers played plays.stage))) tt c.requires.rehearsal.replies

pub returns-clause-plays : goal.returns-clause-plays
returns-clause-plays c =
    on_ok c.put_answering.result c.put_answering.ensures.ok (λ writes played plays fresh.
    answers_some c.args.self.now (with_stage c.args.self.now c.answer.new.self) c.answer.new.self played c.args.number c.args.out.now.items c.put_answering.new.out.items
    c.in-Some.reply.now c.in-Some-2.answer c.requires.rehearsal.stage.config plays (record { nodes = refl; messages_are = refl; replies_are = refl })
    (record { config = c.in_ok-answer.ensures.config; noise = c.in_ok-answer.ensures.noise })
    (found_at c.args.self.now.replies.items c.deref.result.now c.args.number c.place_of.result c.in-Some.reply.now c.deref.ensures.value c.place_of.ensures
    c.in-Some.ensures.lookup.3.0 c.in-Some.ensures.lookup.3.1)
    (subst (λ (o : Option (Result ℕ AckRefusal)). stages.HasAnswered c.args.self.now.stage c.answer.new.self played c.in-Some.reply.now o) c.in-Some-2.is
    (c.in_ok-answer.ensures.answers played plays.stage)) writes)

pub returns-clause-rehearsal : goal.returns-clause-rehearsal
returns-clause-rehearsal c =
    on_ok c.put_answering.result c.put_answering.ensures.ok (λ writes. rehearses c.args.self.now (with_stage c.args.self.now c.answer.new.self) c.args.out.now.items
    c.put_answering.new.out.items (event.Answer c.args.number) c.requires.rehearsal c.in_ok-answer.ensures.stage (λ played plays fresh.
    answers_some c.args.self.now (with_stage c.args.self.now c.answer.new.self) c.answer.new.self played c.args.number c.args.out.now.items c.put_answering.new.out.items
    c.in-Some.reply.now c.in-Some-2.answer c.requires.rehearsal.stage.config plays (record { nodes = refl; messages_are = refl; replies_are = refl })
    (record { config = c.in_ok-answer.ensures.config; noise = c.in_ok-answer.ensures.noise })
    (found_at c.args.self.now.replies.items c.deref.result.now c.args.number c.place_of.result c.in-Some.reply.now c.deref.ensures.value c.place_of.ensures
    c.in-Some.ensures.lookup.3.0 c.in-Some.ensures.lookup.3.1)
    (subst (λ (o : Option (Result ℕ AckRefusal)). stages.HasAnswered c.args.self.now.stage c.answer.new.self played c.in-Some.reply.now o) c.in-Some-2.is
    (c.in_ok-answer.ensures.answers played plays.stage)) writes) tt c.requires.rehearsal.replies)

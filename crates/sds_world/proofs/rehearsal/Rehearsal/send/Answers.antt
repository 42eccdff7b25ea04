use Rattle.std.proofs.Common.{◌≡◌, Option, Some, None, Result, refl, subst, sym}
use Rattle.std.specs.Prelude.{ℕ, IsTrue, List, [], OnOk}
use Rattle.std.specs.List.{All, list_all}
use Rattle.std.specs.Str.{chars}
use Rattle.sds_nodelaws.specs.Asked.{is_ack}
use Rattle.sds_types.specs.declared.message.Reply.{Reply}
use Rattle.sds_types.specs.declared.sync.SyncRefusal.{SyncRefusal}
use Rattle.sds_types.specs.declared.world_event.WorldEvent.TheVariants as event
use Rattle.sds_stage.specs.Sending as stages
use Rattle.sds_stage.specs.Playing as stage
use Rattle.sds_stage.specs.declared.stage.Stage.{Stage}
use Rattle.sds_world.specs.Messages.{sent_answer, sent_more}
use Rattle.sds_world.specs.Playing.{Plays}
use Rattle.sds_world.proofs.Messaged.{sends_some}
use Rattle.sds_world.proofs.Rehearsed.{both_ok, on_ok, rehearses}
use Rattle.sds_world.proofs.rehearsal.Rehearsal.send.Goals as goal

pub returns-clause-plays : goal.returns-clause-plays
returns-clause-plays c =
    both_ok c.keep_message.result c.keep_message.ensures.messages c.keep_message.ensures.writes (λ messages writes played plays fresh.
    sends_some c.args.self.now c.keep_message.new.self c.write_message.new.self played (chars c.args.from.now) (chars c.args.to.now) c.args.channels.now
    c.write_message.new.text.items c.args.out.now.items c.keep_message.new.out.items c.in-Some.answer c.requires.rehearsal.stage.config plays
    (record { nodes = c.keep_message.ensures.stage; messages_are = messages; replies_are = c.keep_message.ensures.replies })
    (record { config = c.in_ok-answer.ensures.config; noise = c.in_ok-answer.ensures.noise })
    (c.in_ok-answer.ensures.plays played plays.stage)
    (subst (λ (l : List ℕ). stages.MakesMessage c.args.self.now.stage.config played (chars c.args.from.now) (chars c.args.to.now) c.args.channels.now l
    c.write_message.new.text.items (Some c.in-Some.answer)) c.new-text.ensures.items
    (subst (λ (o : Option (Result ℕ SyncRefusal)). stages.MakesMessage c.args.self.now.stage.config played (chars c.args.from.now) (chars c.args.to.now)
    c.args.channels.now c.new-text.result.items c.write_message.new.text.items o) c.in-Some.is (c.in_ok-answer.ensures.makes played plays.stage)))
    writes)

pub returns-clause-rehearsal : goal.returns-clause-rehearsal
returns-clause-rehearsal c =
    on_ok c.keep_message.result (returns-clause-plays c) (λ plays. rehearses c.args.self.now c.keep_message.new.self c.args.out.now.items c.keep_message.new.out.items
    (event.Send (chars c.args.from.now) (chars c.args.to.now) c.args.channels.now) c.requires.rehearsal
    (subst stage.IsStage (sym c.keep_message.ensures.stage) c.in_ok-answer.ensures.stage) plays tt
    (subst (λ (l : List Reply). All (λ (reply : Reply). IsTrue (list_all is_ack reply.acks)) l) (sym c.keep_message.ensures.replies) c.requires.rehearsal.replies))

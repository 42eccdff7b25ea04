use Rattle.std.proofs.Common.{sym, subst}
use Rattle.sds_world.specs.Playing.{IsRehearsal, PlaysWorld}
use Rattle.sds_world.specs.declared.rehearsal.Rehearsal.{Rehearsal}
use Rattle.sds_world.proofs.TakenLines.{asked_after, new_after, scene_by_step, sound_after, text_by_step}
use Rattle.sds_world.proofs.play.Play.play_line.Goals as goal

pub happen-requires-clause-play : goal.happen-requires-clause-play
happen-requires-clause-play c = record {
  rehearsal = subst IsRehearsal (sym c.in_ok-event.ensures.rehearsal) c.requires.play.rehearsal;
  draft = sound_after c.args.self.now.draft c.step.new.self.draft c.args.line c.requires.play.draft c.requires.said c.in_ok-event.ensures.draft;
}

pub happen-requires-clause-asked : goal.happen-requires-clause-asked
happen-requires-clause-asked c =
    asked_after c.args.self.now.rehearsal.stage.config c.args.self.now.draft c.args.line c.in_ok-event.event c.requires.play.draft c.requires.said c.in_ok-event.ensures.event

pub happen-requires-clause-new : goal.happen-requires-clause-new
happen-requires-clause-new c = λ world plays.
    new_after c.args.self.now c.args.line c.in_ok-event.event c.requires.stands c.in_ok-event.ensures.event world
    (subst (λ (r : Rehearsal). PlaysWorld r world) c.in_ok-event.ensures.rehearsal plays)

pub returns-clause-prints : goal.returns-clause-prints
returns-clause-prints c =
    text_by_step c.args.self.now c.step.new.self c.happen.new.self.screen.items c.args.line c.in_ok-event.event c.happen.result
    c.in_ok-event.ensures.rehearsal c.in_ok-event.ensures.screen c.in_ok-event.ensures.event c.happen.ensures.prints

pub returns-clause-scene : goal.returns-clause-scene
returns-clause-scene c =
    scene_by_step c.args.self.now c.step.new.self c.happen.new.self c.args.line c.in_ok-event.event c.happen.result c.in_ok-event.ensures.rehearsal
    c.in_ok-event.ensures.event c.in_ok-event.ensures.draft c.happen.ensures.draft c.happen.ensures.world

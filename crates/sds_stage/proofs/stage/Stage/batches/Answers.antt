use Rattle.std.proofs.Common.{refl}
use Rattle.std.specs.Str.{chars}
use Rattle.sds_types.specs.declared.world_event.WorldEvent.TheVariants as event
use Rattle.sds_history.specs.world.Happened.Told.{Batches}
use Rattle.sds_screen.specs.Listed.{batches_text}
use Rattle.sds_stage.proofs.Reopened.{plays_shown}
use Rattle.sds_stage.proofs.Staged.{on_ok, stage_with}
use Rattle.sds_stage.proofs.stage.Stage.batches.Goals as goal

pub returns-clause-stage : goal.returns-clause-stage
returns-clause-stage c =
    stage_with c.args.self.now c.in-Some.place c.batches_at.new.node c.requires.stage c.batches_at.ensures.node

pub returns-clause-plays : goal.returns-clause-plays
returns-clause-plays c =
    on_ok c.batches_at.result c.batches_at.ensures.shows (λ shows. plays_shown c.args.self.now c.deref.result.now (chars c.args.id.now) c.in-Some.place
    c.index_mut.result.now c.batches_at.new.node c.args.out.now.items c.batches_at.new.out.items batches_text (Batches (chars c.args.id.now)) (event.Batches (chars c.args.id.now))
    c.deref.ensures.value c.in-Some.ensures c.index_mut.ensures.value shows (λ played. refl) (λ played. refl))

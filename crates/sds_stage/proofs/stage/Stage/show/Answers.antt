use Rattle.std.proofs.Common.{refl}
use Rattle.std.specs.Str.{chars}
use Rattle.sds_types.specs.declared.world_event.WorldEvent.TheVariants as event
use Rattle.sds_history.specs.world.Happened.Told.{Tables}
use Rattle.sds_screen.specs.Shown.{tables_text}
use Rattle.sds_stage.proofs.Reopened.{plays_shown}
use Rattle.sds_stage.proofs.Staged.{on_ok, stage_with}
use Rattle.sds_stage.proofs.stage.Stage.show.Goals as goal

pub returns-clause-stage : goal.returns-clause-stage
returns-clause-stage c =
    stage_with c.args.self.now c.in-Some.place c.show_at.new.node c.requires.stage c.show_at.ensures.node

pub returns-clause-plays : goal.returns-clause-plays
returns-clause-plays c =
    on_ok c.show_at.result c.show_at.ensures.shows (λ shows. plays_shown c.args.self.now c.deref.result.now (chars c.args.id.now) c.in-Some.place
    c.index_mut.result.now c.show_at.new.node c.args.out.now.items c.show_at.new.out.items tables_text (Tables (chars c.args.id.now)) (event.Show (chars c.args.id.now))
    c.deref.ensures.value c.in-Some.ensures c.index_mut.ensures.value shows (λ played. refl) (λ played. refl))

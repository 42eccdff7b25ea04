use Rattle.std.proofs.Common.{◌≡◌, ◌∷◌, ◌++◌, sym, subst, ◌∙◌}
use Rattle.sds_first_world.specs.declared.line.Line.{Line}
use Rattle.sds_first_world.specs.Shapes.{Behind, printed_line}
use Rattle.sds_first_world.proofs.Stepping.{with_event, with_none}
use Rattle.sds_first_world.proofs.game.Game.play_line.Goals as goal

pub returns-in_ok-happen-clause-plays : goal.returns-in_ok-happen-clause-plays
returns-in_ok-happen-clause-plays c = λ it older few b.
    subst (λ (l : Line). Behind (l ∷ older) c.take_sound.new.place c.happen.new.self × (c.happen.new.out.items ≡ c.args.self.now.screen.items ++ printed_line older l)) c.in_ok-line.ensures.said
    (with_event older c.args.self.now.place c.take_sound.new.place c.args.self.now.stage c.happen.new.self c.in_ok-line.line c.in-Some.event c.args.self.now.screen.items c.happen.new.out.items c.in_ok-line.ensures.sound
    (sym (c.may_stand.ensures.fits older b) ∙ c.if-not-may_stand.false) few (sym c.in-Some.is ∙ c.in_ok-event.ensures.happens) c.in_ok-event.ensures.behind c.in_ok-happen.ensures b)

pub returns-in_default-clause-plays : goal.returns-in_default-clause-plays
returns-in_default-clause-plays c = λ it older few b.
    subst (λ (l : Line). Behind (l ∷ older) c.take_sound.new.place c.args.self.now.stage × (c.args.self.now.screen.items ≡ c.args.self.now.screen.items ++ printed_line older l)) c.in_ok-line.ensures.said
    (with_none older c.args.self.now.place c.take_sound.new.place c.args.self.now.stage c.in_ok-line.line c.args.self.now.screen.items c.in_ok-line.ensures.sound
    (sym (c.may_stand.ensures.fits older b) ∙ c.if-not-may_stand.false) (sym c.in_default.is ∙ c.in_ok-event.ensures.happens) c.in_ok-event.ensures.behind b)

use Rattle.std.proofs.Common.{List, ℕ, inl, inr, refl, subst}
use Rattle.sds_first_world.proofs.Answering.{unshown, shows_all, RefusedAs, ShownAs}
use Rattle.sds_first_world.proofs.rehearsal.play.Goals as goal

pub returns-in-Err-Fault-clause-shows : goal.returns-in-Err-Fault-clause-shows
returns-in-Err-Fault-clause-shows g c = unshown c.args.is_built _ _ _ (inl refl)

pub returns-in-Err-NoMemory-clause-shows : goal.returns-in-Err-NoMemory-clause-shows
returns-in-Err-NoMemory-clause-shows g c = unshown c.args.is_built _ _ _ (inr refl)

pub returns-in-Err-clause-shows : goal.returns-in-Err-clause-shows
returns-in-Err-clause-shows g c = unshown c.args.is_built _ _ _ (inr refl)

pub returns-clause-shows : goal.returns-clause-shows
returns-clause-shows g c =
    shows_all c.args.is_built _ c.in-Ok.read.bytes.items c.in-Ok-play_text.played.screen.items c.in-Ok.read.is_over c.in-Ok-play_text.played.bad c.show.result _ _ c.in-Ok.ensures.front
    (subst (λ (l : List ℕ). RefusedAs c.args.is_built l c.in-Ok.read.is_over c.in-Ok-play_text.played.bad) c.deref.ensures.value c.in-Ok-play_text.ensures.bad)
    (subst (λ (l : List ℕ). ShownAs c.args.is_built l c.in-Ok.read.is_over c.in-Ok-play_text.played.screen.items) c.deref.ensures.value c.in-Ok-play_text.ensures.screen)
    c.show.ensures.ends c.show.ensures.part

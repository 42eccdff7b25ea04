use Rattle.symds.proofs.Telling.{read_so, refused_so, refused_by, never_refused}
use Rattle.symds.proofs.command.play.Goals as goal

pub returns-in-Err-clause-tells : goal.returns-in-Err-clause-tells
returns-in-Err-clause-tells g c = refused_so _ _ c.in-Err.status _ c.in-Err.ensures.other c.in-Err.ensures.refused

pub returns-in-Err-clause-refused : goal.returns-in-Err-clause-refused
returns-in-Err-clause-refused g c = refused_by _ c.in-Err.status _ c.in-Err.ensures.refused

pub returns-clause-tells : goal.returns-clause-tells
returns-clause-tells g c = read_so _ _ c.in-Ok.config c.play_under.result _ _ c.in-Ok.ensures.ok c.play_under.ensures.tells c.play_under.ensures.unbuilt

pub returns-clause-refused : goal.returns-clause-refused
returns-clause-refused g c = never_refused _ c.in-Ok.config c.play_under.result _ _ c.in-Ok.ensures.ok

use Rattle.std.proofs.Common.{true, false}
use Rattle.symds.proofs.Telling.{told_so}
use Rattle.symds.proofs.command.play_under.Goals as goal

pub returns-clause-tells : goal.returns-clause-tells
returns-clause-tells g c = λ is. told_so true _ c.rehearse-ending.result.0 c.status_by.result _ _ c.status_by.ensures (c.rehearse-ending.ensures.shows is)

pub returns-clause-unbuilt : goal.returns-clause-unbuilt
returns-clause-unbuilt g c = λ other. told_so false _ c.rehearse-ending.result.0 c.status_by.result _ _ c.status_by.ensures (c.rehearse-ending.ensures.unbuilt other)

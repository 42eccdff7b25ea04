use Rattle.sds_history.specs.history.Openings.{opening_key}
use Rattle.sds_history.specs.history.SoundParts.{AscendBy}
use Rattle.sds_registry.proofs.tests.put_openings.Given as goal

abbrev pub invariant-loop-group : goal.invariant-loop-group
invariant-loop-group l = AscendBy opening_key l.openings.items

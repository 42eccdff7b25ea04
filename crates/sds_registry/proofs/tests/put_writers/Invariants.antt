use Rattle.sds_history.specs.history.Writers.{writer_key}
use Rattle.sds_history.specs.history.SoundParts.{AscendBy}
use Rattle.sds_registry.proofs.tests.put_writers.Given as goal

abbrev pub invariant-loop-name : goal.invariant-loop-name
invariant-loop-name l = AscendBy writer_key l.writers.items

use Rattle.sds_outside.specs.MemKeeping.{IsKeptOpen}
use Rattle.sds_outside.proofs.tests.told.Given as goal

abbrev pub invariant-loop-turn : goal.invariant-loop-turn
invariant-loop-turn l = IsKeptOpen l.keeper

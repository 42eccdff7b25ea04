use Rattle.std.proofs.Common.{◌≡◌, ◌++◌, List, Some}
use Rattle.sds_outside.specs.Records.{Record}
use Rattle.sds_commit.specs.Ends.{Lasts}
use Rattle.sds_node.proofs.Reading.{Gathers}
use Rattle.sds_node.proofs.keeping.rest_of.Given as goal

abbrev pub invariant-loop-turn : goal.invariant-loop-turn
invariant-loop-turn g l = g.K.Keeper.is_open l.keeper
    × (Gathers (g.K.Keeper.unread l.fn.keeper) (g.K.Keeper.unread l.keeper) l.all
    × ((g.K.Keeper.keeping l.keeper ≡ g.K.Keeper.keeping l.fn.keeper)
    × Lasts (g.K.Keeper.damage l.fn.keeper) (g.K.Keeper.damage l.keeper) (g.K.Keeper.faults l.fn.keeper) (g.K.Keeper.faults l.keeper) ⊥))

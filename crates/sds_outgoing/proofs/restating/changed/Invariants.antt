use Rattle.std.proofs.Common.{◌≡◌, ◌++◌, ◌∷◌, [], drop, map}
use Rattle.std.specs.Str.{chars}
use Rattle.sds_history.specs.history.Acts.Act.{Acked}
use Rattle.sds_history.specs.history.Standings.{with_standing}
use Rattle.sds_outgoing.specs.Restating.{restated_by, restated_from}
use Rattle.sds_outgoing.proofs.restating.changed.Given as goal

-- the places so far and those that are left are all
abbrev pub invariant-loop-place : goal.invariant-loop-place
invariant-loop-place l =
    l.changed ++ restated_from l.place (drop l.place l.batches) (map (with_standing l.batches (Acked (chars l.from) l.acks ∷ [])) (drop l.place l.batches))
    ≡ restated_by l.batches (chars l.from) l.acks

use Rattle.std.proofs.Common.{◌≡◌, drop}
use Rattle.sds_outgoing.specs.Restating.{with_restated}
use Rattle.sds_outgoing.proofs.restating.restate.Given as goal

-- the batches, with the places that are left, are what all places make of them
abbrev pub invariant-loop-restated : goal.invariant-loop-restated
invariant-loop-restated l =
    with_restated (drop l.restated-index l.changed) l.batches.items ≡ with_restated l.changed l.fn.batches.items

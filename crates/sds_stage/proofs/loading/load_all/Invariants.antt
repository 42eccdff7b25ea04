use Rattle.std.proofs.Common.{drop}
use Rattle.std.specs.Str.{chars}
use Rattle.sds_stage.proofs.Loaded.{AreLoaded}
use Rattle.sds_stage.proofs.loading.load_all.Given as goal

-- the places so far
abbrev pub invariant-loop-place : goal.invariant-loop-place
invariant-loop-place l =
    AreLoaded l.fn.node (chars l.from) l.docs l.channels l.places l.fn.acks.items l.fn.held.items l.node l.acks.items l.held.items (drop l.place-index l.places)

use Rattle.std.proofs.Common.{◌≡◌, drop}
use Rattle.std.specs.List.{list_all}
use Rattle.sds_router.specs.Asks.{has_wanted}
use Rattle.sds_router.proofs.wanted.has_all.Given as goal

-- the texts that are left answer for all
abbrev pub invariant-loop-one : goal.invariant-loop-one
invariant-loop-one l = list_all (has_wanted l.columns l.row) (drop l.one-index l.wanted)
    ≡ list_all (has_wanted l.columns l.row) l.wanted

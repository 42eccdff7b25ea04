use Rattle.std.proofs.Common.{◌≡◌, ℕ, ◌++◌, drop}
use Rattle.std.specs.Prelude.{map}
use Rattle.std.specs.List.{enumerate_from, filter}
use Rattle.sds_value.specs.declared.row.Peer.{Peer}
use Rattle.sds_trade.specs.rules.Named.{is_named, targets_of}
use Rattle.sds_router.proofs.routes.targets.Given as goal

-- the places so far and those of the peers that are left are all the places
abbrev pub invariant-loop-place : goal.invariant-loop-place
invariant-loop-place g l =
    let rows = g.T.StandingRows.rows l.tables in
    l.places.items ++ map (λ (at : ℕ × Peer). at.0)
    (filter (λ (at : ℕ × Peer). is_named l.config l.me rows l.change at.1)
    (enumerate_from l.place (drop l.place l.peers)))
    ≡ targets_of l.config l.me rows l.peers l.change

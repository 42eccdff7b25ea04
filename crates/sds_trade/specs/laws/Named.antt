-- The law that a change names each peer at most once.
use Rattle.std.specs.Prelude.{ℕ, ◌<◌, List}
use Rattle.std.specs.List.{AllPairs}
use Rattle.sds_value.specs.declared.row.Peer.{Peer}
use Rattle.sds_types.specs.declared.config.Config.{Config}
use Rattle.sds_types.specs.declared.row.Change.{Change}
use Rattle.sds_types.specs.declared.row.TableRow.{TableRow}
use Rattle.sds_trade.specs.rules.Named.{targets_of}

-- the places of the named peers ascend, so that none stands twice
abbrev pub PeersAreNamedOnce : Type 0
PeersAreNamedOnce = (config : Config) (me : Peer) (rows : List TableRow) (peers : List Peer)
    (change : Change) → AllPairs (λ (a b : ℕ). a < b) (targets_of config me rows peers change)

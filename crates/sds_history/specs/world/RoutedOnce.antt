-- For whom each change was at its routing run, and which batches hold it.
use Rattle.std.specs.Prelude.{ℕ, Bool, ◌==◌, List, [], ◌∷◌, ◌++◌, map}
use Rattle.std.specs.List.{filter, list_any}
use Rattle.sds_value.specs.declared.row.Peer.{Peer}
use Rattle.sds_types.specs.declared.batch.OutBatch.{OutBatch}
use Rattle.sds_types.specs.declared.config.Config.{Config}
use Rattle.sds_types.specs.declared.row.Change.{Change}
use Rattle.sds_trade.specs.rules.Named.{is_named}
use Rattle.sds_history.specs.history.Acts.{Act, State}
use Rattle.sds_history.specs.history.Acts.Act.{Routed}
use Rattle.sds_history.specs.history.Changes.{unrouted_after}
use Rattle.sds_history.specs.history.Made.{peers_at}
use Rattle.sds_history.specs.history.Runs.{Run, tables_after}

-- the peers that a change is for, where runs have left a node so
abbrev pub named_after : Config → State → List Run → Change → List (List ℕ)
named_after config opening runs change = map (λ (peer : Peer). peer.id)
    (filter (is_named config opening.me (tables_after opening runs) change)
    (peers_at opening runs))

-- a change with the peers that it was for when it was routed
abbrev pub routed_change : Config → State → List Run → Change → ℕ × List (List ℕ)
routed_change config opening runs change =
    (change.id, named_after config opening runs change)

abbrev pub routed_by : Config → State → Act → List Run → List (ℕ × List (List ℕ))
routed_by config opening Routed older =
    map (routed_change config opening older) (unrouted_after config opening older)
routed_by config opening act older = []

abbrev pub all_routed : Config → State → List Run → List (ℕ × List (List ℕ))
all_routed config opening [] = []
all_routed config opening (run ∷ older) =
    all_routed config opening older ++ routed_by config opening run.act older

-- the peers of the batches that hold a change, by the batches' numbers
abbrev pub holds : ℕ → OutBatch → Bool
holds change batch = list_any (λ (other : ℕ). other == change) batch.changes

abbrev pub holders_of : List OutBatch → ℕ → List (List ℕ)
holders_of batches change =
    map (λ (batch : OutBatch). batch.peer) (filter (holds change) batches)

-- The batches whose standing changes, by their places.
use Rattle.std.specs.Prelude.{ℕ, suc, zero, Bool, not, List, [], ◌∷◌, map}
use Rattle.std.specs.List.{enumerate_from, filter, zip}
use Rattle.sds_types.specs.declared.ack.Ack.{Ack}
use Rattle.sds_types.specs.declared.batch.OutBatch.{OutBatch}
use Rattle.sds_types.specs.declared.batch.Standing.{Standing}
use Rattle.sds_history.specs.history.Acks.{same_standing}
use Rattle.sds_history.specs.history.Acts.Act.{Acked}
use Rattle.sds_history.specs.history.Standings.{acknowledged}
use Rattle.sds_outgoing.specs.declared.restating.Restated.{Restated}

-- a batch before and after, with its place: it has another status, row or rule
abbrev pub is_restated : ℕ × (OutBatch × OutBatch) → Bool
is_restated at = not (same_standing at.1.0.standing at.1.1.standing)

abbrev pub restated_at : ℕ × (OutBatch × OutBatch) → Restated
restated_at at = record { place = at.0; standing = at.1.1.standing }

-- the places from one on, ascending, of the batches that have another, and what they have
abbrev pub restated_from : ℕ → List OutBatch → List OutBatch → List Restated
restated_from place before after =
    map restated_at (filter is_restated (enumerate_from place (zip before after)))

-- those that a peer's acks change
abbrev pub restated_by : List OutBatch → List ℕ → List Ack → List Restated
restated_by batches from acks =
    restated_from 0 batches (acknowledged batches (Acked from acks ∷ []))

-- the batches, where the one at a place has this standing
abbrev pub with_standing_at : ℕ → Standing → List OutBatch → List OutBatch
with_standing_at place standing [] = []
with_standing_at zero standing (batch ∷ batches) =
    record batch { standing = standing } ∷ batches
with_standing_at (suc place) standing (batch ∷ batches) =
    batch ∷ with_standing_at place standing batches

-- where those at several places have other standings
abbrev pub with_restated : List Restated → List OutBatch → List OutBatch
with_restated [] batches = batches
with_restated (one ∷ later) batches =
    with_restated later (with_standing_at one.place one.standing batches)

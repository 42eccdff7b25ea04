-- The batches of a lane that go next, one after another.
use Rattle.std.specs.Prelude.{ℕ, ◌+◌, Bool, not, ◌&&◌, ◌||◌, ◌==◌, if◌then◌else◌, List, [], ◌∷◌, map}
use Rattle.sds_types.specs.declared.batch.OutBatch.{OutBatch}
use Rattle.sds_history.specs.history.Messages.{is_in_lane}
use Rattle.sds_history.specs.history.Standings.{is_acked, is_erred}

-- a batch of a lane is not acknowledged
abbrev pub is_waiting : List ℕ → ℕ → OutBatch → Bool
is_waiting to channel batch = is_in_lane to channel batch && not (is_acked batch.standing)

-- no batch goes after this one, which is that of a number: it is the last that a message takes, or
-- it is in error
abbrev pub ends_offer : ℕ → ℕ → OutBatch → Bool
ends_offer most number batch = number == most || is_erred batch.standing

-- of batches that wait those that go, after so many that went
abbrev pub offered_after : ℕ → ℕ → List OutBatch → List OutBatch
offered_after most count [] = []
offered_after most count (batch ∷ batches) =
    batch ∷ (if ends_offer most (count + 1) batch then []
    else offered_after most (count + 1) batches)

abbrev pub ids_of : List OutBatch → List ℕ
ids_of batches = map (λ (batch : OutBatch). batch.id) batches

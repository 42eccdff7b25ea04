-- The batches of a lane that go next, one after another.
use Rattle.std.specs.Prelude.{ℕ, ◌+◌, Bool, ◌||◌, ◌==◌, nat_le, if◌then◌else◌, List, [], ◌∷◌}
use Rattle.sds_types.specs.Limits.{most_part_bytes}
use Rattle.sds_types.specs.declared.batch.OutBatch.{OutBatch}
use Rattle.sds_history.specs.history.Standings.{is_erred}

-- no batch goes after this one, which is that of a number: it is the last that a message takes, or
-- it is in error, or it brings the text of its channel to its most bytes
abbrev pub closes_part : ℕ → ℕ → ℕ → OutBatch → Bool
closes_part most number bytes batch =
    (number == most || is_erred batch.standing) || nat_le most_part_bytes bytes

-- of batches that wait, of which each has a text of some size, those that go, after so many that
-- went, which have so many bytes
abbrev pub going_after : (OutBatch → ℕ) → ℕ → ℕ → ℕ → List OutBatch → List OutBatch
going_after size most count bytes [] = []
going_after size most count bytes (batch ∷ batches) =
    batch ∷ (if closes_part most (count + 1) (bytes + size batch) batch then []
    else going_after size most (count + 1) (bytes + size batch) batches)

-- The order in which the batches of a message are delivered.
use Rattle.std.specs.Prelude.{ℕ, Bool, ◌==◌, nat_le, nat_lt, List, ◌++◌, length, take, Option, slice_get}
use Rattle.std.specs.List.{enumerate_from, filter, filter_map}
use Rattle.sds_types.specs.declared.batch.OutBatch.{OutBatch}

-- the batches of a message, each with its place, that are of a channel
abbrev pub is_in_part : ℕ → ℕ × OutBatch → Bool
is_in_part channel at = at.1.channel == channel

abbrev pub in_channel : List (ℕ × OutBatch) → ℕ → List (ℕ × OutBatch)
in_channel batches channel = filter (is_in_part channel) batches

-- how often a channel is mentioned
abbrev pub mentions : List ℕ → ℕ → ℕ
mentions channels channel = length (filter (λ (other : ℕ). other == channel) channels)

-- each mention of a channel stands for that channel's next batch
abbrev pub mentioned_batch : List ℕ → List (ℕ × OutBatch) → ℕ × ℕ → Option (ℕ × OutBatch)
mentioned_batch channels batches at =
    slice_get (in_channel batches at.1) (mentions (take at.0 channels) at.1)

-- how many batches of its channel come before a batch
abbrev pub rank_of : List (ℕ × OutBatch) → ℕ × OutBatch → ℕ
rank_of batches at = length (filter (λ (other : ℕ × OutBatch). nat_lt other.0 at.0)
    (in_channel batches at.1.channel))

abbrev pub is_left : List ℕ → List (ℕ × OutBatch) → ℕ × OutBatch → Bool
is_left channels batches at = nat_le (mentions channels at.1.channel) (rank_of batches at)

-- the batches that are mentioned, in that order, then the others in the order of the message
abbrev pub deliver_order : List ℕ → List (ℕ × OutBatch) → List (ℕ × OutBatch)
deliver_order channels batches =
    filter_map (mentioned_batch channels batches) (enumerate_from 0 channels)
    ++ filter (is_left channels batches) batches

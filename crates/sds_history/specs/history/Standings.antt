-- What acks said of each batch.
use Rattle.std.specs.Prelude.{ℕ, Bool, true, false, ◌&&◌, ◌||◌, ◌==◌, nat_le, if◌then◌else◌, List, [], ◌∷◌, map, Option, None, Some, is_some, not}
use Rattle.std.specs.List.{filter, list_any, flat_map}
use Rattle.std.specs.Str.{bytes_eq}
use Rattle.sds_types.specs.declared.ack.Ack.{Ack}
use Rattle.sds_types.specs.declared.batch.OutBatch.{OutBatch}
use Rattle.sds_types.specs.declared.batch.Standing.{Standing}
use Rattle.sds_types.specs.declared.batch.Standing.TheVariants as standing
use Rattle.sds_history.specs.history.Acts.{Act}
use Rattle.sds_history.specs.history.Acts.Act.{Acked}

-- the acks that a peer's replies gave, those of the newest reply first
abbrev pub acks_in : List ℕ → Act → List Ack
acks_in peer (Acked from acks) = if bytes_eq from peer then acks else []
acks_in peer act = []

abbrev pub acks_from : List Act → List ℕ → List Ack
acks_from acts peer = flat_map (acks_in peer) acts

-- two batches are of one lane: they go to one peer in one channel
abbrev pub same_lane : OutBatch → OutBatch → Bool
same_lane a b = a.channel == b.channel && bytes_eq a.peer b.peer

abbrev pub is_ok_for : List OutBatch → OutBatch → Ack → Bool
is_ok_for batches batch ack = not (is_some ack.error) && (nat_le batch.id ack.batch
    && list_any (λ (other : OutBatch). other.id == ack.batch && same_lane batch other) batches)

-- an ack says that a batch or a later one of its lane is loaded, or that it is in error
abbrev pub is_error_of : OutBatch → Ack → Bool
is_error_of batch ack = is_some ack.error && ack.batch == batch.id

abbrev pub is_acked : Standing → Bool
is_acked standing.Acked = true
is_acked other = false

abbrev pub is_erred : Standing → Bool
is_erred (standing.Erred row rule) = true
is_erred other = false

-- the row and the rule of an error
abbrev pub erred_by : Option (ℕ × ℕ) → Standing → Standing
erred_by None before = before
erred_by (Some error) before = standing.Erred error.0 error.1

-- of errors in one batch the last one told counts
abbrev pub last_error : List Ack → Standing → Standing
last_error [] before = before
last_error (ack ∷ acks) before = erred_by ack.error before

-- OK is final; else the last error counts, and else what was known before
abbrev pub standing_of : List OutBatch → List Act → OutBatch → Standing
standing_of batches acts batch =
    let acks = acks_from acts batch.peer in
    if is_acked batch.standing || list_any (is_ok_for batches batch) acks then standing.Acked
    else last_error (filter (is_error_of batch) acks) batch.standing

abbrev pub with_standing : List OutBatch → List Act → OutBatch → OutBatch
with_standing batches acts batch =
    record batch { standing = standing_of batches acts batch }

-- batches, with what acks said of each
abbrev pub acknowledged : List OutBatch → List Act → List OutBatch
acknowledged batches acts = map (with_standing batches acts) batches

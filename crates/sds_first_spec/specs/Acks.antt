-- What acks say of a node's batches.
use Rattle.std.specs.Prelude.{ℕ, Bool, true, false, ◌&&◌, ◌==◌, not, nat_le, is_none, if◌then◌else◌, List, [], ◌∷◌, map, Option, None, Some, count_by}
use Rattle.std.specs.List.{list_any}
use Rattle.std.specs.Str.{bytes_eq}
use Rattle.sds_types.specs.declared.ack.Ack.{Ack}
use Rattle.sds_types.specs.declared.batch.OutBatch.{OutBatch}
use Rattle.sds_types.specs.declared.batch.Standing.{Standing}
use Rattle.sds_types.specs.declared.batch.Standing.TheVariants.{New, Erred, Acked}

-- whether a batch is of the lane of the batch with this number, and goes no later
abbrev pub is_up_to : List OutBatch → ℕ → OutBatch → Bool
is_up_to batches id batch =
    nat_le batch.id id && list_any (λ (b : OutBatch). b.id == id && (bytes_eq b.peer batch.peer && b.channel == batch.channel)) batches

-- whether one of these acks says that the batch, or a later one of its lane, is loaded
abbrev pub is_acked_by : List OutBatch → List Ack → OutBatch → Bool
is_acked_by batches acks batch = list_any (λ (ack : Ack). is_none ack.error && is_up_to batches ack.batch batch) acks

-- the last error that these acks name for a batch, or what it was before
abbrev pub error_by : Option (ℕ × ℕ) → Standing → Standing
error_by None before = before
error_by (Some error) before = Erred error.0 error.1

abbrev pub last_error : List Ack → ℕ → Standing → Standing
last_error [] id before = before
last_error (ack ∷ acks) id before = last_error acks id (if ack.batch == id then error_by ack.error before else before)

-- what is known of a batch after these acks: loaded is final, and an error gives way to it
abbrev pub standing_after : List OutBatch → List Ack → OutBatch → Standing → Standing
standing_after batches acks batch Acked = Acked
standing_after batches acks batch before = if is_acked_by batches acks batch then Acked else last_error acks batch.id before

abbrev pub acknowledged : List Ack → List OutBatch → List OutBatch
acknowledged acks batches = map (λ (b : OutBatch). record b { standing = standing_after batches acks b b.standing }) batches

abbrev pub same_standing : Standing → Standing → Bool
same_standing New New = true
same_standing (Erred row rule) (Erred row' rule') = row == row' && rule == rule'
same_standing Acked Acked = true
same_standing a b = false

-- how many of these batches the acks change
abbrev pub changed_by : List Ack → List OutBatch → ℕ
changed_by acks batches = count_by (λ (b : OutBatch). not (same_standing b.standing (standing_after batches acks b b.standing))) batches

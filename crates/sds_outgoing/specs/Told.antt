-- What acks of a batch's peer say of it.
use Rattle.std.specs.Prelude.{◌||◌, if◌then◌else◌, List}
use Rattle.std.specs.List.{filter, list_any}
use Rattle.sds_types.specs.declared.ack.Ack.{Ack}
use Rattle.sds_types.specs.declared.batch.OutBatch.{OutBatch}
use Rattle.sds_types.specs.declared.batch.Standing.{Standing}
use Rattle.sds_types.specs.declared.batch.Standing.TheVariants as standing
use Rattle.sds_history.specs.history.Standings.{is_acked, is_error_of, is_ok_for, last_error}

-- OK is final; else the last error counts, and else what was known before
abbrev pub standing_told : List OutBatch → List Ack → OutBatch → Standing
standing_told batches acks batch =
    if is_acked batch.standing || list_any (is_ok_for batches batch) acks then standing.Acked
    else last_error (filter (is_error_of batch) acks) batch.standing

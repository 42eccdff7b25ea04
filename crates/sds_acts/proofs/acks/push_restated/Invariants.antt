use Rattle.std.proofs.Common.{◌≡◌, ◌++◌, drop, map}
use Rattle.sds_history.specs.history.Records.{batch_record}
use Rattle.sds_imagelaws.specs.Edits.{puts_of}
use Rattle.sds_acts.specs.Parts.{restated_batches}
use Rattle.sds_acts.proofs.acks.push_restated.Given as goal

-- the edits so far and those of the places that are left are all
abbrev pub invariant-loop-one : goal.invariant-loop-one
invariant-loop-one l =
    l.edits.items ++ puts_of (map (batch_record l.config) (restated_batches l.batches (drop l.one-index l.changed)))
    ≡ l.initial.edits.items ++ puts_of (map (batch_record l.config) (restated_batches l.batches l.changed))

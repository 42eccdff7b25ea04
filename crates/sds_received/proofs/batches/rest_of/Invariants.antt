use Rattle.std.proofs.Common.{◌++◌, ℕ, true, List}
use Rattle.sds_types.specs.declared.document.BatchDoc.{BatchDoc}
use Rattle.sds_batchtext.specs.Reading.{HasRead}
use Rattle.sds_received.proofs.batches.rest_of.Given as goal

abbrev pub invariant-loop-turn : goal.invariant-loop-turn
invariant-loop-turn l = (text : List ℕ) (taken : List BatchDoc) → HasRead text taken true l.fn.reader → HasRead text (taken ++ l.docs) true l.reader

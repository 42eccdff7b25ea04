use Rattle.std.proofs.Common.{◌≡◌, drop}
use Rattle.std.specs.List.{list_all}
use Rattle.sds_batchtext.specs.Writable.{is_batch_text}
use Rattle.sds_received.proofs.texts.batches_are_of_characters.Given as goal

abbrev pub invariant-loop-doc : goal.invariant-loop-doc
invariant-loop-doc l = list_all is_batch_text (drop l.doc-index l.docs) ≡ list_all is_batch_text l.docs

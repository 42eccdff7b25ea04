-- What a reply tells of a document: its batches, and its end with the number of the cause.
use Rattle.std.specs.Prelude.{ℕ, true, List}
use Rattle.sds_types.specs.DocumentCauses.{number_of}
use Rattle.sds_types.specs.declared.document.BatchDoc.{BatchDoc}
use Rattle.sds_types.specs.declared.document.End.{End}
use Rattle.sds_types.specs.declared.document.End.TheVariants as end
use Rattle.sds_batchtext.specs.Documents.{batches_in, end_of}

pub data ToldEnd : Type 0 where
  Clean : ToldEnd
  Broken : (line : ℕ) → (cause : ℕ) → ToldEnd

abbrev pub told_end : End → ToldEnd
told_end end.Clean = Clean
told_end (end.Broken line cause) = Broken line (number_of cause)

pub record ToldDocument : Type 0 where
  pub batches : List BatchDoc
  pub ending : ToldEnd

abbrev pub document : List ℕ → ToldDocument
document text = record { batches = batches_in true text; ending = told_end (end_of text) }

use Rattle.sds_examples.proofs.DocumentsComputed.{document_is_written}
use Rattle.sds_examples.proofs.documents.a_document_is_written.Goals as goal

pub returns : goal.returns
returns c = record { written = document_is_written }

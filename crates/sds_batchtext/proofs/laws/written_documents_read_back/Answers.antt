use Rattle.sds_batchtext.proofs.WrittenDocuments.{written_back}
use Rattle.sds_batchtext.proofs.laws.written_documents_read_back.Goals as goal

pub returns : goal.returns
returns c = written_back

use Rattle.sds_nodelaws.proofs.Documents.{documents_stay}
use Rattle.sds_nodelaws.proofs.laws.documents_stay.Goals as goal

pub returns : goal.returns
returns c = record { stay = documents_stay }

use Rattle.sds_doclaws.proofs.Writable.{documents_are_writable}
use Rattle.sds_doclaws.proofs.laws.documents_are_writable.Goals as goal

pub returns : goal.returns
returns c = record { writable = documents_are_writable }

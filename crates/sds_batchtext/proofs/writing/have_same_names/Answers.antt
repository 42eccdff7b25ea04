use Rattle.std.proofs.lemmas.Bool.Decides.{same_from_decides}
use Rattle.sds_batchtext.specs.Writing.{same_names}
use Rattle.sds_batchtext.proofs.Joins.{same_names_Decides}
use Rattle.sds_batchtext.proofs.writing.have_same_names.Goals as goal

pub returns : goal.returns
returns c = same_from_decides c.same.result (same_names c.args.names.now c.args.others.now) c.same.ensures (same_names_Decides c.args.names.now c.args.others.now)

use Rattle.sds_value.proofs.laws.text_reads_as_one_value.Goals as goal

pub returns : goal.returns
returns c = λ kind form text a b first second. cc (first, second)

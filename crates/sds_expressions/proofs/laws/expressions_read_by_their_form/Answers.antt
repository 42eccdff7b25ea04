use Rattle.sds_expressions.proofs.Saying.{column_reads, lookup_reads, choice_reads}
use Rattle.sds_expressions.proofs.laws.expressions_read_by_their_form.Goals as goal

pub returns : goal.returns
returns c = record { column = column_reads; lookup = lookup_reads; subselect = choice_reads }

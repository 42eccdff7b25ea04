use Rattle.sds_expressions.proofs.Printing.{column_names, choice_names}
use Rattle.sds_expressions.proofs.laws.expressions_have_names.Goals as goal

pub returns : goal.returns
returns c = record { column = column_names; lookup = λ text lookup is. is.0; subselect = choice_names }

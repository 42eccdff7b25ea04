use Rattle.sds_expressions.proofs.ComputedSaying.{left_says, substr_says, value_map_says, variable_says, additive_says}
use Rattle.sds_expressions.proofs.laws.column_expressions_read_by_their_form.Goals as goal

pub returns : goal.returns
returns c = record { left = left_says; substr = substr_says; value_map = value_map_says; variable = variable_says; additive = additive_says }

use Rattle.sds_first_spec.proofs.WorkedComputed.{nothing_prints_nothing, empty_table_is_its_name, texts_are_escaped, keys_go_by_number}
use Rattle.sds_first_spec.proofs.worked.screens_of_little.Goals as goal

pub returns-clause-nothing : goal.returns-clause-nothing
returns-clause-nothing c = nothing_prints_nothing

pub returns-clause-empty : goal.returns-clause-empty
returns-clause-empty c = empty_table_is_its_name

pub returns-clause-texts : goal.returns-clause-texts
returns-clause-texts c = texts_are_escaped

pub returns-clause-keys : goal.returns-clause-keys
returns-clause-keys c = keys_go_by_number

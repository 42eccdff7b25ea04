use Rattle.sds_first_spec.proofs.WorkedComputed.{key_twice_is_refused, no_rows_is_done, store_captures_nothing, routed_is_done, store_routes_nothing}
use Rattle.sds_first_spec.proofs.worked.writes_are_judged_by_row.Goals as goal

pub returns-clause-key : goal.returns-clause-key
returns-clause-key c = key_twice_is_refused

pub returns-clause-empty : goal.returns-clause-empty
returns-clause-empty c = no_rows_is_done

pub returns-clause-store : goal.returns-clause-store
returns-clause-store c = store_captures_nothing

pub returns-clause-routed : goal.returns-clause-routed
returns-clause-routed c = routed_is_done

pub returns-clause-store_routes : goal.returns-clause-store_routes
returns-clause-store_routes c = store_routes_nothing

use Rattle.sds_imagelaws.proofs.ActEdits.{edits_of_errors, edits_of_loads, edits_of_routes, edits_of_writes}
use Rattle.sds_imagelaws.proofs.laws.edits_go_by_act.Goals as goal

pub returns-clause-write : goal.returns-clause-write
returns-clause-write c = edits_of_writes

pub returns-clause-load : goal.returns-clause-load
returns-clause-load c = edits_of_loads

pub returns-clause-error : goal.returns-clause-error
returns-clause-error c = edits_of_errors

pub returns-clause-route : goal.returns-clause-route
returns-clause-route c = edits_of_routes

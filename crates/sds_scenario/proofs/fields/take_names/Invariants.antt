use Rattle.std.proofs.Common.{◌≡◌, drop}
use Rattle.sds_scenario.specs.Words.{as_names}
use Rattle.sds_scenario.proofs.Names.{after}
use Rattle.sds_scenario.proofs.fields.take_names.Given as goal

abbrev pub invariant-loop-field : goal.invariant-loop-field
invariant-loop-field l = after l.names (as_names (drop l.field-index l.fields)) ≡ as_names l.fn.fields

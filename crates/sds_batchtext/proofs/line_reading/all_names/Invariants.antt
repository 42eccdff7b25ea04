use Rattle.std.proofs.Common.{◌≡◌, drop}
use Rattle.sds_batchtext.specs.DocLines.{all_names}
use Rattle.sds_batchtext.proofs.Names.{after}
use Rattle.sds_batchtext.proofs.line_reading.all_names.Given as goal

abbrev pub invariant-loop-field : goal.invariant-loop-field
invariant-loop-field l = after l.names (all_names (drop l.field-index l.fields)) ≡ all_names l.fields

use Rattle.std.proofs.Common.{◌≡◌, drop}
use Rattle.sds_line.specs.Written.{are_fields}
use Rattle.sds_world.proofs.lines.fields_are_spelt.Given as goal

abbrev pub invariant-loop-field : goal.invariant-loop-field
invariant-loop-field l = are_fields (drop l.field-index l.fields) ≡ are_fields l.fields

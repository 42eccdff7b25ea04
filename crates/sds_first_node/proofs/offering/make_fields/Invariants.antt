use Rattle.std.proofs.Common.{◌≡◌, take, map}
use Rattle.sds_first_spec.specs.Lanes.{field_of}
use Rattle.sds_first_node.proofs.offering.make_fields.Given as goal

abbrev pub invariant-loop-value : goal.invariant-loop-value
invariant-loop-value l = l.fields.items ≡ map field_of (take l.value-index l.values)

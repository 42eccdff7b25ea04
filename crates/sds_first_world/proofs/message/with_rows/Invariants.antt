use Rattle.std.proofs.Common.{◌≡◌, map, take}
use Rattle.sds_first_spec.specs.One.{one}
use Rattle.sds_first_laws.specs.Loads.{sent_at}
use Rattle.sds_first_node.specs.Meaning.{kept_of}
use Rattle.sds_first_world.proofs.message.with_rows.Given as goal

abbrev pub invariant-loop-id : goal.invariant-loop-id
invariant-loop-id l = l.sents.items ≡ map (sent_at one (kept_of l.node)) (take l.id-index l.ids)

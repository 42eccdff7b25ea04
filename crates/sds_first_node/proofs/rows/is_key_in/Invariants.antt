use Rattle.std.proofs.Common.{◌≡◌, ◌∷◌, [], drop}
use Rattle.sds_first_spec.specs.One.{one}
use Rattle.sds_first_spec.specs.Tables.{stands}
use Rattle.sds_first_node.proofs.rows.is_key_in.Given as goal

abbrev pub invariant-loop-kept : goal.invariant-loop-kept
invariant-loop-kept l = stands one 0 (l.key ∷ []) (drop l.kept-index l.rows) ≡ stands one 0 (l.key ∷ []) l.rows

use Rattle.std.proofs.Common.{◌≡◌, ◌++◌, ℕ, List, drop, map}
use Rattle.sds_trade.specs.rules.Sides.{field_at}
use Rattle.sds_transform.proofs.change_rows.key_fields.Given as goal

abbrev pub invariant-loop-place : goal.invariant-loop-place
invariant-loop-place l = l.key ++ map (field_at l.fields) (drop l.place-index l.places) ≡ map (field_at l.fields) l.places

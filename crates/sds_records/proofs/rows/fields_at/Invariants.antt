use Rattle.std.proofs.Common.{◌≡◌, ◌++◌, drop, map}
use Rattle.sds_trade.specs.rules.Sides.{field_at}
use Rattle.sds_records.proofs.rows.fields_at.Given as goal

abbrev pub invariant-loop-place : goal.invariant-loop-place
invariant-loop-place l = l.made ++ map (field_at l.fields) (drop l.place-index l.places)
    ≡ map (field_at l.fields) l.places

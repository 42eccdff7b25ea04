use Rattle.std.proofs.Common.{◌≡◌, drop, map}
use Rattle.std.specs.Cmp.Lexicographic.{slice_cmp}
use Rattle.sds_value.specs.Values.{value_order}
use Rattle.sds_trade.specs.rules.Tables.{value_at}
use Rattle.sds_rows.proofs.keys.order_of_keys.Given as goal

abbrev pub invariant-loop-place : goal.invariant-loop-place
invariant-loop-place l = slice_cmp value_order (map (value_at l.a) (drop l.place-index l.places)) (map (value_at l.b) (drop l.place-index l.places))
    ≡ slice_cmp value_order (map (value_at l.a) l.places) (map (value_at l.b) l.places)

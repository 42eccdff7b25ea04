use Rattle.std.proofs.Common.{◌≡◌, drop, map}
use Rattle.std.specs.Cmp.Lexicographic.{slice_cmp}
use Rattle.sds_value.specs.Values.{value_order}
use Rattle.sds_trade.specs.rules.Tables.{value_at}
use Rattle.sds_rows.proofs.keys.order_of_key.Given as goal

abbrev pub invariant-loop-i : goal.invariant-loop-i
invariant-loop-i l = slice_cmp value_order (map (value_at l.values) (drop l.i l.places)) (drop l.i l.key)
    ≡ slice_cmp value_order (map (value_at l.values) l.places) l.key

use Rattle.std.proofs.Common.{◌≡◌, ℕ, List, drop, map}
use Rattle.std.specs.List.{list_all}
use Rattle.sds_trade.specs.rules.Places.{column_name, is_among}
use Rattle.sds_rowtexts.specs.Named.{key_names_of}
use Rattle.sds_rowtexts.proofs.keys.names_key.Given as goal

-- the columns that are left answer for all
abbrev pub invariant-loop-place : goal.invariant-loop-place
invariant-loop-place l = let test = λ (name : List ℕ). is_among l.row.keys name in
    list_all test (map (column_name l.def.columns) (drop l.place-index l.def.key)) ≡ list_all test (key_names_of l.def)

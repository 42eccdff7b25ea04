use Rattle.std.proofs.Common.{◌≡◌, ◌++◌, drop, map}
use Rattle.std.specs.List.{zip}
use Rattle.sds_trade.specs.rules.Places.{column_name}
use Rattle.sds_rowtexts.specs.Named.{key_names_of, value_named}
use Rattle.sds_rowtexts.proofs.keys.told_key.Given as goal

-- the values so far and those of the columns that are left are the whole key
abbrev pub invariant-loop-place : goal.invariant-loop-place
invariant-loop-place l = let value = value_named (zip l.names l.values) in
    l.key.items ++ map value (map (column_name l.def.columns) (drop l.place-index l.def.key)) ≡ map value (key_names_of l.def)

use Rattle.std.proofs.Common.{◌≡◌, ◌++◌, drop}
use Rattle.std.specs.List.{filter_map}
use Rattle.sds_trade.specs.rules.DocRows.{are_columns}
use Rattle.sds_trade.specs.rules.Places.{column_place}
use Rattle.sds_rowtexts.proofs.names.places_of.Given as goal

-- the places so far and those of the names that are left are all the places
abbrev pub invariant-loop-at : goal.invariant-loop-at
invariant-loop-at l = record {
  places : l.places.items ++ filter_map (column_place l.columns) (drop l.at l.names) ≡ filter_map (column_place l.columns) l.names;
  clean : are_columns l.columns (drop l.at l.names) ≡ are_columns l.columns l.names;
}

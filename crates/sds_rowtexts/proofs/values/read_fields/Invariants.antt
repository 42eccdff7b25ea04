use Rattle.std.proofs.Common.{◌≡◌, ◌++◌, ◌||◌, drop, map}
use Rattle.std.specs.List.{list_any, zip}
use Rattle.sds_trade.specs.rules.TextRules.{is_bad, is_too_long}
use Rattle.sds_rowtexts.specs.Placed.{is_refused, placed_value}
use Rattle.sds_rowtexts.proofs.values.read_fields.Given as goal

-- the values so far and those of the fields that are left are all the values, and so are the
-- reasons
abbrev pub invariant-loop-at : goal.invariant-loop-at
invariant-loop-at l = record {
  values : l.values.items ++ map (placed_value l.form l.columns) (zip (drop l.at l.places) (drop l.at l.fields)) ≡ map (placed_value l.form l.columns) (zip l.places l.fields);
  bad : (l.refused.bad || list_any (is_refused is_bad l.form l.columns) (zip (drop l.at l.places) (drop l.at l.fields))) ≡ (l.fn.refused.bad || list_any (is_refused is_bad l.form l.columns) (zip l.places l.fields));
  long : (l.refused.long || list_any (is_refused is_too_long l.form l.columns) (zip (drop l.at l.places) (drop l.at l.fields))) ≡ (l.fn.refused.long || list_any (is_refused is_too_long l.form l.columns) (zip l.places l.fields));
}

use Rattle.std.proofs.Common.{◌≡◌, ◌++◌, take, drop}
use Rattle.std.specs.Str.{chars}
use Rattle.sds_types.specs.declared.lane.LaneIn.{LaneIn}
use Rattle.sds_first_spec.specs.Kept.{with_lane}
use Rattle.sds_first_node.proofs.find.lane_place.Given as goal

abbrev pub invariant-loop-place : goal.invariant-loop-place
invariant-loop-place l = record {
  put : (new : LaneIn) → new.peer ≡ chars l.peer → new.channel ≡ l.channel → with_lane new l.lanes ≡ take l.place l.lanes ++ with_lane new (drop l.place l.lanes);
}

use Rattle.std.proofs.Common.{◌≡◌, ◌≤◌, drop, length, take}
use Rattle.std.specs.List.{filter_map}
use Rattle.sds_types.specs.Limits.{most_peers, most_rows}
use Rattle.sds_history.specs.history.Acts.{State}
use Rattle.sds_image.specs.PartsSeen.{AreEarlier, IsSeen}
use Rattle.sds_image.specs.Reading as told
use Rattle.sds_image.proofs.disagreeing.first_disagreement.Given as goal

abbrev pub invariant-loop-place : goal.invariant-loop-place
invariant-loop-place l = record {
  earlier : AreEarlier l.earlier (take l.place l.parts);
  first : (state : State) → IsSeen state l.seen
      → told.disagreement_after l.config state (take l.place l.parts) (drop l.place l.parts) ≡ told.first_disagreement l.config state l.parts;
  few : length (filter_map told.row_of_part (take l.place l.parts)) ≤ most_rows;
  fewer : length (filter_map told.peer_of_part (take l.place l.parts)) ≤ most_peers;
}

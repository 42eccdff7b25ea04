use Rattle.std.proofs.Common.{◌≡◌, ◌≤◌, ◌-◌, length, take}
use Rattle.sds_outside.specs.Told.{after_told}
use Rattle.sds_outside.proofs.transfer.write_all.Given as goal

abbrev pub invariant-loop-at : goal.invariant-loop-at
invariant-loop-at g l = record {
  so_far : g.K.Sink.taken l.sink ≡ after_told (g.K.Sink.taken l.initial.sink) (take l.at l.bytes);
  later : g.K.Sink.faults l.initial.sink ≤ g.K.Sink.faults l.sink;
  within : l.at ≤ length l.bytes;
}

abbrev pub decreases-loop-at : goal.decreases-loop-at
decreases-loop-at g l = length l.bytes - l.at

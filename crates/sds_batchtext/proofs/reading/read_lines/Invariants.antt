use Rattle.std.proofs.Common.{◌≡◌, ℕ, Bool, false, List, length}
use Rattle.sds_line.specs.Splitting.{is_finished, left, reach}
use Rattle.sds_types.specs.declared.document.BatchDoc.{BatchDoc}
use Rattle.sds_batchtext.specs.Reading.{IsReading, IsFed}
use Rattle.sds_batchtext.proofs.reading.read_lines.Given as goal

abbrev pub invariant-loop-line : goal.invariant-loop-line
invariant-loop-line l = record {
  fed : ∥ IsFed l.lines ∥₁;
  phase : is_finished l.initial.lines.phase ≡ false → is_finished l.lines.phase ≡ false;
  reach : is_finished l.initial.lines.phase ≡ false → reach l.lines.split ≡ reach l.initial.lines.split;
  reads : (text : List ℕ) (taken : List BatchDoc) (finished : Bool) → IsReading text taken finished l.initial.lines l.initial.position l.initial.ready.items
      → IsReading text taken finished l.lines l.position l.ready.items;
}

abbrev pub decreases-loop-line : goal.decreases-loop-line
decreases-loop-line l = length (left l.lines).lines

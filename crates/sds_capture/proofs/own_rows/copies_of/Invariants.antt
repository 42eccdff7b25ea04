use Rattle.std.proofs.Common.{◌≡◌, ◌++◌, drop}
use Rattle.sds_capture.proofs.own_rows.copies_of.Given as goal

abbrev pub invariant-loop-field : goal.invariant-loop-field
invariant-loop-field l = l.copies.items ++ drop l.field-index l.fields ≡ l.fields

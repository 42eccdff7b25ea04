use Rattle.std.proofs.Common.{◌≡◌, ◌++◌, drop, map}
use Rattle.std.specs.Str.{chars}
use Rattle.sds_history.specs.history.Records.{opening_record}
use Rattle.sds_imagelaws.specs.Edits.{puts_of}
use Rattle.sds_acts.specs.Parts.{closed_openings}
use Rattle.sds_acts.proofs.confirming.push_closed.Given as goal

-- the edits so far and those of the openings that are left are all
abbrev pub invariant-loop-opening : goal.invariant-loop-opening
invariant-loop-opening l =
    l.edits.items ++ puts_of (map opening_record (closed_openings (chars l.peer) (drop l.opening-index l.openings)))
    ≡ l.initial.edits.items ++ puts_of (map opening_record (closed_openings (chars l.peer) l.openings))

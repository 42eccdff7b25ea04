use Rattle.std.proofs.Common.{sym, ap, ◌∙◌}
use Rattle.clap.specs.Matches.{found_of}
use Rattle.symds.specs.Words.{is_plain}
use Rattle.symds.proofs.Matching.{value_plain, value_other, value_none}
use Rattle.symds.proofs.words.value_in.Goals.{in_default-via-in-Some+else-is_plain, in_default-via-in_default}
use Rattle.symds.proofs.words.value_in.Goals as goal

pub returns-in-Some : goal.returns-in-Some
returns-in-Some c = value_plain (found_of c.args.matches.now) c.args.id.now c.in-Some.value.now c.in-Some.ensures
    (ap is_plain (sym c.as_bytes.ensures.value) ∙ sym c.if-is_plain.ensures)

pub returns-in_default : goal.returns-in_default
returns-in_default c = elim c.in_default.branch [
  | in_default-via-in-Some+else-is_plain w ↦ value_other (found_of c.args.matches.now) c.args.id.now w.in-Some.value.now w.in-Some.ensures
      (ap is_plain (sym w.as_bytes.ensures.value) ∙ sym w.if-is_plain.ensures)
  | in_default-via-in_default w ↦ value_none (found_of c.args.matches.now) c.args.id.now w.in_default.ensures
]

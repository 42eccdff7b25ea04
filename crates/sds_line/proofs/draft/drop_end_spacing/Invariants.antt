use Rattle.std.proofs.Common.{◌≡◌, string_bytes, string_len}
use Rattle.std.specs.Str.{chars}
use Rattle.sds_line.specs.Reading.{without_end_spacing}
use Rattle.sds_line.proofs.draft.drop_end_spacing.Given as goal

abbrev pub invariant-loop-last : goal.invariant-loop-last
invariant-loop-last l = without_end_spacing (chars (string_bytes l.text)) ≡ without_end_spacing (chars (string_bytes l.initial.text))

abbrev pub decreases-loop-last : goal.decreases-loop-last
decreases-loop-last l = string_len l.text

use Rattle.std.proofs.Common.{sym, ap, ◌∙◌}
use Rattle.sds_line.specs.Written.{are_fields}
use Rattle.sds_world.proofs.SaidLines.{read_by}
use Rattle.sds_world.proofs.lines.read_said.Goals as goal

pub returns-clause-sound : goal.returns-clause-sound
returns-clause-sound c =
    read_by c.read_line_fields.result c.args.fields (ap are_fields (sym c.inner.ensures ∙ sym c.as_slice.ensures.value) ∙ c.fields_are_spelt.ensures)
    c.read_line_fields.ensures

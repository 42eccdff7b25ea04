use Rattle.std.proofs.Common.{sym, ◌∙◌}
use Rattle.sds_records.proofs.Numbers.{plain_number}
use Rattle.sds_records.proofs.pieces.number_in.Goals as goal

pub returns-in-Text : goal.returns-in-Text
returns-in-Text c = λ number fits is.
    c.number_written.ensures 0 number fits (plain_number c.in-Text.text c.as_str.result.now number fits (sym c.in-Text.is ∙ is) c.as_str.ensures.bytes)

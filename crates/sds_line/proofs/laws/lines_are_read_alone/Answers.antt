use Rattle.sds_line.proofs.Alone.{whole_line, last_line, refused_line, long_line, unended_line}
use Rattle.sds_line.proofs.laws.lines_are_read_alone.Goals as goal

pub returns : goal.returns
returns c = record { whole = whole_line; last = last_line; refused = refused_line; too_long = long_line; unended = unended_line }

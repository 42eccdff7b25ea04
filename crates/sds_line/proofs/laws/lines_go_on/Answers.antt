use Rattle.sds_line.proofs.Onward.{lines_go_on, lines_go_on_at_end, refused_lines_stay, refused_lines_stay_at_end}
use Rattle.sds_line.proofs.laws.lines_go_on.Goals as goal

pub returns : goal.returns
returns c = record { on = lines_go_on; end = lines_go_on_at_end; refused = refused_lines_stay; refused_end = refused_lines_stay_at_end }

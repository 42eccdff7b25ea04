use Rattle.sds_imagelaws.proofs.Widths.{acts_keep_widths}
use Rattle.sds_imagelaws.proofs.laws.acts_keep_widths.Goals as goal

pub returns : goal.returns
returns c = record { keep = acts_keep_widths }

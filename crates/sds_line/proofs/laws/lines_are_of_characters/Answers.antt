use Rattle.sds_line.proofs.Scalars.{lines_are_of_characters}
use Rattle.sds_line.proofs.laws.lines_are_of_characters.Goals as goal

pub returns : goal.returns
returns c = lines_are_of_characters

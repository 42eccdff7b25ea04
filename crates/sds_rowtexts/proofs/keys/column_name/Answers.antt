use Rattle.std.proofs.lemmas.Str.{chars-nil}
use Rattle.sds_rowtexts.proofs.keys.column_name.Goals as goal

pub returns-in-None : goal.returns-in-None
returns-in-None c = rw (← c.in-None.ensures) chars-nil

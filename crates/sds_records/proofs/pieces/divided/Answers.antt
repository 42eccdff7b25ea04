use Rattle.std.proofs.Common.{sym, ◌∙◌}
use Rattle.sds_records.proofs.Slashes.{divided_at, slash_found}
use Rattle.sds_records.proofs.pieces.divided.Goals as goal

pub returns-in-Some : goal.returns-in-Some
returns-in-Some c = λ name rest is same. divided_at c.args.bytes.now name rest c.in-Some.at is same (sym c.in-Some.is ∙ c.slash_at.ensures.place)

pub returns-in-None : goal.returns-in-None
returns-in-None c = λ name rest is same. absurd (slash_found c.args.bytes.now name rest is same (sym c.in-None.is ∙ c.slash_at.ensures.place))

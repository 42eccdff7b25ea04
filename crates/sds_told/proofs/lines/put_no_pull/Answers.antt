use Rattle.std.proofs.Common.{append_assoc, rules}
use Rattle.std.proofs.lemmas.Str.{encodes-chars}
use Rattle.sds_told.proofs.lines.put_no_pull.Goals as goal

pub returns-clause-ok : goal.returns-clause-ok
returns-clause-ok c = simp (encodes-chars c.args.to.now c.utf8.to, encodes-chars c.args.from.now c.utf8.from, append_assoc) (search rules)

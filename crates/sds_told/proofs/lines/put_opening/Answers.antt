use Rattle.std.proofs.Common.{append_assoc, rules}
use Rattle.std.proofs.lemmas.Str.{encodes-chars}
use Rattle.sds_told.proofs.lines.put_opening.Goals as goal

pub returns-clause-ok : goal.returns-clause-ok
returns-clause-ok c = simp (encodes-chars c.args.at.now c.utf8.at, encodes-chars c.args.group.now c.utf8.group, encodes-chars c.args.external.now c.utf8.external, append_assoc) (search rules)

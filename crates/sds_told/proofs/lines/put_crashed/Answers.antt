use Rattle.std.proofs.Common.{rules}
use Rattle.std.proofs.lemmas.Str.{encodes-chars}
use Rattle.sds_told.proofs.lines.put_crashed.Goals as goal

pub returns-clause-ok : goal.returns-clause-ok
returns-clause-ok c = rw (encodes-chars c.args.node.now c.utf8.node) (search rules)

use Rattle.std.proofs.Common.{append_assoc, rules}
use Rattle.std.proofs.lemmas.Str.{encodes-chars}
use Rattle.sds_told.proofs.lines.put_registering.Goals as goal

pub returns-clause-ok : goal.returns-clause-ok
returns-clause-ok c = simp (encodes-chars c.args.asks.now c.utf8.asks, encodes-chars c.args.at.now c.utf8.at, append_assoc) (search rules)

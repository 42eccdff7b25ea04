use Rattle.std.proofs.Common.{append_assoc, rules}
use Rattle.std.proofs.lemmas.Str.{encodes-chars}
use Rattle.sds_told.proofs.lines.put_writing.Goals as goal

pub returns-clause-ok : goal.returns-clause-ok
returns-clause-ok c = simp (encodes-chars c.args.node.now c.utf8.node, encodes-chars c.args.writer.now c.utf8.writer, append_assoc) (search rules)

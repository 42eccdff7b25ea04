use Rattle.std.proofs.Common.{append_assoc, rules}
use Rattle.std.proofs.lemmas.Str.{encodes-chars}
use Rattle.sds_told.proofs.lines.sending_line.Goals as goal

pub returns-in_ok-format-in-Ok : goal.returns-in_ok-format-in-Ok
returns-in_ok-format-in-Ok c = rw c.in-Ok.is (simp (encodes-chars c.args.from.now c.utf8.from, encodes-chars c.args.to.now c.utf8.to, append_assoc) (search rules))

pub returns-in_ok-format-in-Err : goal.returns-in_ok-format-in-Err
returns-in_ok-format-in-Err c = rw c.in-Err.is (simp (encodes-chars c.args.from.now c.utf8.from, encodes-chars c.args.to.now c.utf8.to, append_assoc) (search rules))

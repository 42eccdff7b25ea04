use Rattle.std.proofs.Common.{sym, arith}
use Rattle.std.proofs.lemmas.Bool.Decides.{nat_tests}
use Rattle.std.proofs.lemmas.Str.{encodes-chars}
use Rattle.sds_capture.proofs.Names.{no_group}
use Rattle.sds_capture.proofs.capture.is_group.Goals as goal

pub returns-in-None : goal.returns-in-None
returns-in-None c = no_group c.args.groups.now c.args.place c.args.name.now c.eq.result (grind (arith, nat_tests, c.in-None.ensures.lookup)) c.eq.ensures (sym (encodes-chars _ c.utf8.name))

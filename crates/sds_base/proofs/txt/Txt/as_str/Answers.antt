use Rattle.std.proofs.Common.{sym}
use Rattle.std.proofs.lemmas.Str.{encodes-chars}
use Rattle.sds_base.proofs.txt.Txt.as_str.Goals as goal

pub returns-clause-bytes : goal.returns-clause-bytes
returns-clause-bytes c = rw (← c.self.view_is) (rw (← c.as_str.ensures.value) (sym (encodes-chars _ c.as_str.utf8)))

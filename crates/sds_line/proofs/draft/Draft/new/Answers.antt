use Rattle.std.proofs.Common.{refl}
use Rattle.std.proofs.lemmas.Str.{chars-nil}
use Rattle.sds_line.proofs.draft.Draft.new.Goals as goal

pub returns : goal.returns
returns c = rw (c.whole.ensures.whole, c.new.ensures.bytes, chars-nil, c.new-2.ensures.items) refl

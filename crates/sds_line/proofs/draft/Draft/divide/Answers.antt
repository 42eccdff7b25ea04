use Rattle.std.proofs.Common.{refl}
use Rattle.std.proofs.lemmas.Str.{chars-nil}
use Rattle.sds_line.proofs.draft.Draft.divide.Goals as goal

pub returns-clause-ok : goal.returns-clause-ok
returns-clause-ok c = rw (← c.self.view_is) (rw (c.replace-text.ensures.after, c.new.ensures.bytes, chars-nil, c.in_ok-push.ensures.items, c.in_ok-field_at.ensures.ok, c.replace-text.ensures.value) refl)

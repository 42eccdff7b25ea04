use Rattle.std.proofs.Common.{◌≡◌, ◌∙◌, ap, sym, subst, true, List}
use Rattle.sds_line.specs.Splitting.{left, next_number}
use Rattle.sds_batchtext.specs.declared.doc_line.DocLine.{DocLine}
use Rattle.sds_batchtext.specs.Documents.{is_unfinished, last_end}
use Rattle.sds_batchtext.specs.Positions.{IsPositionAfter}
use Rattle.sds_batchtext.specs.Reading.{ReaderState, HasReadLines}
use Rattle.sds_batchtext.proofs.Readers.{has_last}
use Rattle.sds_batchtext.proofs.reader.Reader.end.Goals as goal

pub returns : goal.returns
returns c = λ text taken h.
    has_last text taken c.self.inside.lines c.self.inside.position c.self.inside.ready.items c.last_end-ending.result c.self.inside.ending c.self.inside.is_spent
    (subst (λ (v : ReaderState). HasReadLines text taken true v.ending v.lines v.position v.ready) (sym c.self.view_is) h)
    c.in_default.is (ap (λ (v : ReaderState). v.is_spent) c.self.view_is ∙ c.requires)
    (subst (λ (v : ReaderState). (older : List DocLine) → IsPositionAfter older v.position → c.last_end-ending.result ≡ last_end (is_unfinished older) (next_number (left v.lines))) (sym c.self.view_is) c.last_end-ending.ensures)

use Rattle.std.proofs.Common.{sym, subst}
use Rattle.sds_batchtext.specs.Reading.{ReaderState, IsReading}
use Rattle.sds_batchtext.proofs.reader.Reader.read.Goals as goal

pub returns-in-Ok-clause-read : goal.returns-in-Ok-clause-read
returns-in-Ok-clause-read c = λ text taken finished r.
    c.in-Ok.ensures.read text taken finished (subst (λ (v : ReaderState). IsReading text taken finished v.lines v.position v.ready) (sym c.self.view_is) r)

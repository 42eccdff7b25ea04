use Rattle.std.proofs.Common.{◌∙◌, ap, sym, subst, true}
use Rattle.sds_batchtext.specs.Reading.{ReaderState, HasRead}
use Rattle.sds_batchtext.proofs.Readers.{ended_before, can_go_on, can_read, end_fed, begin_ending}
use Rattle.sds_batchtext.proofs.reader.Reader.finish.Goals as goal

pub returns-in-Some-clause-read : goal.returns-in-Some-clause-read
returns-in-Some-clause-read c = λ text taken finished h.
    ended_before text taken finished c.args.self.now c.in-Some.ending (ap (λ (v : ReaderState). v.ending) (sym c.self.view_is) ∙ c.in-Some.is) h

pub invariant_of-self : goal.invariant_of-self
invariant_of-self c =
    can_go_on c.self.inside.is_spent c.self.inside.ending c.finish.new.self (λ none.
    end_fed c.self.inside.lines c.finish.new.self c.finish.ensures.follows
    (can_read c.self.inside.is_spent c.self.inside.ending c.self.inside.lines c.if-self.false c.in_default.is c.self.invariant))

pub returns-clause-read : goal.returns-clause-read
returns-clause-read c = λ text taken finished h.
    let here : ReaderState = record {
      lines = c.self.inside.lines;
      position = c.self.inside.position;
      ready = c.self.inside.ready.items;
      ending = c.self.inside.ending;
      is_spent = c.self.inside.is_spent;
    } in
    c.end.ensures text taken
    (c.in_ok-read.ensures.read text taken true
    (begin_ending text taken finished here c.finish.new.self (subst (λ (v : ReaderState). HasRead text taken finished v) (sym c.self.view_is) h) c.in_default.is c.finish.ensures.follows))

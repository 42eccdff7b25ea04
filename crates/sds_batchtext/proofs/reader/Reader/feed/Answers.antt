use Rattle.std.proofs.Common.{◌≡◌, ◌∙◌, ◌++◌, ap, sym, subst, false}
use Rattle.sds_line.specs.Splitting.{is_finished, lines_in}
use Rattle.sds_batchtext.specs.Reading.{ReaderState, HasRead}
use Rattle.sds_batchtext.proofs.Readers.{ignored_by, can_go_on, can_read, piece_fed, begin_reading, has_read, both_ok, no_ending}
use Rattle.sds_batchtext.proofs.reader.Reader.feed.Goals as goal

pub returns-then-is_some-clause-read : goal.returns-then-is_some-clause-read
returns-then-is_some-clause-read c = λ text taken h.
    ignored_by text c.args.piece.now taken c.args.self.now c.self.inside.ending (ap (λ (v : ReaderState). v.ending) (sym c.self.view_is)) (sym c.is_some.ensures ∙ c.if-is_some.true) h

pub invariant_of-self : goal.invariant_of-self
invariant_of-self c =
    can_go_on c.self.inside.is_spent c.self.inside.ending c.feed.new.self (λ none.
    piece_fed c.self.inside.lines c.feed.new.self c.args.piece.now (subst (λ (v : ReaderState). is_finished v.lines.phase ≡ false) (sym c.self.view_is) c.requires.open) c.in-Ok.ensures.follows
    (can_read c.self.inside.is_spent c.self.inside.ending c.self.inside.lines c.if-self.false none c.self.invariant))

pub returns-in-Ok-clause-read : goal.returns-in-Ok-clause-read
returns-in-Ok-clause-read c =
    let here : ReaderState = record {
      lines = c.self.inside.lines;
      position = c.self.inside.position;
      ready = c.self.inside.ready.items;
      ending = c.self.inside.ending;
      is_spent = c.self.inside.is_spent;
    } in
    both_ok c.read.result _ _ _ c.read.ensures.read c.read.ensures.whole (λ reads whole text taken h.
    let at : HasRead text taken false here = subst (λ (v : ReaderState). HasRead text taken false v) (sym c.self.view_is) h in
    let going = no_ending c.self.inside.ending (sym c.is_some.ensures ∙ c.if-is_some.false) in
    has_read (text ++ c.args.piece.now) taken c.read.new.self
    (reads (text ++ c.args.piece.now) taken false
    (begin_reading text (text ++ c.args.piece.now) taken false here c.feed.new.self at going (c.in-Ok.ensures.follows text (lines_in false text).lines (at.follows going)))) whole)

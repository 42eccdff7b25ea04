use Rattle.std.proofs.Common.{not, None, Some, subst, sym, ◌∙◌}
use Rattle.sds_line.specs.Splitting.{lines_in}
use Rattle.sds_world.specs.declared.text.Stop.{Stop}
use Rattle.sds_world.specs.Reading.{Ends}
use Rattle.sds_world.proofs.Turning.{pieces_played, long_ends, finished_reads, finished_plays, open_ends, whole_ends}
use Rattle.sds_world.proofs.play.Play.play_whole.Goals as goal

pub returns-in-Some-clause-ends : goal.returns-in-Some-clause-ends
returns-in-Some-clause-ends c = λ config noise g.
    pieces_played config noise c.args.is_over c.args.text.now c.play_pieces.new.lines c.args.self.now c.play_pieces.new.self c.in_ok-bad.field-0 (Some c.in-Some.bad)
    c.in_ok-bad.ensures.plays c.in-Some.is g

pub returns-then-is_over-clause-ends : goal.returns-then-is_over-clause-ends
returns-then-is_over-clause-ends c = λ config noise g.
    subst (λ (b : Stop). Ends config noise c.args.is_over (lines_in (not c.args.is_over) c.args.text.now) c.play_pieces.new.self (Some b)) (sym c.stopped.ensures)
    (long_ends config noise c.args.is_over c.args.text.now c.play_pieces.new.lines c.play_pieces.new.self c.number.result c.if-is_over.true c.number.ensures
    (pieces_played config noise c.args.is_over c.args.text.now c.play_pieces.new.lines c.args.self.now c.play_pieces.new.self c.in_ok-bad.field-0 None
    c.in_ok-bad.ensures.plays c.in_default.is g))

pub play_ready-requires-clause-reads : goal.play_ready-requires-clause-reads
play_ready-requires-clause-reads c = finished_reads c.play_pieces.new.lines c.finish.new.self c.finish.ensures.follows (c.in_ok-bad.ensures.reads c.in_default.is)

pub returns-in-Some-2-clause-ends : goal.returns-in-Some-2-clause-ends
returns-in-Some-2-clause-ends c = λ config noise g.
    finished_plays config noise c.args.is_over c.args.text.now c.play_pieces.new.lines c.finish.new.self c.play_ready.new.lines c.play_pieces.new.self c.play_ready.new.self
    c.in_ok-bad-2.field-0 (Some c.in-Some-2.bad) c.if-is_over.false c.finish.ensures.follows c.in_ok-bad-2.ensures.plays c.in-Some-2.is
    (pieces_played config noise c.args.is_over c.args.text.now c.play_pieces.new.lines c.args.self.now c.play_pieces.new.self c.in_ok-bad.field-0 None
    c.in_ok-bad.ensures.plays c.in_default.is g)

pub returns-then-is_some-clause-ends : goal.returns-then-is_some-clause-ends
returns-then-is_some-clause-ends c = λ config noise g.
    subst (λ (b : Stop). Ends config noise c.args.is_over (lines_in (not c.args.is_over) c.args.text.now) c.play_ready.new.self (Some b)) (sym c.stopped-then-is_some.ensures)
    (open_ends config noise c.args.is_over c.args.text.now c.play_ready.new.lines c.play_ready.new.self c.number-then-is_some.result c.if-is_over.false
    c.number-then-is_some.ensures (sym c.is_some.ensures ∙ c.if-is_some.true)
    (finished_plays config noise c.args.is_over c.args.text.now c.play_pieces.new.lines c.finish.new.self c.play_ready.new.lines c.play_pieces.new.self c.play_ready.new.self
    c.in_ok-bad-2.field-0 None c.if-is_over.false c.finish.ensures.follows c.in_ok-bad-2.ensures.plays c.in_default-2.is
    (pieces_played config noise c.args.is_over c.args.text.now c.play_pieces.new.lines c.args.self.now c.play_pieces.new.self c.in_ok-bad.field-0 None
    c.in_ok-bad.ensures.plays c.in_default.is g)))

pub returns-clause-ends : goal.returns-clause-ends
returns-clause-ends c = λ config noise g.
    whole_ends config noise c.args.is_over c.args.text.now c.play_ready.new.lines c.play_ready.new.self c.if-is_over.false (sym c.is_some.ensures ∙ c.if-is_some.false)
    (finished_plays config noise c.args.is_over c.args.text.now c.play_pieces.new.lines c.finish.new.self c.play_ready.new.lines c.play_pieces.new.self c.play_ready.new.self
    c.in_ok-bad-2.field-0 None c.if-is_over.false c.finish.ensures.follows c.in_ok-bad-2.ensures.plays c.in_default-2.is
    (pieces_played config noise c.args.is_over c.args.text.now c.play_pieces.new.lines c.args.self.now c.play_pieces.new.self c.in_ok-bad.field-0 None
    c.in_ok-bad.ensures.plays c.in_default.is g))

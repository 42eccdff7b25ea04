use Rattle.std.proofs.Common.{not, None, Some, subst, sym, ◌∙◌}
use Rattle.sds_line.specs.Splitting.{lines_in}
use Rattle.sds_first_world.specs.declared.rehearsal.BadLine.{BadLine}
use Rattle.sds_first_world.specs.Games.{Ends}
use Rattle.sds_first_world.proofs.Turning.{pieces_played, long_ends, finished_reads, finished_plays, open_ends, whole_ends}
use Rattle.sds_first_world.proofs.game.Game.play_whole.Goals as goal

pub returns-in-Some-clause-ends : goal.returns-in-Some-clause-ends
returns-in-Some-clause-ends c =
    pieces_played c.args.is_over c.args.text.now c.play_pieces.new.lines c.args.self.now c.play_pieces.new.self c.in_ok-bad.field-0 (Some c.in-Some.bad) c.requires.few c.in_ok-bad.ensures.plays c.in-Some.is

pub returns-then-is_over-clause-ends : goal.returns-then-is_over-clause-ends
returns-then-is_over-clause-ends c = λ g.
    subst (λ (b : BadLine). Ends c.args.is_over (lines_in (not c.args.is_over) c.args.text.now) c.play_pieces.new.self (Some b)) (sym c.stopped.ensures)
    (long_ends c.args.is_over c.args.text.now c.play_pieces.new.lines c.play_pieces.new.self c.number.result c.if-is_over.true c.number.ensures
    (pieces_played c.args.is_over c.args.text.now c.play_pieces.new.lines c.args.self.now c.play_pieces.new.self c.in_ok-bad.field-0 None c.requires.few c.in_ok-bad.ensures.plays c.in_default.is g))

pub play_lines-requires-clause-reads : goal.play_lines-requires-clause-reads
play_lines-requires-clause-reads c = finished_reads c.play_pieces.new.lines c.finish.new.self c.finish.ensures.follows (c.in_ok-bad.ensures.reads c.in_default.is)

pub returns-in-Some-2-clause-ends : goal.returns-in-Some-2-clause-ends
returns-in-Some-2-clause-ends c = λ g.
    finished_plays c.args.is_over c.args.text.now c.play_pieces.new.lines c.finish.new.self c.play_lines.new.lines c.play_pieces.new.self c.play_lines.new.self c.in_ok-bad-2.field-0 (Some c.in-Some-2.bad) c.requires.few c.if-is_over.false
    c.finish.ensures.follows c.in_ok-bad-2.ensures.plays c.in-Some-2.is
    (pieces_played c.args.is_over c.args.text.now c.play_pieces.new.lines c.args.self.now c.play_pieces.new.self c.in_ok-bad.field-0 None c.requires.few c.in_ok-bad.ensures.plays c.in_default.is g)

pub returns-then-is_some-clause-ends : goal.returns-then-is_some-clause-ends
returns-then-is_some-clause-ends c = λ g.
    subst (λ (b : BadLine). Ends c.args.is_over (lines_in (not c.args.is_over) c.args.text.now) c.play_lines.new.self (Some b)) (sym c.stopped-then-is_some.ensures)
    (open_ends c.args.is_over c.args.text.now c.play_lines.new.lines c.play_lines.new.self c.number-then-is_some.result c.if-is_over.false c.number-then-is_some.ensures (sym c.is_some.ensures ∙ c.if-is_some.true)
    (finished_plays c.args.is_over c.args.text.now c.play_pieces.new.lines c.finish.new.self c.play_lines.new.lines c.play_pieces.new.self c.play_lines.new.self c.in_ok-bad-2.field-0 None c.requires.few c.if-is_over.false
    c.finish.ensures.follows c.in_ok-bad-2.ensures.plays c.in_default-2.is
    (pieces_played c.args.is_over c.args.text.now c.play_pieces.new.lines c.args.self.now c.play_pieces.new.self c.in_ok-bad.field-0 None c.requires.few c.in_ok-bad.ensures.plays c.in_default.is g)))

pub returns-clause-ends : goal.returns-clause-ends
returns-clause-ends c = λ g.
    whole_ends c.args.is_over c.args.text.now c.play_lines.new.lines c.play_lines.new.self c.if-is_over.false (sym c.is_some.ensures ∙ c.if-is_some.false)
    (finished_plays c.args.is_over c.args.text.now c.play_pieces.new.lines c.finish.new.self c.play_lines.new.lines c.play_pieces.new.self c.play_lines.new.self c.in_ok-bad-2.field-0 None c.requires.few c.if-is_over.false
    c.finish.ensures.follows c.in_ok-bad-2.ensures.plays c.in_default-2.is
    (pieces_played c.args.is_over c.args.text.now c.play_pieces.new.lines c.args.self.now c.play_pieces.new.self c.in_ok-bad.field-0 None c.requires.few c.in_ok-bad.ensures.plays c.in_default.is g))

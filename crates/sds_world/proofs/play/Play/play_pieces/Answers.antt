use Rattle.std.proofs.Common.{◌++◌, Option, Ok, false, subst, arith, rules}
use Rattle.sds_world.specs.declared.text.Stop.{Stop}
use Rattle.sds_world.specs.Reading.{Plays}
use Rattle.sds_world.proofs.Fronts.{no_bytes}
use Rattle.sds_world.proofs.Turning.{fed_reads, piece_played, piece_fed, all_played}
use Rattle.sds_world.proofs.play.Play.play_pieces.Goals as goal

pub play_ready-requires-clause-reads : goal.play_ready-requires-clause-reads
play_ready-requires-clause-reads c =
    fed_reads c.loop-rest.lines c.feed.new.self c.split_at.result.0.now c.in_ok-feed.ensures.follows c.loop-rest.invariant.phase c.loop-rest.invariant.reads

pub returns-in-Some-clause-plays : goal.returns-in-Some-clause-plays
returns-in-Some-clause-plays c = λ config noise is_over whole front g.
    subst (λ (o : Option Stop). Plays config noise is_over whole (c.loop-rest.invariant.fed ++ c.split_at.result.0.now) false (Ok o) c.play_ready.new.self c.play_ready.new.lines)
    c.in-Some.is
    (piece_played config noise is_over whole c.args.text.now c.loop-rest.invariant.fed c.split_at.result.0.now c.loop-rest.rest.now c.split_at.result.1.now c.loop-rest.lines
    c.feed.new.self c.play_ready.new.lines c.loop-rest.self c.play_ready.new.self (Ok c.in_ok-bad.field-0) c.loop-rest.invariant.parts c.split_at.ensures.by_index.0
    c.in_ok-feed.ensures.follows c.in_ok-bad.ensures.plays front (c.loop-rest.invariant.plays config noise is_over whole front g))

pub loop-rest-preserved : goal.loop-rest-preserved
loop-rest-preserved c = record {
  fed = c.loop-rest.invariant.fed ++ c.split_at.result.0.now;
  parts = piece_fed c.args.text.now c.loop-rest.invariant.fed c.split_at.result.0.now c.loop-rest.rest.now c.split_at.result.1.now c.loop-rest.invariant.parts
      c.split_at.ensures.by_index.0;
  play = c.in_ok-bad.ensures.play;
  phase = c.play_ready.ensures.phase c.feed.ensures.open;
  room = omega (
    arith,
    c.loop-rest.invariant.room,
    c.feed.ensures.reach,
    c.play_ready.ensures.reach c.feed.ensures.open,
    c.split_at.ensures.front_len,
    c.split_at.ensures.back_len,
  );
  reads = c.in_ok-bad.ensures.reads c.in_default.is;
  plays = λ config noise is_over whole front g.
      subst (λ (o : Option Stop). Plays config noise is_over whole (c.loop-rest.invariant.fed ++ c.split_at.result.0.now) false (Ok o) c.play_ready.new.self c.play_ready.new.lines)
      c.in_default.is
      (piece_played config noise is_over whole c.args.text.now c.loop-rest.invariant.fed c.split_at.result.0.now c.loop-rest.rest.now c.split_at.result.1.now c.loop-rest.lines
      c.feed.new.self c.play_ready.new.lines c.loop-rest.self c.play_ready.new.self (Ok c.in_ok-bad.field-0) c.loop-rest.invariant.parts c.split_at.ensures.by_index.0
      c.in_ok-feed.ensures.follows c.in_ok-bad.ensures.plays front (c.loop-rest.invariant.plays config noise is_over whole front g));
}

pub returns-clause-plays : goal.returns-clause-plays
returns-clause-plays c = λ config noise is_over whole front g.
    all_played config noise is_over whole c.args.text.now c.loop-rest.invariant.fed c.loop-rest.rest.now c.loop-rest.lines c.loop-rest.self c.loop-rest.invariant.parts
    (no_bytes c.loop-rest.rest.now (search rules)) (c.loop-rest.invariant.plays config noise is_over whole front g)

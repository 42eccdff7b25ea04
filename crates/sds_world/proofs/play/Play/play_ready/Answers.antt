use Rattle.std.proofs.Common.{◌∙◌, ◌∷◌, ◌++◌, [], List, ℕ, Bool, Option, Ok, Some, None, subst, sym, rules}
use Rattle.sds_line.specs.declared.line.Line.{Line as TextLine}
use Rattle.sds_line.specs.Splitting.{Answers, Follows}
use Rattle.sds_world.specs.Reading.{Ends}
use Rattle.sds_world.specs.declared.text.Stop.{Stop}
use Rattle.sds_world.proofs.Turning.{fewer, midway_on, midway_off, midway_none, midway_refused, refused_answer, still_reads}
use Rattle.sds_world.proofs.play.Play.play_ready.Goals as goal

pub returns-in-Ok-None-clause-plays : goal.returns-in-Ok-None-clause-plays
returns-in-Ok-None-clause-plays c = λ config noise text taken finished is_over whole front f g.
    midway_none config noise is_over whole text finished c.loop-line.lines c.next.new.self c.loop-line.self
    (λ text taken finished f. subst (λ (o : Option TextLine). Answers text taken finished (Ok o) c.next.new.self) c.in-Ok-None.field-0-is
    (c.in-Ok-None.ensures.answers text taken finished f))
    (c.loop-line.invariant.plays config noise text taken finished is_over whole front f g)

pub returns-in-Ok-None-clause-reads : goal.returns-in-Ok-None-clause-reads
returns-in-Ok-None-clause-reads c = λ is.
    still_reads c.loop-line.lines c.next.new.self
    (λ text taken finished f. subst (λ (o : Option TextLine). Answers text taken finished (Ok o) c.next.new.self) c.in-Ok-None.field-0-is
    (c.in-Ok-None.ensures.answers text taken finished f))
    c.loop-line.invariant.reads

pub returns-in-Some-clause-plays : goal.returns-in-Some-clause-plays
returns-in-Some-clause-plays c = λ config noise text taken finished is_over whole front f g.
    midway_off config noise is_over whole text finished c.loop-line.lines c.next.new.self c.loop-line.self c.play_text_line.new.self c.in-Ok-Some.line
    c.in_ok-bad-in-Ok-Some.field-0 c.in-Some.bad
    (λ text taken finished f. subst (λ (o : Option TextLine). Answers text taken finished (Ok o) c.next.new.self) c.in-Ok-Some.field-0-is
    (c.in-Ok-Some.ensures.answers text taken finished f))
    front c.in_ok-bad-in-Ok-Some.ensures.turns c.in-Some.is (c.loop-line.invariant.plays config noise text taken finished is_over whole front f g)

pub loop-line-smaller : goal.loop-line-smaller
loop-line-smaller c =
    fewer c.loop-line.invariant.reads.text c.loop-line.invariant.reads.taken c.in-Ok-Some.line c.loop-line.invariant.reads.finished c.loop-line.lines c.next.new.self
    c.loop-line.invariant.reads.follows
    (subst (λ (o : Option TextLine). Answers c.loop-line.invariant.reads.text c.loop-line.invariant.reads.taken c.loop-line.invariant.reads.finished (Ok o) c.next.new.self)
    c.in-Ok-Some.field-0-is
    (c.in-Ok-Some.ensures.answers c.loop-line.invariant.reads.text c.loop-line.invariant.reads.taken c.loop-line.invariant.reads.finished c.loop-line.invariant.reads.follows))

pub loop-line-preserved : goal.loop-line-preserved
loop-line-preserved c =
    let takes : (text : List ℕ) (taken : List TextLine) (finished : Bool) → Follows text taken finished c.loop-line.lines
    → Follows text (taken ++ c.in-Ok-Some.line ∷ []) finished c.next.new.self =
    λ text taken finished f. subst (λ (o : Option TextLine). Answers text taken finished (Ok o) c.next.new.self) c.in-Ok-Some.field-0-is
    (c.in-Ok-Some.ensures.answers text taken finished f) in
    record {
      reads = record {
        text = c.loop-line.invariant.reads.text;
        taken = c.loop-line.invariant.reads.taken ++ c.in-Ok-Some.line ∷ [];
        finished = c.loop-line.invariant.reads.finished;
        follows = takes c.loop-line.invariant.reads.text c.loop-line.invariant.reads.taken c.loop-line.invariant.reads.finished c.loop-line.invariant.reads.follows;
      };
      play = c.in_ok-bad-in-Ok-Some.ensures.play;
      phase = λ is. c.next.ensures.phase (c.loop-line.invariant.phase is);
      reach = λ is. c.next.ensures.reach (c.loop-line.invariant.phase is) ∙ c.loop-line.invariant.reach is;
      plays = λ config noise text taken finished is_over whole front f g.
          midway_on config noise is_over whole text finished c.loop-line.lines c.next.new.self c.loop-line.self c.play_text_line.new.self c.in-Ok-Some.line
          c.in_ok-bad-in-Ok-Some.field-0 takes front c.in_ok-bad-in-Ok-Some.ensures.turns c.in_default.is
          (c.loop-line.invariant.plays config noise text taken finished is_over whole front f g);
    }

pub returns-in-Err : goal.returns-in-Err
returns-in-Err c = record {
  plays = λ config noise text taken finished is_over whole front f g.
      subst (λ (b : Stop). Ends config noise is_over whole c.loop-line.self (Some b)) (sym c.stopped.ensures)
      (midway_refused config noise is_over whole text finished c.loop-line.lines c.next.new.self c.loop-line.self c.in-Err.field-0 c.number.result
      (λ text taken finished f. refused_answer text taken finished c.in-Err.field-0 c.next.new.self (search rules) (c.in-Err.ensures.answers text taken finished f))
      c.number.ensures front (c.loop-line.invariant.plays config noise text taken finished is_over whole front f g));
  play = c.loop-line.invariant.play;
  phase = λ is. c.next.ensures.phase (c.loop-line.invariant.phase is);
  reach = λ is. c.next.ensures.reach (c.loop-line.invariant.phase is) ∙ c.loop-line.invariant.reach is;
  reads = search rules;
  cause = search rules;
}

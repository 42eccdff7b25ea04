use Rattle.std.proofs.Common.{◌∙◌, Option, Ok, subst, rules}
use Rattle.sds_line.specs.declared.line.Line.{Line}
use Rattle.sds_line.specs.Splitting.{Answers}
use Rattle.sds_batchtext.proofs.Readings.{TakesLine, fewer_left, fed_on, still_fed, read_on, read_stops, read_all, read_refused, refused_answer}
use Rattle.sds_batchtext.proofs.reading.read_lines.Goals as goal

pub returns-in-Ok-None-clause-read : goal.returns-in-Ok-None-clause-read
returns-in-Ok-None-clause-read c = λ text taken finished r.
    read_all text taken finished c.loop-line.lines c.next.new.self c.loop-line.position c.loop-line.ready.items
    (λ text taken finished f. subst (λ (o : Option Line). Answers text taken finished (Ok o) c.next.new.self) c.in-Ok-None.field-0-is (c.in-Ok-None.ensures.answers text taken finished f))
    (c.loop-line.invariant.reads text taken finished r)

pub returns-in-Ok-None-clause-fed : goal.returns-in-Ok-None-clause-fed
returns-in-Ok-None-clause-fed c = λ none.
    still_fed c.loop-line.lines c.next.new.self (λ text taken finished f. subst (λ (o : Option Line). Answers text taken finished (Ok o) c.next.new.self) c.in-Ok-None.field-0-is (c.in-Ok-None.ensures.answers text taken finished f))
    c.loop-line.invariant.fed

pub returns-in-Some-clause-read : goal.returns-in-Some-clause-read
returns-in-Some-clause-read c = λ text taken finished r.
    let takes : TakesLine c.loop-line.lines c.next.new.self c.in-Ok-Some.line =
    λ text taken finished f. subst (λ (o : Option Line). Answers text taken finished (Ok o) c.next.new.self) c.in-Ok-Some.field-0-is (c.in-Ok-Some.ensures.answers text taken finished f) in
    read_stops text taken finished c.loop-line.lines c.next.new.self c.in-Ok-Some.line c.loop-line.position c.take_line.new.self c.loop-line.ready.items c.take_line.new.ready.items
    c.in_ok-cause-in-Ok-Some.field-0 c.in-Some.cause takes c.in_ok-cause-in-Ok-Some.ensures c.in-Some.is (c.loop-line.invariant.reads text taken finished r)

pub loop-line-smaller : goal.loop-line-smaller
loop-line-smaller c =
    let takes : TakesLine c.loop-line.lines c.next.new.self c.in-Ok-Some.line =
    λ text taken finished f. subst (λ (o : Option Line). Answers text taken finished (Ok o) c.next.new.self) c.in-Ok-Some.field-0-is (c.in-Ok-Some.ensures.answers text taken finished f) in
    fewer_left c.loop-line.lines c.next.new.self c.in-Ok-Some.line takes c.loop-line.invariant.fed

pub loop-line-preserved : goal.loop-line-preserved
loop-line-preserved c =
    let takes : TakesLine c.loop-line.lines c.next.new.self c.in-Ok-Some.line =
    λ text taken finished f. subst (λ (o : Option Line). Answers text taken finished (Ok o) c.next.new.self) c.in-Ok-Some.field-0-is (c.in-Ok-Some.ensures.answers text taken finished f) in
    record {
      fed = fed_on c.loop-line.lines c.next.new.self c.in-Ok-Some.line takes c.loop-line.invariant.fed;
      phase = λ is. c.next.ensures.phase (c.loop-line.invariant.phase is);
      reach = λ is. c.next.ensures.reach (c.loop-line.invariant.phase is) ∙ c.loop-line.invariant.reach is;
      reads = λ text taken finished r.
          read_on text taken finished c.loop-line.lines c.next.new.self c.in-Ok-Some.line c.loop-line.position c.take_line.new.self c.loop-line.ready.items c.take_line.new.ready.items
          c.in_ok-cause-in-Ok-Some.field-0 takes c.in_ok-cause-in-Ok-Some.ensures c.in_default.is (c.loop-line.invariant.reads text taken finished r);
    }

pub returns-in-Err : goal.returns-in-Err
returns-in-Err c = record {
  read = λ text taken finished r.
      read_refused text taken finished c.loop-line.lines c.next.new.self c.loop-line.position c.loop-line.ready.items c.in-Err.field-0 c.number.result
      (λ text taken finished f. refused_answer text taken finished c.in-Err.field-0 c.next.new.self (search rules) (c.in-Err.ensures.answers text taken finished f))
      c.number.ensures (c.loop-line.invariant.reads text taken finished r);
  fed = search rules;
  phase = λ is. c.next.ensures.phase (c.loop-line.invariant.phase is);
  reach = λ is. c.next.ensures.reach (c.loop-line.invariant.phase is) ∙ c.loop-line.invariant.reach is;
}

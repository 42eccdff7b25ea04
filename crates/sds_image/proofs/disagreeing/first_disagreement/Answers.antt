use Rattle.std.proofs.Common.{arith, subst, sym, take, ◌∙◌}
use Rattle.sds_image.specs.PartsSeen.{AreEarlier}
use Rattle.sds_image.proofs.Disagreements.{few_peers, few_rows, found, longer, passed}
use Rattle.sds_image.proofs.disagreeing.first_disagreement.Goals as goal

pub returns-then-disagrees-clause-first : goal.returns-then-disagrees-clause-first
returns-then-disagrees-clause-first c = λ state seen.
    found c.args.parts.now c.loop-place.place c.index-parts-place.result c.loop-place-test.true (sym c.index-parts-place.is) c.args.config.now state
    (sym (c.disagrees.ensures state (take c.loop-place.place c.args.parts.now) seen c.loop-place.invariant.earlier) ∙ c.if-disagrees.true)
    (c.loop-place.invariant.first state seen)

pub add-requires-clause-peers : goal.add-requires-clause-peers
add-requires-clause-peers c =
    let few = c.loop-place.invariant.fewer in
    let is = c.loop-place.invariant.earlier.peers in
    omega (arith, few, is)

pub loop-place-preserved : goal.loop-place-preserved
loop-place-preserved c =
    let state = c.requires.seen.0 in
    let part = c.index-parts-place.result in
    let before = take c.loop-place.place c.args.parts.now in
    let one = sym c.index-parts-place.is in
    let agrees = sym (c.disagrees.ensures state before c.requires.seen.1 c.loop-place.invariant.earlier) ∙ c.if-disagrees.false in
    record {
      earlier = subst (AreEarlier c.add.new.self) (sym (longer c.args.parts.now c.loop-place.place part c.loop-place-test.true one))
          (c.in_ok-add.ensures before c.loop-place.invariant.earlier);
      first = λ state seen.
          passed c.args.parts.now c.loop-place.place part c.loop-place-test.true one c.args.config.now state
          (sym (c.disagrees.ensures state before seen c.loop-place.invariant.earlier) ∙ c.if-disagrees.false)
          (c.loop-place.invariant.first state seen);
      few = few_rows c.args.config.now state c.args.parts.now c.loop-place.place part c.loop-place-test.true one agrees c.loop-place.invariant.few;
      fewer = few_peers c.args.config.now state c.args.parts.now c.loop-place.place part c.loop-place-test.true one agrees c.loop-place.invariant.fewer;
    }

use Rattle.std.proofs.Common.{◌∙◌, sym}
use Rattle.sds_rowtexts.proofs.Listed.{next_clean, next_place}
use Rattle.sds_rowtexts.proofs.names.places_of.Goals as goal

pub loop-at-preserved : goal.loop-at-preserved
loop-at-preserved c =
    let new = sym c.is_among.ensures ∙ c.if-is_among.false in
    record {
      places = rw c.in_ok-push.ensures.items (rw c.in-Ok.ensures.1 (next_place c.args.columns.now c.args.names.now c.loop-at.at c.index-names-at.result c.in-Some.place c.loop-at.places.items c.loop-at-test.true c.index-names-at.is c.in-Some.ensures ∙ c.loop-at.invariant.places));
      clean = next_clean c.args.columns.now c.args.names.now c.loop-at.at c.index-names-at.result c.in-Some.place c.loop-at-test.true c.index-names-at.is c.in-Some.ensures new ∙ c.loop-at.invariant.clean;
    }

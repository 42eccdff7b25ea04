use Rattle.std.proofs.Common.{◌∙◌, ◌+◌, ◌++◌, ◌∷◌, [], List, ap, sym, arith, drop, map, not}
use Rattle.std.specs.Str.{chars}
use Rattle.sds_types.specs.declared.batch.OutBatch.{OutBatch}
use Rattle.sds_history.specs.history.Acks.{same_standing}
use Rattle.sds_history.specs.history.Acts.{Act}
use Rattle.sds_history.specs.history.Acts.Act.{Acked}
use Rattle.sds_history.specs.history.Standings.{standing_of, with_standing}
use Rattle.sds_outgoing.specs.Restating.{restated_by, restated_from}
use Rattle.sds_outgoing.specs.declared.restating.Restated.{Restated}
use Rattle.sds_outgoing.proofs.Places.{counted}
use Rattle.sds_outgoing.proofs.Turns.{all_changed, one_changed, unchanged}
use Rattle.sds_outgoing.proofs.restating.changed.Goals as goal

pub loop-place-preserved-then-not-is_changed : goal.loop-place-preserved-then-not-is_changed
loop-place-preserved-then-not-is_changed c =
    let acts : List Act = Acked (chars c.args.from.now) c.args.acks.now ∷ [] in
    unchanged (with_standing c.args.batches.now acts) c.args.batches.now c.loop-place.place c.index-batches-place.result c.loop-place.changed
    (restated_by c.args.batches.now (chars c.args.from.now) c.args.acks.now) c.loop-place-test.true c.loop-place.invariant
    c.standing_after-standing.result (c.standing_after-standing.ensures ∙ ap (λ (b : OutBatch). standing_of c.args.batches.now acts b) c.index-batches-place.is)
    (sym c.if-not-is_changed.true ∙ (c.is_changed.ensures ∙ ap (λ (b : OutBatch). not (same_standing b.standing c.standing_after-standing.result)) c.index-batches-place.is))

pub loop-place-preserved : goal.loop-place-preserved
loop-place-preserved c =
    let acts : List Act = Acked (chars c.args.from.now) c.args.acks.now ∷ [] in
    ap (λ (made : List Restated). made ++ restated_from (c.loop-place.place + 1) (drop (c.loop-place.place + 1) c.args.batches.now) (map (with_standing c.args.batches.now acts) (drop (c.loop-place.place + 1) c.args.batches.now))) c.in_ok-push.ensures.ok
    ∙ one_changed (with_standing c.args.batches.now acts) c.args.batches.now c.loop-place.place c.index-batches-place.result c.loop-place.changed
    (restated_by c.args.batches.now (chars c.args.from.now) c.args.acks.now) c.loop-place-test.true c.loop-place.invariant
    c.standing_after-standing.result (c.standing_after-standing.ensures ∙ ap (λ (b : OutBatch). standing_of c.args.batches.now acts b) c.index-batches-place.is)
    (sym c.if-not-is_changed.false ∙ (c.is_changed.ensures ∙ ap (λ (b : OutBatch). not (same_standing b.standing c.standing_after-standing.result)) c.index-batches-place.is))

pub returns-clause-places : goal.returns-clause-places
returns-clause-places c =
    all_changed (with_standing c.args.batches.now (Acked (chars c.args.from.now) c.args.acks.now ∷ [])) c.args.batches.now c.loop-place.place c.loop-place.changed
    (restated_by c.args.batches.now (chars c.args.from.now) c.args.acks.now) (omega arith) c.loop-place.invariant

pub returns-clause-count : goal.returns-clause-count
returns-clause-count c = λ config state same.
    counted config state c.args.batches.now (chars c.args.from.now) c.args.acks.now c.loop-place.changed
    (all_changed (with_standing c.args.batches.now (Acked (chars c.args.from.now) c.args.acks.now ∷ [])) c.args.batches.now c.loop-place.place c.loop-place.changed
    (restated_by c.args.batches.now (chars c.args.from.now) c.args.acks.now) (omega arith) c.loop-place.invariant) same

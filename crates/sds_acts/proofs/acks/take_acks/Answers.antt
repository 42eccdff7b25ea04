use Rattle.std.proofs.Common.{◌∙◌, ap, arith, refl, subst, sym}
use Rattle.std.specs.Prelude.{Ok}
use Rattle.std.specs.Str.{chars}
use Rattle.sds_types.specs.declared.ack.AckRefusal.TheVariants.{Fault}
use Rattle.sds_types.specs.declared.node_fault.NodeFault.TheVariants.{Keeper}
use Rattle.sds_history.specs.history.Acks.{next_acks, own_acks_answer}
use Rattle.sds_history.specs.history.Acts.Act.{Acked}
use Rattle.sds_history.specs.history.Counters.{is_past}
use Rattle.sds_image.specs.Meaning.{meaning_of}
use Rattle.sds_outgoing.specs.Restating.{restated_by}
use Rattle.sds_commit.specs.Ends.{kept_with}
use Rattle.sds_acts.specs.Counting.{after_act}
use Rattle.sds_acts.proofs.CallEnds.{EndsBy, ack_apart, judged, made, passed, past_end, told_error, uncommitted, within_its_end}
use Rattle.sds_acts.proofs.OwnAnswers.{acks_fine, acks_none, acks_some, more_than_none}
use Rattle.sds_acts.proofs.QuietActs.{acked_counts}
use Rattle.sds_acts.proofs.acks.take_acks.Goals as goal

pub returns-in_err-judge_acks-clause-lasts : goal.returns-in_err-judge_acks-clause-lasts
returns-in_err-judge_acks-clause-lasts g c = record {
  damage = refl;
  faults = omega arith;
  rose = λ failed. absurd (acks_fine c.args.config.now (meaning_of c.args.state.now) (chars c.args.from.now) c.args.acks.now Keeper
      (c.in_err-judge_acks.ensures c.args.config.now ∙ (sym (told_error c.from_residual.result c.in_err-judge_acks.field-0.0 c.from_residual.ensures.1) ∙ failed)));
}

pub returns-then-count-eq0-clause-ends : goal.returns-then-count-eq0-clause-ends
returns-then-count-eq0-clause-ends g c =
    let state = meaning_of c.args.state.now in
    let from = chars c.args.from.now in
    let now = kept_with c.args.state.now (g.K.Keeper.keeping c.args.keeper.now) in
    let own = c.in_ok-judge_acks.ensures c.args.config.now in
    let count = c.count_of-count.ensures
    ∙ c.in_ok-changed.ensures.count c.args.config.now state (sym (c.deref.ensures.value ∙ c.inner.ensures)) in
    judged Fault ack_apart c.args.config.now now now (next_acks c.args.config.now state from c.args.acks.now)
    (own_acks_answer c.args.config.now state from c.args.acks.now) (Ok 0)
    (acks_none c.args.config.now state from c.args.acks.now c.count_of-count.result own count c.if-count-eq0.true)
    (own ∙ ap (λ n. Ok n) (sym count ∙ c.if-count-eq0.true)) refl (λ failed. absurd (cc))

pub returns-in_default-clause-ends : goal.returns-in_default-clause-ends
returns-in_default-clause-ends g c =
    let state = meaning_of c.args.state.now in
    let from = chars c.args.from.now in
    let now = kept_with c.args.state.now (g.K.Keeper.keeping c.args.keeper.now) in
    let own = c.in_ok-judge_acks.ensures c.args.config.now in
    let count = c.count_of-count.ensures
    ∙ c.in_ok-changed.ensures.count c.args.config.now state (sym (c.deref.ensures.value ∙ c.inner.ensures)) in
    passed Fault ack_apart c.args.config.now now now (Acked from c.args.acks.now) (next_acks c.args.config.now state from c.args.acks.now)
    (own_acks_answer c.args.config.now state from c.args.acks.now)
    (acks_some c.args.config.now state from c.args.acks.now c.count_of-count.result own count (more_than_none c.count_of-count.result c.if-count-eq0.false))
    (ap is_past (acked_counts c.args.config.now state from c.args.acks.now) ∙ past_end (after_act c.args.state.now.counts) c.in_default.ensures) refl

pub returns-in_err-restate_all-clause-ends : goal.returns-in_err-restate_all-clause-ends
returns-in_err-restate_all-clause-ends g c =
    let state = meaning_of c.args.state.now in
    let from = chars c.args.from.now in
    let now = kept_with c.args.state.now (g.K.Keeper.keeping c.args.keeper.now) in
    let later = kept_with c.restate_all.new.state (g.K.Keeper.keeping c.restate_all.new.keeper) in
    let stand = c.deref.ensures.value ∙ c.inner.ensures in
    let own = c.in_ok-judge_acks.ensures c.args.config.now in
    let count = c.count_of-count.ensures ∙ c.in_ok-changed.ensures.count c.args.config.now state (sym stand) in
    let places = c.deref-2.ensures.value
    ∙ (c.inner-2.ensures ∙ (c.in_ok-changed.ensures.places ∙ ap (λ bs. restated_by bs from c.args.acks.now) stand)) in
    subst (EndsBy Fault ack_apart c.args.config.now now later (next_acks c.args.config.now state from c.args.acks.now)
    (own_acks_answer c.args.config.now state from c.args.acks.now))
    (sym (told_error c.from_residual-in_err-restate_all.result _ c.from_residual-in_err-restate_all.ensures.1))
    (uncommitted Fault ack_apart c.args.config.now now later (Acked from c.args.acks.now) (next_acks c.args.config.now state from c.args.acks.now)
    (own_acks_answer c.args.config.now state from c.args.acks.now) c.in_err-restate_all.field-0.0
    (acks_some c.args.config.now state from c.args.acks.now c.count_of-count.result own count (more_than_none c.count_of-count.result c.if-count-eq0.false))
    (ap is_past (acked_counts c.args.config.now state from c.args.acks.now)
    ∙ (within_its_end c.in-Some.counts (after_act c.args.state.now.counts) c.in-Some.ensures).within)
    (c.in_err-restate_all.ensures.ends from c.args.acks.now places))

pub returns-clause-ends : goal.returns-clause-ends
returns-clause-ends g c =
    let state = meaning_of c.args.state.now in
    let from = chars c.args.from.now in
    let now = kept_with c.args.state.now (g.K.Keeper.keeping c.args.keeper.now) in
    let later = kept_with c.restate_all.new.state (g.K.Keeper.keeping c.restate_all.new.keeper) in
    let stand = c.deref.ensures.value ∙ c.inner.ensures in
    let own = c.in_ok-judge_acks.ensures c.args.config.now in
    let count = c.count_of-count.ensures ∙ c.in_ok-changed.ensures.count c.args.config.now state (sym stand) in
    let places = c.deref-2.ensures.value
    ∙ (c.inner-2.ensures ∙ (c.in_ok-changed.ensures.places ∙ ap (λ bs. restated_by bs from c.args.acks.now) stand)) in
    made Fault ack_apart c.args.config.now now later (Acked from c.args.acks.now) (next_acks c.args.config.now state from c.args.acks.now)
    (own_acks_answer c.args.config.now state from c.args.acks.now) (Ok c.count_of-count.result)
    (acks_some c.args.config.now state from c.args.acks.now c.count_of-count.result own count (more_than_none c.count_of-count.result c.if-count-eq0.false))
    (ap is_past (acked_counts c.args.config.now state from c.args.acks.now)
    ∙ (within_its_end c.in-Some.counts (after_act c.args.state.now.counts) c.in-Some.ensures).within)
    (own ∙ ap (λ n. Ok n) (sym count)) (c.in_ok-restate_all.ensures.ends from c.args.acks.now places) (λ failed. absurd (cc)) (λ lacks. absurd (cc))

use Rattle.std.proofs.Common.{◌∙◌, ap, arith, false, refl, sym}
use Rattle.std.specs.Prelude.{Ok}
use Rattle.std.specs.Str.{chars}
use Rattle.sds_types.specs.declared.node_fault.NodeFault.TheVariants.{Keeper}
use Rattle.sds_types.specs.declared.registration.RegRefusal.TheVariants.{Fault}
use Rattle.sds_history.specs.history.Acts.Act.{Joined}
use Rattle.sds_history.specs.history.Joins.{next_join, own_join_answer, told_join}
use Rattle.sds_image.specs.Meaning.{meaning_of}
use Rattle.sds_commit.specs.Ends.{kept_with}
use Rattle.sds_acts.specs.Counting.{after_act}
use Rattle.sds_acts.specs.Parts.{kept_with_token}
use Rattle.sds_history.specs.history.Counters.{is_past}
use Rattle.sds_acts.proofs.CallEnds.{judged, made, reg_apart, told_error, within_its_end}
use Rattle.sds_acts.proofs.OwnAnswers.{join_fine, join_refused, join_told, joins_new}
use Rattle.sds_acts.proofs.QuietActs.{joined_counts}
use Rattle.sds_acts.proofs.registering.join.Goals as goal

pub returns-in_err-judge_join-clause-ends : goal.returns-in_err-judge_join-clause-ends
returns-in_err-judge_join-clause-ends g c =
    let state = meaning_of c.args.state.now in
    let own = own_join_answer c.args.config.now state c.args.other.now (chars c.args.token.now) in
    let now = kept_with c.args.state.now (g.K.Keeper.keeping c.args.keeper.now) in
    let same = told_error c.from_residual.result c.in_err-judge_join.field-0.0 c.from_residual.ensures.1 in
    judged Fault reg_apart c.args.config.now now now (next_join c.args.config.now state c.args.other.now (chars c.args.token.now)) (told_join own)
    c.from_residual.result (join_refused state c.args.other.now own c.in_err-judge_join.field-0.0 (sym c.in_err-judge_join.ensures))
    (sym c.in_err-judge_join.ensures ∙ sym same) refl
    (λ failed. join_fine c.args.config.now state c.args.other.now (chars c.args.token.now) Keeper (sym c.in_err-judge_join.ensures ∙ (sym same ∙ failed)))

pub returns-in_err-judge_join-clause-lasts : goal.returns-in_err-judge_join-clause-lasts
returns-in_err-judge_join-clause-lasts g c = record {
  damage = refl;
  faults = omega arith;
  rose = λ failed. absurd (join_fine c.args.config.now (meaning_of c.args.state.now) c.args.other.now (chars c.args.token.now) Keeper
      (sym c.in_err-judge_join.ensures ∙ (sym (told_error c.from_residual.result c.in_err-judge_join.field-0.0 c.from_residual.ensures.1) ∙ failed)));
}

pub returns-clause-ends : goal.returns-clause-ends
returns-clause-ends g c =
    let state = meaning_of c.args.state.now in
    let own = own_join_answer c.args.config.now state c.args.other.now (chars c.args.token.now) in
    let joins = kept_with_token c.args.other.now (chars c.args.token.now) false in
    made Fault reg_apart c.args.config.now (kept_with c.args.state.now (g.K.Keeper.keeping c.args.keeper.now))
    (kept_with c.keep.new.state (g.K.Keeper.keeping c.keep.new.keeper)) (Joined joins)
    (next_join c.args.config.now state c.args.other.now (chars c.args.token.now)) (told_join own) (Ok tt)
    (joins_new state c.args.other.now false own (chars c.args.token.now) (sym c.if-is_peer.ensures)
    (join_told c.args.config.now state c.args.other.now (chars c.args.token.now) (sym c.in_ok-judge_join.ensures)))
    (ap is_past (joined_counts c.args.config.now state joins) ∙ (within_its_end c.in-Some.counts (after_act c.args.state.now.counts) c.in-Some.ensures).within)
    (sym c.in_ok-judge_join.ensures) c.in_ok-keep.ensures.ends (λ failed. absurd (cc)) (λ lacks. absurd (cc))

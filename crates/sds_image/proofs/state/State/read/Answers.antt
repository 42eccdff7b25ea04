use Rattle.std.proofs.Common.{◌≡◌, List, Some, ap, subst, sym, ◌∙◌, ◌<◌, length}
use Rattle.std.specs.Prelude.{IfSome, IsSome, option_and_then, slice_get, unwrap_or}
use Rattle.std.specs.List.{filter_map}
use Rattle.sds_history.specs.history.States.{zero_counts}
use Rattle.sds_records.specs.declared.told.Told.{Told}
use Rattle.sds_image.specs.Meaning.{meaning_of}
use Rattle.sds_image.specs.PartsSeen.{IsBadAmong, records_of_pairs}
use Rattle.sds_image.specs.Reading.{counts_of_part, first_told, me_of_part, row_of_part, sorted_rows, state_told, state_with}
use Rattle.sds_image.proofs.StatesRead.{agrees, contradicts, first_is, me_told, no_me, no_one, none_of, refused}
use Rattle.sds_image.proofs.TellingParts.{any_me, me_kept, pairs_back}
use Rattle.sds_image.proofs.state.State.read.Goals as goal

pub returns-then-not-has_me-clause-reading : goal.returns-then-not-has_me-clause-reading
returns-then-not-has_me-clause-reading c = λ sound kept are.
    no_me c.args.config.now kept c.of.result (me_kept kept c.args.records.now c.has_me.result are c.has_me.ensures ∙ c.if-not-has_me.true)
    (c.of.ensures ∙ c.new.ensures.items)

pub returns-in-Err-clause-reading : goal.returns-in-Err-clause-reading
returns-in-Err-clause-reading c = λ sound kept are.
    refused c.args.config.now kept c.in-Err.refusal (me_kept kept c.args.records.now c.has_me.result are c.has_me.ensures ∙ c.if-not-has_me.false)
    (subst (λ xs. IsBadAmong c.args.config.now xs c.in-Err.refusal) (pairs_back kept c.args.records.now are) (c.in-Err.ensures.bad sound))

pub first_disagreement-requires-clause-seen : goal.first_disagreement-requires-clause-seen
first_disagreement-requires-clause-seen c = (state_with c.args.config.now c.deref.result.now no_one, c.in_ok-seen.ensures.seen no_one)

pub returns-in-Some-clause-reading : goal.returns-in-Some-clause-reading
returns-in-Some-clause-reading c = λ sound kept are.
    let one = c.deref.ensures.value ∙ c.inner.ensures in
    let other = c.deref-2.ensures.value ∙ c.inner-2.ensures in
    contradicts c.args.config.now kept c.args.records.now c.in-Ok.parts c.in-Some.place c.index-records-place.result c.in_ok-twin.field-0
    are c.in-Ok.ensures.ok
    (me_told c.args.config.now (records_of_pairs c.args.records.now) c.in-Ok.parts c.in-Ok.ensures.ok
    (any_me c.args.records.now ∙ (sym c.has_me.ensures ∙ c.if-not-has_me.false)))
    (λ me. first_is c.args.config.now c.in-Ok.parts c.deref.result.now c.deref-2.result.now c.in_ok-seen.seen c.in_ok-place.field-0 one other
    c.in_ok-seen.ensures.seen c.in_ok-place.ensures.first me ∙ ap (option_and_then (slice_get c.in-Ok.parts)) c.in-Some.is)
    (subst (λ (xs : List Told). c.in-Some.place < length xs) other
    (subst (λ o. IfSome o (λ place. place < length c.deref-2.result.now)) c.in-Some.is c.in_ok-place.ensures.within))
    (sym c.index-records-place.is) (c.in_ok-twin.ensures ∙ ap (λ pair. pair.0) (sym c.index-records-place.is))

pub state_of-requires-clause-me : goal.state_of-requires-clause-me
state_of-requires-clause-me c =
    subst (λ xs. IsSome (first_told me_of_part xs)) (sym c.into_inner.ensures)
    (me_told c.args.config.now (records_of_pairs c.args.records.now) c.in-Ok.parts c.in-Ok.ensures.ok
    (any_me c.args.records.now ∙ (sym c.has_me.ensures ∙ c.if-not-has_me.false)))

pub state_of-requires-clause-counts : goal.state_of-requires-clause-counts
state_of-requires-clause-counts c =
    (c.in_ok-seen.ensures.seen no_one).counts
    ∙ ap (λ xs. unwrap_or (first_told counts_of_part xs) zero_counts) (c.deref.ensures.value ∙ (c.inner.ensures ∙ sym c.into_inner.ensures))

pub state_of-requires-clause-rows : goal.state_of-requires-clause-rows
state_of-requires-clause-rows c =
    ap (λ v. v.items) c.into_rows-rows.ensures
    ∙ ((c.in_ok-seen.ensures.seen no_one).rows
    ∙ ap (λ xs. sorted_rows c.args.config.now.tables (filter_map row_of_part xs)) (c.deref.ensures.value ∙ (c.inner.ensures ∙ sym c.into_inner.ensures)))

pub returns-clause-reading : goal.returns-clause-reading
returns-clause-reading c = λ sound kept are.
    let one = c.deref.ensures.value ∙ c.inner.ensures in
    let other = c.deref-2.ensures.value ∙ c.inner-2.ensures in
    agrees c.args.config.now kept c.args.records.now c.in-Ok.parts c.in_ok-state_of.field-0 are c.in-Ok.ensures.ok
    (me_told c.args.config.now (records_of_pairs c.args.records.now) c.in-Ok.parts c.in-Ok.ensures.ok
    (any_me c.args.records.now ∙ (sym c.has_me.ensures ∙ c.if-not-has_me.false)))
    (λ me. first_is c.args.config.now c.in-Ok.parts c.deref.result.now c.deref-2.result.now c.in_ok-seen.seen c.in_ok-place.field-0 one other
    c.in_ok-seen.ensures.seen c.in_ok-place.ensures.first me ∙ ap (option_and_then (slice_get c.in-Ok.parts)) (none_of c.in_ok-place.field-0 c.in_default.not-Some))
    (subst (λ xs. state_told c.args.config.now xs ≡ Some (meaning_of c.in_ok-state_of.field-0)) c.into_inner.ensures c.in_ok-state_of.ensures.told)

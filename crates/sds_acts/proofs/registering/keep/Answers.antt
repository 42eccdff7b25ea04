use Rattle.std.proofs.Common.{◌∙◌, ap, refl}
use Rattle.std.specs.Str.{chars}
use Rattle.sds_history.specs.history.Acts.Act.{Joined}
use Rattle.sds_history.specs.history.Openings.{given_if}
use Rattle.sds_history.specs.history.Orders.{with_item}
use Rattle.sds_history.specs.history.Peers.{peer_key}
use Rattle.sds_image.specs.Meaning.{meaning_of}
use Rattle.sds_image.specs.declared.state.State as kept
use Rattle.sds_acts.specs.Parts.{kept_with_token}
use Rattle.sds_acts.proofs.CallEnds.{act_made, passed_on}
use Rattle.sds_acts.proofs.QuietActs.{joining_is, joining_state}
use Rattle.sds_acts.proofs.registering.keep.Goals as goal

pub returns-in_err-keep_peer-clause-ends : goal.returns-in_err-keep_peer-clause-ends
returns-in_err-keep_peer-clause-ends g c =
    let joins = kept_with_token c.args.peer.now (chars c.args.token.now) c.args.child in
    passed_on c.args.config.now c.args.state.now c.keep_peer.new.state _ _ (Joined joins) c.deref-2.result.now c.in_err-keep_peer.field-0.0 _
    (joining_is c.args.config.now (meaning_of c.args.state.now) joins c.args.counts c.in_ok-kept.kept c.deref.result.now _ c.deref-2.result.now
    c.requires.counts c.in_ok-kept.ensures (c.deref.ensures.value ∙ c.inner.ensures) c.in_ok-edits.ensures c.deref-2.ensures.value)
    c.in_err-keep_peer.ensures.told c.from_residual-in_err-keep_peer.ensures.1 c.in_err-keep_peer.ensures.err

pub returns-clause-ends : goal.returns-clause-ends
returns-clause-ends g c =
    let joins = kept_with_token c.args.peer.now (chars c.args.token.now) c.args.child in
    act_made c.args.config.now c.args.state.now (record c.give.new.state { counts = c.args.counts }) _ _ (Joined joins) c.deref-2.result.now
    (joining_is c.args.config.now (meaning_of c.args.state.now) joins c.args.counts c.in_ok-kept.kept c.deref.result.now _ c.deref-2.result.now
    c.requires.counts c.in_ok-kept.ensures (c.deref.ensures.value ∙ c.inner.ensures) c.in_ok-edits.ensures c.deref-2.ensures.value)
    c.in_ok-keep_peer.ensures.told
    (ap (λ (s : kept.State). meaning_of (record s { counts = c.args.counts }))
    (c.give.ensures ∙ ap (λ (s : kept.State). record s { openings = given_if c.args.child c.args.peer.now s.openings }) c.in_ok-keep_peer.ensures.ok)
    ∙ joining_state c.args.config.now (meaning_of c.args.state.now) joins c.args.counts _ _ c.requires.counts
    (ap (λ k. with_item peer_key k c.args.state.now.peers) c.in_ok-kept.ensures) refl)

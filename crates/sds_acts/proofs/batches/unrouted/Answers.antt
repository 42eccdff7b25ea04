use Rattle.std.proofs.Common.{◌∙◌}
use Rattle.sds_acts.proofs.Routes.{unrouted_none, unrouted_some}
use Rattle.sds_acts.proofs.batches.unrouted.Goals as goal

pub returns-in-Some : goal.returns-in-Some
returns-in-Some c =
    unrouted_some c.args.state.now.counts.routed c.args.state.now.changes c.as_slice-changes.result.now c.in-Some.first c.requires
    (c.as_slice-changes.ensures.value ∙ c.inner.ensures) c.in-Some.ensures

pub returns-in-None : goal.returns-in-None
returns-in-None c =
    unrouted_none c.args.state.now.counts.routed c.args.state.now.changes c.as_slice-changes.result.now
    (c.as_slice-changes.ensures.value ∙ c.inner.ensures) c.in-None.ensures

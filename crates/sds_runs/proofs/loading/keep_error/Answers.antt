use Rattle.std.proofs.Common.{subst, sym, ◌∙◌}
use Rattle.std.specs.Str.{chars}
use Rattle.sds_types.specs.declared.lane.LaneIn.{LaneIn}
use Rattle.sds_types.specs.declared.load_answer.LoadAnswer.TheVariants.{Erred}
use Rattle.sds_types.specs.declared.load_answer.PeerRefusal.TheVariants.{Fault}
use Rattle.sds_image.specs.Meaning.{meaning_of}
use Rattle.sds_commit.specs.Ends.{kept_with}
use Rattle.sds_runs.specs.Keeping.{Keeps}
use Rattle.sds_runs.specs.Made.{error_kept}
use Rattle.sds_runs.proofs.NextLoads.{error_made}
use Rattle.sds_runs.proofs.loading.keep_error.Goals as goal

pub returns-clause-ends : goal.returns-clause-ends
returns-clause-ends g c =
    let state = meaning_of c.args.state.now in
    let before = kept_with c.args.state.now (g.K.Keeper.keeping c.args.keeper.now) in
    let after = kept_with c.keep_lane.new.state (g.K.Keeper.keeping c.keep_lane.new.keeper) in
    error_made c.args.config.now state (g.K.Keeper.keeping c.args.keeper.now) (chars c.args.from.now) c.args.channel c.args.error after c.keep_lane.result
    (sym c.keeps_error.ensures ∙ c.if-keeps_error.false)
    (subst (λ (lane : LaneIn). Keeps Fault (error_kept c.args.config.now state lane) (Erred c.args.error.row c.args.error.rule) before after c.keep_lane.result)
    c.in_ok-lane.ensures c.keep_lane.ensures.keeps)

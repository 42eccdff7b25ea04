use Rattle.std.proofs.Common.{List, Ok, Some, true, [], ap, subst, sym, ◌+◌, ◌∙◌}
use Rattle.std.specs.Str.{chars}
use Rattle.sds_types.specs.declared.lane.LaneIn.{LaneIn}
use Rattle.sds_types.specs.declared.load_answer.LoadAnswer.TheVariants as answer
use Rattle.sds_types.specs.declared.load_answer.PeerRefusal.TheVariants.{Fault}
use Rattle.sds_types.specs.declared.row.TableRow.{TableRow}
use Rattle.sds_history.specs.history.Loads.{error_act}
use Rattle.sds_image.specs.Meaning.{meaning_of}
use Rattle.sds_rows.specs.Undoing.{Undone, without_undos}
use Rattle.sds_capture.specs.Ends.{dones_of, end_of}
use Rattle.sds_capture.specs.declared.outcome.Outcome.{Outcome}
use Rattle.sds_commit.specs.Ends.{kept_with}
use Rattle.sds_runs.specs.Keeping.{Keeps}
use Rattle.sds_runs.specs.Lanes.{loaded_lane}
use Rattle.sds_runs.specs.Made.{load_kept, with_rows}
use Rattle.sds_runs.proofs.Endings.{EndsOwn}
use Rattle.sds_runs.proofs.Fitting.{next_load_steps}
use Rattle.sds_runs.proofs.NextLoads.{load_broken, load_ignored, load_made, load_outcome_is}
use Rattle.sds_runs.proofs.loading.load_rows.Goals as goal

pub keep_or_undo-requires-clause-steps : goal.keep_or_undo-requires-clause-steps
keep_or_undo-requires-clause-steps g c =
    let state = meaning_of c.args.state.now in
    next_load_steps c.args.config.now state (chars c.args.from.now) c.args.batch.now c.outcome.new.tables.rows c.in-Done.dones
    c.requires.config c.requires.state.sound.tables c.requires.asked.0 c.requires.asked.1
    (load_outcome_is c.args.config.now state (chars c.as_str-group.result.now) c.waiting_in-waiting.result c.args.batch.now c.as_str-group.ensures.chars c.waiting_in-waiting.ensures
    ∙ (sym c.in_ok-dones.ensures.outcome ∙ ap (λ (o : Outcome). end_of o c.outcome.new.tables.rows) c.in-Done.is))

pub returns-in-Done-clause-ends : goal.returns-in-Done-clause-ends
returns-in-Done-clause-ends g c =
    let state = meaning_of c.args.state.now in
    let told = g.K.Keeper.keeping c.args.keeper.now in
    let after = kept_with c.keep_or_undo.new.state (g.K.Keeper.keeping c.keep_or_undo.new.keeper) in
    load_made c.args.config.now state told (chars c.args.from.now) c.args.batch.now c.args.channel (without_undos c.in-Done.dones) c.outcome.new.tables.rows
    after c.keep_or_undo.result
    (load_outcome_is c.args.config.now state (chars c.as_str-group.result.now) c.waiting_in-waiting.result c.args.batch.now c.as_str-group.ensures.chars c.waiting_in-waiting.ensures
    ∙ (sym c.in_ok-dones.ensures.outcome ∙ ap (λ (o : Outcome). end_of o c.outcome.new.tables.rows) c.in-Done.is))
    (subst (λ (lane : LaneIn). Keeps Fault (load_kept c.args.config.now (with_rows state c.outcome.new.tables.rows) lane (without_undos c.in-Done.dones))
    (answer.Loaded (state.counts.acts + 1)) (record { state = state; told = told }) after c.keep_or_undo.result) c.in_ok-lane.ensures
    (c.keep_or_undo.ensures.keeps c.args.state.now.tables.rows
    (subst (λ (o : Outcome). Undone (dones_of o) c.outcome.new.tables c.args.state.now.tables.rows) c.in-Done.is c.in_ok-dones.ensures.undone)))

pub returns-in-Ignored-clause-ends : goal.returns-in-Ignored-clause-ends
returns-in-Ignored-clause-ends g c =
    let state = meaning_of c.args.state.now in
    let told = g.K.Keeper.keeping c.args.keeper.now in
    let after = kept_with c.keep_load.new.state (g.K.Keeper.keeping c.keep_load.new.keeper) in
    load_ignored c.args.config.now state told (chars c.args.from.now) c.args.batch.now c.args.channel after c.keep_load.result
    (load_outcome_is c.args.config.now state (chars c.as_str-group.result.now) c.waiting_in-waiting.result c.args.batch.now c.as_str-group.ensures.chars c.waiting_in-waiting.ensures
    ∙ (sym c.in_ok-dones.ensures.outcome ∙ ap (λ (o : Outcome). end_of o c.outcome.new.tables.rows) c.in-Ignored.is))
    (subst (λ (rows : List TableRow). Keeps Fault (load_kept c.args.config.now (with_rows state rows) (loaded_lane c.args.channel c.args.batch.now true) [])
    (answer.Ignored (state.counts.acts + 1)) (record { state = with_rows state rows; told = told }) after c.keep_load.result)
    (subst (λ (o : Outcome). Undone (dones_of o) c.outcome.new.tables c.args.state.now.tables.rows) c.in-Ignored.is c.in_ok-dones.ensures.undone)
    (subst (λ (lane : LaneIn). Keeps Fault (load_kept c.args.config.now (with_rows state c.outcome.new.tables.rows) (record lane { ignored = Some true }) [])
    (answer.Ignored (state.counts.acts + 1)) (record { state = with_rows state c.outcome.new.tables.rows; told = told }) after c.keep_load.result)
    c.in_ok-lane.ensures c.keep_load.ensures.keeps))

pub returns-in-Broken-clause-ends : goal.returns-in-Broken-clause-ends
returns-in-Broken-clause-ends g c =
    let state = meaning_of c.args.state.now in
    let told = g.K.Keeper.keeping c.args.keeper.now in
    let after = kept_with c.keep_error.new.state (g.K.Keeper.keeping c.keep_error.new.keeper) in
    load_broken c.args.config.now state told (chars c.args.from.now) c.args.batch.now c.args.channel c.in-Broken.row c.in-Broken.rule after c.keep_error.result
    (load_outcome_is c.args.config.now state (chars c.as_str-group.result.now) c.waiting_in-waiting.result c.args.batch.now c.as_str-group.ensures.chars c.waiting_in-waiting.ensures
    ∙ (sym c.in_ok-dones.ensures.outcome ∙ ap (λ (o : Outcome). end_of o c.outcome.new.tables.rows) c.in-Broken.is))
    (subst (λ (rows : List TableRow). EndsOwn c.args.config.now (record { state = with_rows state rows; told = told }) after Fault
    (error_act (with_rows state rows) (chars c.args.from.now) c.args.channel (record { batch = c.args.batch.now.batch; row = c.in-Broken.row; rule = c.in-Broken.rule }))
    (Ok (answer.Erred c.in-Broken.row c.in-Broken.rule)) c.keep_error.result)
    (subst (λ (o : Outcome). Undone (dones_of o) c.outcome.new.tables c.args.state.now.tables.rows) c.in-Broken.is c.in_ok-dones.ensures.undone)
    c.keep_error.ensures.ends)

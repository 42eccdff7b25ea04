use Rattle.std.proofs.Common.{ap, sym, ◌∙◌}
use Rattle.std.specs.Str.{chars}
use Rattle.sds_image.specs.Meaning.{meaning_of}
use Rattle.sds_rows.specs.Undoing.{without_undos}
use Rattle.sds_commit.specs.Ends.{Kept, kept_with}
use Rattle.sds_runs.specs.Made.{with_rows}
use Rattle.sds_runs.proofs.Fitting.{next_steps}
use Rattle.sds_runs.proofs.NextWrites.{outcome_is, write_made, write_refused}
use Rattle.sds_runs.proofs.writing.next_write.Goals as goal

pub keep_or_undo-requires-clause-steps : goal.keep_or_undo-requires-clause-steps
keep_or_undo-requires-clause-steps g c =
    let state = meaning_of c.args.state.now in
    next_steps c.args.config.now state (chars c.args.writer.now) c.args.tx.now c.run_write.new.tables.rows c.in-Ok.dones
    c.requires.config c.requires.state.sound.tables c.requires.asked.0 c.requires.asked.1
    (outcome_is c.args.config.now state (chars c.as_str-group.result.now) c.waiting_in-waiting.result c.args.tx.now c.as_str-group.ensures.chars c.waiting_in-waiting.ensures
    ∙ sym (c.in-Ok.ensures.outcome (λ lacks. absurd (cc))))

pub returns-in-Ok-clause-ends : goal.returns-in-Ok-clause-ends
returns-in-Ok-clause-ends g c =
    let state = meaning_of c.args.state.now in
    write_made c.args.config.now state (g.K.Keeper.keeping c.args.keeper.now) (chars c.args.writer.now) c.args.number c.args.tx.now
    (without_undos c.in-Ok.dones) c.run_write.new.tables.rows
    (kept_with c.keep_or_undo.new.state (g.K.Keeper.keeping c.keep_or_undo.new.keeper)) c.keep_or_undo.result
    (outcome_is c.args.config.now state (chars c.as_str-group.result.now) c.waiting_in-waiting.result c.args.tx.now c.as_str-group.ensures.chars c.waiting_in-waiting.ensures
    ∙ sym (c.in-Ok.ensures.outcome (λ lacks. absurd (cc))))
    (c.keep_or_undo.ensures.keeps c.args.state.now.tables.rows c.in-Ok.ensures.undone)

pub returns-in-Err-clause-ends : goal.returns-in-Err-clause-ends
returns-in-Err-clause-ends g c =
    let state = meaning_of c.args.state.now in
    let told = g.K.Keeper.keeping c.args.keeper.now in
    let after : Kept = record { state = with_rows state c.run_write.new.tables.rows; told = told } in
    write_refused c.args.config.now state told (chars c.args.writer.now) c.args.number c.args.tx.now
    c.run_write.result c.in-Err.broken c.refusal_of.result c.run_write.new.tables.rows after _ c.in-Err.is c.refusal_of.ensures
    (ap (λ rows. record { state = with_rows state rows; told = told }) c.in-Err.ensures.undone)
    c.run_write.ensures.outcome
    (outcome_is c.args.config.now state (chars c.as_str-group.result.now) c.waiting_in-waiting.result c.args.tx.now c.as_str-group.ensures.chars c.waiting_in-waiting.ensures)

use Rattle.std.proofs.Common.{rules, ◌∙◌}
use Rattle.std.specs.Str.{chars}
use Rattle.std.proofs.lemmas.Result.{IfOk-weaker}
use Rattle.sds_load.proofs.Numbering.{outcome_by_run}
use Rattle.sds_load.proofs.outcomes.outcome.Goals as goal

pub returns-in-Rows-clause-outcome : goal.returns-in-Rows-clause-outcome
returns-in-Rows-clause-outcome c =
    IfOk-weaker c.run_rows.result _ _ (λ outcome is. is ∙ outcome_by_run c.args.config.now (chars c.args.group.now) c.args.waiting c.args.tables.now.rows c.args.batch.now
    c.as_slice.result.now (search rules) (search rules)) c.run_rows.ensures.outcome

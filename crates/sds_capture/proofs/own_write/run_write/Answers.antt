use Rattle.std.proofs.Common.{ap, sym}
use Rattle.std.specs.Str.{chars}
use Rattle.sds_capture.specs.Ends.{end_of}
use Rattle.sds_capture.proofs.OwnRuns.{made_own, own_run_ends}
use Rattle.sds_capture.proofs.own_write.run_write.Goals as goal

pub unreachable-requires : goal.unreachable-requires
unreachable-requires c =
    own_run_ends c.args.config.now (chars c.args.group.now) c.args.waiting c.args.tables.now.rows c.args.tx.now
    (sym (made_own c.args.config.now (chars c.args.group.now) c.args.waiting c.args.tables.now.rows c.run_rows.new.tables.rows c.args.tx.now c.in-Ok-Ignored.field-0 _
    c.in-Ok-Ignored.ensures.outcome (ap (λ outcome. end_of outcome c.run_rows.new.tables.rows) c.in-Ok-Ignored.field-0-is)))

pub returns-in-Ok-Done-clause-outcome : goal.returns-in-Ok-Done-clause-outcome
returns-in-Ok-Done-clause-outcome c other =
    made_own c.args.config.now (chars c.args.group.now) c.args.waiting c.args.tables.now.rows c.run_rows.new.tables.rows c.args.tx.now c.in-Ok-Done.field-0 _
    c.in-Ok-Done.ensures.outcome (ap (λ outcome. end_of outcome c.run_rows.new.tables.rows) c.in-Ok-Done.field-0-is)

pub returns-in-Ok-Broken-clause-outcome : goal.returns-in-Ok-Broken-clause-outcome
returns-in-Ok-Broken-clause-outcome c other =
    made_own c.args.config.now (chars c.args.group.now) c.args.waiting c.args.tables.now.rows c.run_rows.new.tables.rows c.args.tx.now c.in-Ok-Broken.field-0 _
    c.in-Ok-Broken.ensures.outcome (ap (λ outcome. end_of outcome c.run_rows.new.tables.rows) c.in-Ok-Broken.field-0-is)

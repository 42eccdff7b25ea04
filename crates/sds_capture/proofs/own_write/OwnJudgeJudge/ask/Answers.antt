use Rattle.std.proofs.Common.{◌∙◌}
use Rattle.std.proofs.lemmas.Result.{IfOk-weaker}
use Rattle.sds_capture.proofs.OwnRuns.{adds_nothing, asked, refused}
use Rattle.sds_capture.proofs.own_write.OwnJudgeJudge.ask.Goals as goal

pub returns-in-Err : goal.returns-in-Err
returns-in-Err c =
    refused c.as_slice-defs.result.now c.args.self.now.defs.now c.args.tables.now.rows c.args.row.now c.in_ok-doc.doc c.in_ok-rule.field-0
    (c.as_slice-defs.ensures.value ∙ c.inner.ensures) c.in_ok-doc.ensures c.in_ok-rule.ensures c.in-Err.rule c.in-Err.is

pub own_step-requires : goal.own_step-requires
own_step-requires c =
    adds_nothing c.as_slice-defs.result.now c.in_ok-doc.doc c.in_ok-rule.field-0 c.in-Ok.row c.in_ok-rule.ensures c.in-Ok.is

pub returns : goal.returns
returns c = IfOk-weaker c.own_step.result _ _
    (λ asks is. asked c.as_slice-defs.result.now c.args.self.now.defs.now c.args.tables.now.rows c.args.row.now c.in_ok-doc.doc c.in_ok-rule.field-0
    (c.as_slice-defs.ensures.value ∙ c.inner.ensures) c.in_ok-doc.ensures c.in_ok-rule.ensures
    c.args.tables.now.defs c.in-Ok.row asks c.in-Ok.is c.requires is) c.own_step.ensures

use Rattle.std.proofs.Common.{◌∙◌, inl, inr}
use Rattle.sds_trade.specs.rules.TextRules.{is_bad, is_too_long}
use Rattle.sds_rowtexts.specs.Placed.{is_refused, placed_value}
use Rattle.sds_rowtexts.proofs.Pairs.{told_all}
use Rattle.sds_rowvalues.proofs.Pairs.{made_all}
use Rattle.sds_rowtexts.proofs.values.read_fields.Goals as goal
use Rattle.sds_rowtexts.proofs.values.read_fields.Goals.{else-loop-at-test, then-loop-at-test+in_default}

pub returns-clause-values : goal.returns-clause-values
returns-clause-values c =
    c.of.ensures ∙ made_all (placed_value c.args.form c.args.columns.now) c.loop-at.values.items c.args.places.now c.args.fields.now c.loop-at.at _ c.loop-at.invariant.values (elim c.loop-at-test.branch [
      | else-loop-at-test w ↦ inl w.loop-at-test.false
      | then-loop-at-test+in_default w ↦ inr w.in_default.ensures.lookup.3
    ])

pub returns-clause-bad : goal.returns-clause-bad
returns-clause-bad c =
    told_all (is_refused is_bad c.args.form c.args.columns.now) c.loop-at.refused.bad c.args.places.now c.args.fields.now c.loop-at.at _ c.loop-at.invariant.bad (elim c.loop-at-test.branch [
      | else-loop-at-test w ↦ inl w.loop-at-test.false
      | then-loop-at-test+in_default w ↦ inr w.in_default.ensures.lookup.3
    ])

pub returns-clause-long : goal.returns-clause-long
returns-clause-long c =
    told_all (is_refused is_too_long c.args.form c.args.columns.now) c.loop-at.refused.long c.args.places.now c.args.fields.now c.loop-at.at _ c.loop-at.invariant.long (elim c.loop-at-test.branch [
      | else-loop-at-test w ↦ inl w.loop-at-test.false
      | then-loop-at-test+in_default w ↦ inr w.in_default.ensures.lookup.3
    ])

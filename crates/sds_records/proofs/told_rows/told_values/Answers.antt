use Rattle.std.proofs.Common.{sym, ◌∙◌, subst, Option}
use Rattle.std.specs.Prelude.{IfSome}
use Rattle.sds_trade.specs.rules.Fitting.{Suits}
use Rattle.sds_value.specs.declared.kind.Value.{Value}
use Rattle.sds_records.proofs.Filled.{row_more}
use Rattle.sds_records.proofs.RowsTold.{fields_too_few, one_more, value_told}
use Rattle.sds_records.proofs.told_rows.told_values.Goals as goal

pub returns-then-columns-fields-clause-found : goal.returns-then-columns-fields-clause-found
returns-then-columns-fields-clause-found c = λ row fit same. absurd (fields_too_few c.args.columns.now c.args.fields.now row fit same c.if-columns-fields.true)

pub returns-in_default-clause-found : goal.returns-in_default-clause-found
returns-in_default-clause-found c = λ row fit same.
    let at = value_told c.args.columns.now c.args.fields.now row c.loop-place.place c.index-columns-place.result c.index-fields-place.result fit same c.loop-place-test.true c.index-columns-place.is c.index-fields-place.is in
    absurd (c.in_default.not-Some at.value (c.in_ok-value.ensures.found at.value at.suits at.field_is))

pub loop-place-preserved : goal.loop-place-preserved
loop-place-preserved c = (
  rw c.in_ok-push.ensures.ok (row_more c.args.columns.now c.loop-place.values c.loop-place.place c.index-columns-place.result c.in-Some.value
      c.loop-place-test.true c.index-columns-place.is c.loop-place.invariant.0
      (subst (λ (found : Option Value). IfSome found (λ (value : Value). Suits (c.index-columns-place.result, value))) c.in-Some.is c.in_ok-value.ensures.suits)),
  (λ row fit same.
      let at = value_told c.args.columns.now c.args.fields.now row c.loop-place.place c.index-columns-place.result c.index-fields-place.result fit same c.loop-place-test.true c.index-columns-place.is c.index-fields-place.is in
      c.in_ok-push.ensures.ok ∙ one_more row.0 c.loop-place.values c.loop-place.place c.in-Some.value c.index-columns-place.result c.index-fields-place.result at (c.loop-place.invariant.1 row fit same)
      (sym c.in-Some.is ∙ c.in_ok-value.ensures.found at.value at.suits at.field_is)),
)

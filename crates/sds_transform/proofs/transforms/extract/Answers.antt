use Rattle.std.proofs.Common.{◌≡◌, ◌∙◌, List, ap, sym}
use Rattle.sds_value.specs.declared.table.TableDef.{TableDef}
use Rattle.sds_trade.specs.rules.Sides.{doc_of_change}
use Rattle.sds_transform.proofs.Meant.{extracts_made, extracts_plain}
use Rattle.sds_transform.proofs.transforms.extract.Goals as goal

pub returns-then-is_transformed : goal.returns-then-is_transformed
returns-then-is_transformed c =
    let is : c.in_ok-row.row ≡ doc_of_change c.args.config.now.tables c.args.change.now =
    c.in_ok-row.ensures ∙ ap (λ (defs : List TableDef). doc_of_change defs c.args.change.now) (c.as_slice.ensures.value ∙ c.inner.ensures) in
    c.in_ok-rows.ensures ∙ extracts_made c.args.config.now c.args.way.now c.args.change.now c.in_ok-row.row is (sym c.is_transformed.ensures ∙ c.if-is_transformed.true)

pub returns : goal.returns
returns c =
    let is : c.in_ok-row.row ≡ doc_of_change c.args.config.now.tables c.args.change.now =
    c.in_ok-row.ensures ∙ ap (λ (defs : List TableDef). doc_of_change defs c.args.change.now) (c.as_slice.ensures.value ∙ c.inner.ensures) in
    c.in_ok-rows-2.ensures ∙ extracts_plain c.args.config.now c.args.way.now c.args.change.now c.in_ok-row.row is (sym c.is_transformed.ensures ∙ c.if-is_transformed.false)

use Rattle.std.proofs.Common.{◌≡◌, ◌∙◌, Option, subst}
use Rattle.std.specs.Prelude.{IfOk}
use Rattle.sds_records.proofs.RowsTold.{both_sides, first_side, last_side, not_short, sides_are}
use Rattle.sds_records.specs.declared.told_rows.Sides.{Sides}
use Rattle.sds_records.proofs.told_rows.told_sides.Goals as goal

pub returns-then-fields-columns-clause-found : goal.returns-then-fields-columns-clause-found
returns-then-fields-columns-clause-found c = λ new old has new_fits old_fits same.
    absurd (not_short c.args.columns.now c.args.fields.now new old (both_sides c.args.columns.now c.args.fields.now c.args.event new old c.in-Update.is has new_fits old_fits same) c.if-fields-columns.true)

pub returns-else-fields-columns-clause-found : goal.returns-else-fields-columns-clause-found
returns-else-fields-columns-clause-found c = λ new old has new_fits old_fits same.
    let both = both_sides c.args.columns.now c.args.fields.now c.args.event new old c.in-Update.is has new_fits old_fits same in
    subst (λ (sides : Option Sides). IfOk c.told_both.result (λ found. found ≡ sides)) (sides_are c.args.columns.now c.args.fields.now new old both)
    (c.told_both.ensures.found both.left both.took both.left_fits both.took_fits
    (c.split_at.ensures.front ∙ first_side c.args.columns.now c.args.fields.now new old both) (c.split_at.ensures.back ∙ last_side c.args.columns.now c.args.fields.now new old both))

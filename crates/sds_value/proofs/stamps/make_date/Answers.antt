use Rattle.std.proofs.Common.{◌∙◌, arith, refl, w8}
use Rattle.std.proofs.lemmas.Int.{to_z_pos}
use mir.Syntax.{w16}
use Rattle.sds_value.proofs.Days.{date_found, date_missing}
use Rattle.sds_value.proofs.stamps.make_date.Goals as goal

pub returns-in-Ok : goal.returns-in-Ok
returns-in-Ok c =
    let year = to_z_pos w16 c.args.year (omega (arith, c.requires.year)) in
    let month = to_z_pos w8 c.args.month (omega (arith, c.requires.month)) in
    let day = to_z_pos w8 c.args.day (omega (arith, c.requires.day)) in
    let same_month = c.in-Ok.ensures.value.1 ∙ month in
    let same_day = c.in-Ok.ensures.value.2 ∙ day in
    (date_found c.args.year c.args.month c.args.day (rw (year, month, day) at (c.in-Ok.ensures.succeeds.0 refl)), c.in-Ok.ensures.value.0 ∙ year, cc same_month, cc same_day)

pub returns-in-Err : goal.returns-in-Err
returns-in-Err c =
    let year = to_z_pos w16 c.args.year (omega (arith, c.requires.year)) in
    let month = to_z_pos w8 c.args.month (omega (arith, c.requires.month)) in
    let day = to_z_pos w8 c.args.day (omega (arith, c.requires.day)) in
    date_missing c.args.year c.args.month c.args.day c.requires.year (λ is. let e = c.in-Err.ensures.succeeds.1 (rw (year, month, day) is) in cc e)

use Rattle.std.proofs.Common.{◌∙◌, refl}
use Rattle.sds_value.specs.Stamps.{year_of, month_of, day_of}
use Rattle.sds_value.proofs.Padding.{styled_is}
use Rattle.sds_value.proofs.Days.{stamp_epoch, epoch_cast, ok_is, date_parts, year_cast}
use Rattle.sds_value.proofs.stamps.print_date.Goals as goal

pub unwrap-date-requires : goal.unwrap-date-requires
unwrap-date-requires c =
    let is = stamp_epoch c.args.day 0 c.requires in
    c.from_unix_epoch_day.ensures.succeeds.1 (rw (epoch_cast c.args.day is) is)

pub returns : goal.returns
returns c =
    let is = stamp_epoch c.args.day 0 c.requires in
    let same = ok_is _ c.from_unix_epoch_day.result c.unwrap-date.result c.from_unix_epoch_day.ensures.value c.unwrap-date.ensures ∙ epoch_cast c.args.day is in
    let parts = date_parts c.args.day 0 c.requires c.unwrap-date.result same in
    let year = c.unsigned_abs-year.ensures.value ∙ year_cast c.unwrap-date.result.year _ parts.0 parts.3 in
    c.in_ok-format.ensures.ok ∙ (rw (c.laid_out.ensures, c.laid_out-2.ensures, c.laid_out-3.ensures, year, parts.1, parts.2, styled_is 4 (year_of c.args.day) refl, styled_is 2 (month_of c.args.day) refl, styled_is 2 (day_of c.args.day) refl) refl)

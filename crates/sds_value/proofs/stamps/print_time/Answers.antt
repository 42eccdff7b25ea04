use Rattle.std.proofs.Common.{◌/◌, ◌%◌, ◌∙◌, refl}
use Rattle.sds_value.proofs.Padding.{styled_is}
use Rattle.sds_value.proofs.stamps.print_time.Goals as goal

pub returns : goal.returns
returns c = c.in_ok-format.ensures.ok ∙ (rw (c.laid_out.ensures, c.laid_out-2.ensures, c.laid_out-3.ensures, styled_is 2 (c.args.nano / 3600000000000) refl, styled_is 2 (c.args.nano / 60000000000 % 60) refl, styled_is 2 (c.args.nano / 1000000000 % 60) refl) refl)

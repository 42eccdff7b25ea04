use Rattle.std.proofs.Common.{◌∙◌, refl}
use Rattle.sds_value.proofs.Padding.{styled_is}
use Rattle.sds_value.proofs.Moments.{milli_text, micro_text, nano_text}
use Rattle.sds_value.proofs.stamps.print_subsecond.Goals as goal

pub returns-then-nano-eq0 : goal.returns-then-nano-eq0
returns-then-nano-eq0 c = c.in_ok-format.ensures.ok ∙ (rw (c.laid_out.ensures, styled_is 3 _ refl) (milli_text c.args.nano c.if-nano-eq0.true))

pub returns-then-nano-eq0-2 : goal.returns-then-nano-eq0-2
returns-then-nano-eq0-2 c = c.in_ok-format-2.ensures.ok ∙ (rw (c.laid_out-then-nano-eq0-2.ensures, styled_is 6 _ refl) (micro_text c.args.nano c.if-nano-eq0.false c.if-nano-eq0-2.true))

pub returns : goal.returns
returns c = c.in_ok-format-3.ensures.ok ∙ (rw (c.laid_out-2.ensures, styled_is 9 _ refl) (nano_text c.args.nano c.if-nano-eq0.false c.if-nano-eq0-2.false))

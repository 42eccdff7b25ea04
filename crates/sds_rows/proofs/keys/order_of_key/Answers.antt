use Rattle.std.proofs.Common.{sym, ◌∙◌, arith}
use Rattle.sds_rows.proofs.Comparing.{first_ends, second_ends}
use Rattle.sds_rows.proofs.keys.order_of_key.Goals as goal

pub returns-then-i-key : goal.returns-then-i-key
returns-then-i-key c = sym (second_ends _ _ c.args.places.now c.args.key.now c.loop-i.i (omega arith) (omega arith)) ∙ c.loop-i.invariant

pub returns-then-places-key : goal.returns-then-places-key
returns-then-places-key c = sym (first_ends _ _ c.args.places.now c.args.key.now c.loop-i.i (omega arith) (omega arith)) ∙ c.loop-i.invariant

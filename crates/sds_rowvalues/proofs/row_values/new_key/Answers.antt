use Rattle.std.proofs.Common.{inr, rules}
use Rattle.sds_trade.specs.rules.RowValues.{given_or}
use Rattle.sds_rowvalues.proofs.Pairs.{made_all}
use Rattle.sds_rowvalues.proofs.row_values.new_key.Goals as goal

pub returns-in_default : goal.returns-in_default
returns-in_default c =
    let all = made_all (given_or c.args.row.now) c.loop-at.key.items c.key_places-places.result.now c.as_slice-old.result.now c.loop-at.at _ c.loop-at.invariant (inr c.in_default.ensures.lookup.3) in
    search rules

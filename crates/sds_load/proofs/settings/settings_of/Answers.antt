use Rattle.std.proofs.Common.{refl, arith}
use Rattle.std.proofs.lemmas.List.FromFn.{map-range_with_len_more}
use Rattle.sds_trade.specs.rules.Outcomes.{setting_place}
use Rattle.sds_load.proofs.settings.settings_of.Goals as goal

pub loop-table-preserved : goal.loop-table-preserved
loop-table-preserved c =
    let more = map-range_with_len_more (setting_place c.args.config.now c.args.way.now) 0 c.loop-table.table c.loop-table.table (omega arith) in
    rw (more, c.in_ok-push.ensures.items, c.loop-table.invariant, c.in_ok-setting_place.ensures) refl

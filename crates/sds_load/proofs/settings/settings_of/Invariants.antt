use Rattle.std.proofs.Common.{◌≡◌, map}
use Rattle.std.specs.List.{range_with_len}
use Rattle.sds_trade.specs.rules.Outcomes.{setting_place}
use Rattle.sds_load.proofs.settings.settings_of.Given as goal

-- the settings of the tables so far
abbrev pub invariant-loop-table : goal.invariant-loop-table
invariant-loop-table l = l.settings.items ≡ map (setting_place l.config l.way) (range_with_len 0 l.table)

use Rattle.std.proofs.Common.{◌≡◌, ◌++◌, drop, map}
use Rattle.sds_trade.specs.rules.LoadRows.{addend_of}
use Rattle.sds_rowtexts.proofs.addends.addends_of.Given as goal

-- the addends so far and those of the columns that are left are all the addends
abbrev pub invariant-loop-add : goal.invariant-loop-add
invariant-loop-add l = l.made.items ++ map (addend_of l.row) (drop l.add-index l.adds) ≡ map (addend_of l.row) l.adds

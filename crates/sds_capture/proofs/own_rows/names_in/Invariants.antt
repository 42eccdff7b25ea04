use Rattle.std.proofs.Common.{◌≡◌, ◌++◌, drop, map}
use Rattle.sds_trade.specs.rules.OwnWrites.{name_in}
use Rattle.sds_capture.proofs.own_rows.names_in.Given as goal

abbrev pub invariant-loop-field : goal.invariant-loop-field
invariant-loop-field l = l.names.items ++ map name_in (drop l.field-index l.fields) ≡ map name_in l.fields

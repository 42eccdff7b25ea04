use Rattle.std.proofs.Common.{◌≡◌, drop, nat_le}
use Rattle.sds_config.specs.TableEntries as wanted
use Rattle.sds_config.proofs.tables.fits_widths.Given as goal

-- the columns that are left fit the room that is left exactly where all fit
abbrev pub invariant-loop-column : goal.invariant-loop-column
invariant-loop-column l = nat_le (wanted.widths (drop l.column-index l.columns)) l.room ≡ nat_le (wanted.widths l.columns) 16000

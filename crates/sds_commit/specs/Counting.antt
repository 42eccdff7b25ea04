-- Counters within their end.
use Rattle.std.specs.Prelude.{if◌then◌else◌, Option, None, Some}
use Rattle.sds_types.specs.declared.counts.Counts.{Counts}
use Rattle.sds_history.specs.history.Counters.{is_past}

abbrev pub within_end : Counts → Option Counts
within_end counts = if is_past counts then None else Some counts

use Rattle.std.proofs.Common.{◌≡◌, drop}
use Rattle.std.specs.List.{list_all}
use Rattle.sds_batchtext.specs.Writable.{is_row_text}
use Rattle.sds_received.proofs.texts.rows_are_of_characters.Given as goal

abbrev pub invariant-loop-row : goal.invariant-loop-row
invariant-loop-row l = list_all is_row_text (drop l.row-index l.rows) ≡ list_all is_row_text l.rows

use Rattle.std.proofs.Common.{◌≡◌, drop}
use Rattle.std.specs.List.{list_all}
use Rattle.sds_received.specs.Characters.{is_column_text}
use Rattle.sds_received.proofs.texts.columns_are_of_characters.Given as goal

abbrev pub invariant-loop-column : goal.invariant-loop-column
invariant-loop-column l = list_all is_column_text (drop l.column-index l.columns) ≡ list_all is_column_text l.columns

use Rattle.std.proofs.Common.{◌≡◌, ◌++◌, drop, filter_map}
use Rattle.std.specs.List.{flat_map}
use Rattle.sds_trade.specs.rules.Transforms.{extracted_rows}
use Rattle.sds_history.specs.history.Documents.{change_of_number}
use Rattle.sds_image.specs.Meaning.{meaning_of}
use Rattle.sds_outgoing.proofs.documents.batch_rows.Given as goal

-- the rows so far and those of the changes that are left are all
abbrev pub invariant-loop-number : goal.invariant-loop-number
invariant-loop-number l =
    l.rows.items ++ flat_map (extracted_rows l.config l.way) (filter_map (change_of_number (meaning_of l.state)) (drop l.number-index l.number-items))
    ≡ flat_map (extracted_rows l.config l.way) (filter_map (change_of_number (meaning_of l.state)) l.number-items)

use Rattle.std.proofs.Common.{◌≡◌, ◌+◌, ℕ, drop, map}
use Rattle.std.specs.List.{enumerate_from, flat_map}
use Rattle.sds_value.specs.declared.row.DocRow.{DocRow}
use Rattle.sds_trade.specs.rules.Outcomes.{body_of, reading_of}
use Rattle.sds_trade.specs.rules.Transforms.{shaped_rows}
use Rattle.sds_load.specs.Bodies.{body_after}
use Rattle.sds_load.proofs.bodies.body_of.Given as goal

-- the rows so far and the document's rows that are left give the body of them all
abbrev pub invariant-loop-at : goal.invariant-loop-at
invariant-loop-at l = body_after l.rows.items (flat_map
    (λ (at : ℕ × DocRow). map (reading_of l.config l.batch.binary at.0) (shaped_rows l.config l.way at.1))
    (enumerate_from (l.at + 1) (drop l.at l.batch.rows)))
    ≡ body_of l.config l.way l.batch

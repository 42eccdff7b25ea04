use Rattle.std.proofs.Common.{◌≡◌, ◌++◌, List, drop, map}
use Rattle.sds_trade.specs.rules.Outcomes.{reading_of}
use Rattle.sds_trade.specs.rules.Transforms.{shaped_rows}
use Rattle.sds_load.specs.Bodies.{Reading, body_after}
use Rattle.sds_load.proofs.bodies.read_made.Given as goal

-- the rows so far and the readings that are left give the body of them all
abbrev pub invariant-loop-made : goal.invariant-loop-made
invariant-loop-made l = (rest : List Reading) →
    let reading = reading_of l.config l.form l.number in
    body_after l.rows.items (map reading (drop l.made-index l.made-items) ++ rest)
    ≡ body_after l.fn.rows.items (map reading (shaped_rows l.config l.way l.row) ++ rest)

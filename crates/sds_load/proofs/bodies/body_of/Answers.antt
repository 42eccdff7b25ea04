use Rattle.std.proofs.Common.{◌≡◌, ◌<◌, ◌+◌, ◌∙◌, ℕ, List, length, map, rules}
use Rattle.sds_value.specs.declared.row.DocRow.{DocRow}
use Rattle.sds_trade.specs.rules.Outcomes.{reading_of}
use Rattle.sds_trade.specs.rules.Transforms.{shaped_rows}
use Rattle.sds_load.specs.Bodies.{Reading}
use Rattle.sds_load.proofs.Following.{next_row}
use Rattle.sds_load.proofs.bodies.body_of.Goals as goal

pub loop-at-preserved : goal.loop-at-preserved
loop-at-preserved c =
    let readings = λ (at : ℕ × DocRow). map (reading_of c.args.config.now c.args.batch.now.binary at.0) (shaped_rows c.args.config.now c.args.way.now at.1) in
    let same : c.deref-row-items.result.now ≡ c.args.batch.now.rows = search rules in
    let inside : c.loop-at.at < length c.args.batch.now.rows = rw same at c.loop-at-test.true in
    let is = rw same at c.row-item.is in
    next_row readings c.args.batch.now.rows c.loop-at.at (c.loop-at.at + 1) c.row-item.result c.loop-at.rows.items c.read_made.new.rows.items inside is
    (λ (rest : List Reading). rw c.in_default.is at (c.in_ok-rule.ensures rest))
    ∙ c.loop-at.invariant

use Rattle.std.proofs.Common.{ap, rules}
use Rattle.sds_rows.specs.Undoing.{without_undos}
use Rattle.sds_capture.proofs.Running.{all_taken}
use Rattle.sds_capture.proofs.run.run_rows.Goals as goal

pub returns-clause-outcome : goal.returns-clause-outcome
returns-clause-outcome g c =
    all_taken c.args.at.now (g.J.Judge.asked c.args.judge.now) (g.J.Judge.number c.args.judge.now)
    (without_undos c.loop-place.dones.items) (without_undos c.of.result) c.loop-place.tables.rows _ c.loop-place.place c.args.rows.now
    (search rules) (ap without_undos c.of.ensures) c.loop-place.invariant.ends

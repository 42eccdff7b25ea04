use Rattle.std.proofs.Common.{rules}
use Rattle.std.specs.Prelude.{option_copied}
use Rattle.sds_image.specs.Meaning.{meaning_of}
use Rattle.sds_rows.specs.Undoing.{without_undos}
use Rattle.sds_runs.specs.Made.{next_changes}
use Rattle.sds_runs.proofs.Counts.{one_further}
use Rattle.sds_runs.proofs.changes.next_changes.Goals as goal

pub loop-done-preserved : goal.loop-done-preserved
loop-done-preserved c = record {
  count = search rules;
  sides = c.in_ok-push_change.ensures.sides (search rules) c.loop-done.invariant.sides;
  so_far =
      one_further c.args.config.now (meaning_of c.args.state.now) (option_copied c.args.source) c.loop-done.changes.items c.push_change.new.changes.items
      (next_changes c.args.config.now (meaning_of c.args.state.now) (option_copied c.args.source) (without_undos c.args.dones.now)) c.args.dones.now c.loop-done.done-index
      c.done-item.result c.loop-done-test.true c.done-item.is c.in_ok-push_change.ensures.changes c.loop-done.invariant.so_far;
}

use Rattle.std.proofs.Common.{◌≡◌, ◌≤◌, All, drop, length}
use Rattle.std.specs.Prelude.{option_copied}
use Rattle.sds_image.specs.Meaning.{meaning_of}
use Rattle.sds_image.specs.Pairs.{FitsSides}
use Rattle.sds_rows.specs.Undoing.{without_undos}
use Rattle.sds_runs.specs.Made.{changes_from, next_changes}
use Rattle.sds_runs.proofs.changes.next_changes.Given as goal

abbrev pub invariant-loop-done : goal.invariant-loop-done
invariant-loop-done l = record {
  count : length l.changes.items ≤ l.done-index;
  sides : All (FitsSides l.config) l.changes.items;
  so_far : changes_from l.config (meaning_of l.state) (option_copied l.source) l.changes.items (without_undos (drop l.done-index l.dones))
      ≡ next_changes l.config (meaning_of l.state) (option_copied l.source) (without_undos l.dones);
}

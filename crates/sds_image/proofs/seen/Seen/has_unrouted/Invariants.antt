use Rattle.std.proofs.Common.{◌≡◌, ◌+◌, ◌-◌, nat_cmp}
use Rattle.std.specs.BTreeSet.{contains}
use Rattle.std.specs.List.{list_all, range_with_len}
use Rattle.sds_history.specs.history.SoundStates.{unrouted_numbers}
use Rattle.sds_image.proofs.seen.Seen.has_unrouted.Given as goal

abbrev pub invariant-loop-number : goal.invariant-loop-number
invariant-loop-number l = list_all (contains nat_cmp l.self.changes) (range_with_len (l.number + 1) (l.counts.last_change - l.number))
    ≡ list_all (contains nat_cmp l.self.changes) (unrouted_numbers l.counts)

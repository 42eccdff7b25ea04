use Rattle.std.proofs.Common.{◌≡◌, ◌++◌, length, option_map}
use Rattle.std.specs.Vec.Iter.{into_iter_items, into_iter_len}
use Rattle.sds_config.specs.ComputedColumns as wanted
use Rattle.sds_config.proofs.computed.columns_of.Given as goal

-- the columns so far and those of the entries that are left are the columns of all
abbrev pub invariant-loop-entry : goal.invariant-loop-entry
invariant-loop-entry l = record {
  so_far : option_map (λ rest. l.columns.items ++ rest) (wanted.columns_of (into_iter_items l.entry-iterator)) ≡ wanted.columns_of l.fn.entries;
  count : into_iter_len l.entry-iterator ≡ length (into_iter_items l.entry-iterator);
}

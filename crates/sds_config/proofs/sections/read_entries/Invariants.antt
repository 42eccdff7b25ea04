use Rattle.std.proofs.Common.{◌≡◌, ◌≤◌, drop, [], vec_len}
use Rattle.toml.specs.View.{items_view}
use Rattle.sds_config.specs.Sections as wanted
use Rattle.sds_config.proofs.sections.read_entries.Given as goal

-- the entries so far and those of the items that are left are what the section reads as
abbrev pub invariant-loop-item : goal.invariant-loop-item
invariant-loop-item g l = record {
  so_far : wanted.entries_from g.E.Entry.entry_of l.config l.section l.entries.items (items_view (drop l.item-index l.items)) ≡ wanted.entries_from g.E.Entry.entry_of l.config l.section [] (items_view l.items);
  bound : vec_len l.entries ≤ l.item-index;
}

use Rattle.std.proofs.Common.{◌≡◌, ◌++◌, drop}
use Rattle.std.specs.List.{enumerate_from, flat_map}
use Rattle.sds_line.specs.Written.{Extends}
use Rattle.sds_screen.specs.Shown.{table_text}
use Rattle.sds_shown.proofs.tables.put_each.Given as goal

-- the tables so far and those that are left are all
abbrev pub invariant-loop-at : goal.invariant-loop-at
invariant-loop-at l = record {
  so_far : l.out.items ++ flat_map (table_text l.state.tables.rows) (enumerate_from l.at (drop l.at l.config.tables))
      ≡ l.fn.out.items ++ flat_map (table_text l.state.tables.rows) (enumerate_from 0 l.config.tables);
  front : Extends l.fn.out.items l.out.items;
}

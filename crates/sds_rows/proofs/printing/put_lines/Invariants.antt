use Rattle.std.proofs.Common.{◌≡◌, ◌++◌, ◌==◌, drop, filter}
use Rattle.std.specs.List.{flat_map}
use Rattle.sds_line.specs.Written.{Extends}
use Rattle.sds_types.specs.declared.row.TableRow.{TableRow}
use Rattle.sds_rows.specs.Shown.{row_text}
use Rattle.sds_rows.proofs.printing.put_lines.Given as goal

abbrev pub invariant-loop-row : goal.invariant-loop-row
invariant-loop-row l = record {
  so_far : l.out.items ++ flat_map (row_text l.columns) (filter (λ (row : TableRow). row.table == l.table) (drop l.row-index l.rows))
      ≡ l.fn.out.items ++ flat_map (row_text l.columns) (filter (λ (row : TableRow). row.table == l.table) l.rows);
  front : Extends l.fn.out.items l.out.items;
}

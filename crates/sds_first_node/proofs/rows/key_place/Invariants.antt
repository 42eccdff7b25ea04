use Rattle.std.proofs.Common.{◌≡◌, ◌∷◌, [], ◌++◌, take, drop}
use Rattle.sds_types.specs.declared.row.TableRow.{TableRow}
use Rattle.sds_first_spec.specs.One.{one}
use Rattle.sds_first_spec.specs.Tables.{key_of}
use Rattle.sds_first_node.specs.Loaded.{with_row}
use Rattle.sds_first_node.proofs.rows.key_place.Given as goal

abbrev pub invariant-loop-place : goal.invariant-loop-place
invariant-loop-place l = record {
  put : (row : TableRow) → key_of one 0 row.row ≡ l.key ∷ [] → with_row row l.rows ≡ take l.place l.rows ++ with_row row (drop l.place l.rows);
}

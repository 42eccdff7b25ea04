-- A table whose rows have a version, and rows of batches for it, for the cases of conflicts.
use Rattle.std.specs.Prelude.{ℕ, true, List, [], ◌∷◌, Option, None, codes}
use Rattle.sds_value.specs.declared.kind.Kind.TheVariants.{Integer}
use Rattle.sds_value.specs.declared.kind.Value.{Value}
use Rattle.sds_value.specs.declared.row.Event.{Event}
use Rattle.sds_value.specs.declared.table.TableDef.{TableDef}
use Rattle.sds_types.specs.declared.conflict.ConflictDef.{ConflictDef}
use Rattle.sds_types.specs.declared.conflict.DetectType.{DetectType}
use Rattle.sds_types.specs.declared.conflict.ResolveType.{ResolveType}
use Rattle.sds_types.specs.declared.load_row.LoadRow.{LoadRow}
use Rattle.sds_types.specs.declared.row.Row.{Row}
use Rattle.sds_types.specs.declared.row.TableRow.{TableRow}
use Rattle.sds_trade.specs.worked.Entries.{column_def, optional, table_def, number}

-- an id, a count and a version
abbrev pub count_tables : List TableDef
count_tables = table_def (codes "count") (column_def (codes "id") Integer None
    ∷ (optional (column_def (codes "count") Integer None)
    ∷ (optional (column_def (codes "version") Integer None) ∷ []))) ∷ []

abbrev pub three : ℕ → ℕ → ℕ → List Value
three id count version = number id ∷ (number count ∷ (number version ∷ []))

abbrev pub count_row : ℕ → ℕ → ℕ → Row
count_row id count version = record { 0 = three id count version }

-- one row stands, of the id 1, with the count 10 and the version 5
abbrev pub standing : List TableRow
standing = record { table = 0; row = count_row 1 10 5 } ∷ []

-- a row of a batch that tells a key and lists certain columns
abbrev pub load_row : Event → ℕ → List ℕ → List Value → Option (List Value) → LoadRow
load_row event key columns new old = record {
  row = 1;
  table = 0;
  event = event;
  key = record { 0 = number key ∷ [] };
  columns = columns;
  new = new;
  old = old;
  adds = [];
}

abbrev pub all_three : List ℕ
all_three = 0 ∷ (1 ∷ (2 ∷ []))

-- a setting for the table
abbrev pub setting_of : DetectType → Option ℕ → ResolveType → ConflictDef
setting_of detect column resolve = record {
  source_group = 1;
  target_group = 0;
  target_table = 0;
  detect_type = detect;
  detect_expression = column;
  resolve_type = resolve;
  resolve_row_only = true;
}

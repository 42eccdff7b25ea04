-- Places in a list of tables' names.
use Rattle.std.specs.Prelude.{ℕ, ◌+◌, if◌then◌else◌, List, [], ◌∷◌}
use Rattle.std.specs.Str.{bytes_eq}
use Rattle.sds_batchtext.specs.declared.table_names.TableNames.{TableNames}

-- the place of the first entry of a table, or the length of the list
abbrev pub place_of : List ℕ → List TableNames → ℕ
place_of table [] = 0
place_of table (entry ∷ entries) =
    if bytes_eq entry.table table then 0 else place_of table entries + 1

-- Rows that are looked up.
use Rattle.std.proofs.Common.{◌≡◌, ℕ, Bool, true, false, List, [], ◌∷◌, Option, None, Some, refl, ap, ◌∙◌, find}
use Rattle.std.specs.List.{list_any}
use Rattle.std.specs.Prelude.{is_some, option_map}
use Rattle.sds_value.specs.declared.table.TableDef.{TableDef}
use Rattle.sds_types.specs.declared.row.Key.{Key}
use Rattle.sds_types.specs.declared.row.Row.{Row}
use Rattle.sds_types.specs.declared.row.TableRow.{TableRow}
use Rattle.sds_trade.specs.rules.Tables.{has_row, is_at, row_at}

found_at : {X : Type 0} (p : X → Bool) (x : X) (xs : List X) (is : Bool) → p x ≡ is → is_some (find p xs) ≡ list_any p xs
    → is_some (find p (x ∷ xs)) ≡ list_any p (x ∷ xs)
found_at p x xs true here later = rw here refl
found_at p x xs false here later = rw here later

found : {X : Type 0} (p : X → Bool) (xs : List X) → is_some (find p xs) ≡ list_any p xs
found p [] = refl
found p (x ∷ xs) = found_at p x xs (p x) refl (found p xs)

mapped : {X Y : Type 0} (f : X → Y) (found : Option X) → is_some (option_map f found) ≡ is_some found
mapped f None = refl
mapped f (Some x) = refl

-- a row stands exactly where one is found
pub row_stands : (defs : List TableDef) (rows : List TableRow) (table : ℕ) (key : Key) (row : Option Row)
    → row ≡ row_at defs rows table key → is_some row ≡ has_row defs rows table key
row_stands defs rows table key row is =
    ap is_some is ∙ (mapped (λ (row : TableRow). row.row) (find (is_at defs table key) rows) ∙ found (is_at defs table key) rows)

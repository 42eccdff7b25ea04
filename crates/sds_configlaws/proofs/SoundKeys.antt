-- The key of a table of a file is sound: its places are those of the columns that its texts mark.
use Rattle.std.proofs.Common.{◌≡◌, ℕ, zero, suc, ◌+◌, ◌<◌, ◌≤◌, Bool, true, false, cond, List, [], ◌∷◌, ◌++◌, length, map, Option, None, Some, refl, subst, All, AllPairs, sym, ap, ◌∙◌, true≢false, ◌||◌, arith}
use Rattle.std.specs.List.{list_any}
use Rattle.std.specs.Option.{IsSomeAnd}
use Rattle.std.specs.Prelude.{option_map, slice_get}
use Rattle.std.proofs.lemmas.List.{length-map}
use Rattle.std.proofs.lemmas.List.Elements.{All-nil, All-cons}
use Rattle.std.proofs.lemmas.List.Kept.{AllPairs-cons}
use Rattle.sds_trade.proofs.Lists.{all_head, all_tail}
use Rattle.sds_trade.specs.sound.Tables.{IsPresent, single_kind}
use Rattle.sds_value.specs.declared.kind.Kind.{Kind}
use Rattle.sds_value.specs.declared.table.ColumnDef.{ColumnDef}
use Rattle.sds_value.specs.declared.table.TableDef.{TableDef}
use Rattle.sds_config.specs.declared.columns.ColumnText.{ColumnText}
use Rattle.sds_config.specs.TableEntries.{column_of, has_key, key_kind, key_places}
use Rattle.sds_configlaws.proofs.Gave.{no_value, no_pairs, all_mapped}
use Rattle.sds_configlaws.proofs.SoundColumns.{IsWritten}

-- PLACES. Each is that of a column that allows no null, counted from the start
abbrev pub Placed : List TableDef → List ColumnText → ℕ → ℕ → Type 0
Placed earlier columns start place =
    (k : ℕ) × ((place ≡ start + k) × IsSomeAnd (slice_get (map (column_of earlier) columns) k) IsPresent)

first_place : (start : ℕ) → start ≡ start + 0
first_place start = omega arith

later_place : (place start k : ℕ) → place ≡ (start + 1) + k → place ≡ start + (suc k)
later_place place start k is = omega (arith, is)

placed_later : (earlier : List TableDef) (column : ColumnText) (columns : List ColumnText) (start place : ℕ)
    → Placed earlier columns (start + 1) place → Placed earlier (column ∷ columns) start place
placed_later earlier column columns start place (k, (is, present)) = (suc k, (later_place place start k is, present))

places_on : (earlier : List TableDef) (column : ColumnText) (columns : List ColumnText) (start : ℕ) (b : Bool) → column.key ≡ b → IsWritten column
    → All (Placed earlier columns (start + 1)) (key_places (start + 1) columns)
    → All (Placed earlier (column ∷ columns) start) (cond b (start ∷ key_places (start + 1) columns) (key_places (start + 1) columns))
places_on earlier column columns start true key written rest =
    All-cons (Placed earlier (column ∷ columns) start) start (key_places (start + 1) columns)
    (0, (first_place start, written.present key))
    (all_mapped (Placed earlier columns (start + 1)) (Placed earlier (column ∷ columns) start) (key_places (start + 1) columns)
    (λ place placed. placed_later earlier column columns start place placed) rest)
places_on earlier column columns start false key written rest =
    all_mapped (Placed earlier columns (start + 1)) (Placed earlier (column ∷ columns) start) (key_places (start + 1) columns)
    (λ place placed. placed_later earlier column columns start place placed) rest

pub places_placed : (earlier : List TableDef) (columns : List ColumnText) (start : ℕ) → All IsWritten columns
    → All (Placed earlier columns start) (key_places start columns)
places_placed earlier [] start written = All-nil (Placed earlier [] start)
places_placed earlier (column ∷ columns) start written =
    places_on earlier column columns start column.key refl (all_head IsWritten column columns written)
    (places_placed earlier columns (start + 1) (all_tail IsWritten column columns written))

-- they ascend
abbrev pub Below : ℕ → ℕ → Type 0
Below a b = a < b

after_start : (place start k : ℕ) → place ≡ (start + 1) + k → start < place
after_start place start k is = omega (arith, is)

placed_after : (earlier : List TableDef) (columns : List ColumnText) (start place : ℕ) → Placed earlier columns (start + 1) place → Below start place
placed_after earlier columns start place (k, (is, present)) = after_start place start k is

ascends_on : (earlier : List TableDef) (columns : List ColumnText) (start : ℕ) (b : Bool)
    → All (Placed earlier columns (start + 1)) (key_places (start + 1) columns) → AllPairs Below (key_places (start + 1) columns)
    → AllPairs Below (cond b (start ∷ key_places (start + 1) columns) (key_places (start + 1) columns))
ascends_on earlier columns start true placed rest =
    AllPairs-cons Below start (key_places (start + 1) columns)
    (all_mapped (Placed earlier columns (start + 1)) (Below start) (key_places (start + 1) columns)
    (λ place is. placed_after earlier columns start place is) placed) rest
ascends_on earlier columns start false placed rest = rest

pub places_ascend : (earlier : List TableDef) (columns : List ColumnText) (start : ℕ) → All IsWritten columns → AllPairs Below (key_places start columns)
places_ascend earlier [] start written = no_pairs Below
places_ascend earlier (column ∷ columns) start written =
    ascends_on earlier columns start column.key (places_placed earlier columns (start + 1) (all_tail IsWritten column columns written))
    (places_ascend earlier columns (start + 1) (all_tail IsWritten column columns written))

-- and are as many as there are marked columns
more_few : (n m : ℕ) → n ≤ m → suc n ≤ suc m
more_few n m few = omega (arith, few)

still_few : (n m : ℕ) → n ≤ m → n ≤ suc m
still_few n m few = omega (arith, few)

few_on : (columns : List ColumnText) (start : ℕ) (b : Bool) → length (key_places (start + 1) columns) ≤ length columns
    → length (cond b (start ∷ key_places (start + 1) columns) (key_places (start + 1) columns)) ≤ suc (length columns)
few_on columns start true few = more_few (length (key_places (start + 1) columns)) (length columns) few
few_on columns start false few = still_few (length (key_places (start + 1) columns)) (length columns) few

pub places_few : (columns : List ColumnText) (start : ℕ) → length (key_places start columns) ≤ length columns
places_few [] start = omega arith
places_few (column ∷ columns) start = few_on columns start column.key (places_few columns (start + 1))

one_or_more : (n : ℕ) → 1 ≤ suc n
one_or_more n = omega arith

some_on : (columns : List ColumnText) (start : ℕ) (b : Bool) → (b || has_key columns) ≡ true
    → (has_key columns ≡ true → 1 ≤ length (key_places (start + 1) columns))
    → 1 ≤ length (cond b (start ∷ key_places (start + 1) columns) (key_places (start + 1) columns))
some_on columns start true is rest = one_or_more (length (key_places (start + 1) columns))
some_on columns start false is rest = rest is

pub places_some : (columns : List ColumnText) (start : ℕ) → has_key columns ≡ true → 1 ≤ length (key_places start columns)
places_some [] start is = absurd (true≢false (sym is))
places_some (column ∷ columns) start is = some_on columns start column.key is (λ more. places_some columns (start + 1) more)

-- ONE. Where one column is marked the key is its place, and has its kind
none_on : (columns : List ColumnText) (start : ℕ) (b : Bool) → (b || has_key columns) ≡ false
    → (has_key columns ≡ false → key_places (start + 1) columns ≡ [])
    → cond b (start ∷ key_places (start + 1) columns) (key_places (start + 1) columns) ≡ []
none_on columns start true is rest = absurd (true≢false is)
none_on columns start false is rest = rest is

no_places : (columns : List ColumnText) (start : ℕ) → has_key columns ≡ false → key_places start columns ≡ []
no_places [] start is = refl
no_places (column ∷ columns) start is = none_on columns start column.key is (λ more. no_places columns (start + 1) more)

-- a key of one place, counted from the start, of a column of this kind
abbrev pub IsSingle : List TableDef → List ColumnText → ℕ → List ℕ → Kind → Type 0
IsSingle earlier columns start places kind =
    (k : ℕ) × ((places ≡ (start + k) ∷ []) × (option_map (λ (c : ColumnDef). c.kind) (slice_get (map (column_of earlier) columns) k) ≡ Some kind))

next_place : (start k : ℕ) → (start + 1) + k ≡ start + (suc k)
next_place start k = omega arith

single_later : (earlier : List TableDef) (column : ColumnText) (columns : List ColumnText) (start : ℕ) (places : List ℕ) (kind : Kind)
    → IsSingle earlier columns (start + 1) places kind → IsSingle earlier (column ∷ columns) start places kind
single_later earlier column columns start places kind (k, (is, same)) = (suc k, (is ∙ ap (λ n. n ∷ []) (next_place start k), same))

single_here : (earlier : List TableDef) (column : ColumnText) (columns : List ColumnText) (start : ℕ) (kind : Kind) (b : Bool) → has_key columns ≡ b
    → cond b None (Some column.kind) ≡ Some kind → IsSingle earlier (column ∷ columns) start (start ∷ key_places (start + 1) columns) kind
single_here earlier column columns start kind true more is = no_value kind (sym is)
single_here earlier column columns start kind false more is =
    (0, (ap (λ ps. start ∷ ps) (no_places columns (start + 1) more) ∙ ap (λ n. n ∷ []) (first_place start), is))

single_on : (earlier : List TableDef) (column : ColumnText) (columns : List ColumnText) (start : ℕ) (kind : Kind) (b : Bool)
    → cond b (cond (has_key columns) None (Some column.kind)) (key_kind columns) ≡ Some kind
    → (key_kind columns ≡ Some kind → IsSingle earlier columns (start + 1) (key_places (start + 1) columns) kind)
    → IsSingle earlier (column ∷ columns) start (cond b (start ∷ key_places (start + 1) columns) (key_places (start + 1) columns)) kind
single_on earlier column columns start kind true is rest = single_here earlier column columns start kind (has_key columns) refl is
single_on earlier column columns start kind false is rest =
    single_later earlier column columns start (key_places (start + 1) columns) kind (rest is)

key_single : (earlier : List TableDef) (columns : List ColumnText) (start : ℕ) (kind : Kind) → key_kind columns ≡ Some kind
    → IsSingle earlier columns start (key_places start columns) kind
key_single earlier [] start kind is = no_value kind (sym is)
key_single earlier (column ∷ columns) start kind is =
    single_on earlier column columns start kind column.key is (λ more. key_single earlier columns (start + 1) kind more)

from_zero : (k : ℕ) → 0 + k ≡ k
from_zero k = omega arith

single_at : (earlier : List TableDef) (columns : List ColumnText) (places : List ℕ) (kind : Kind) → IsSingle earlier columns 0 places kind
    → single_kind (map (column_of earlier) columns) places ≡ Some kind
single_at earlier columns places kind (k, (is, same)) =
    ap (single_kind (map (column_of earlier) columns)) (is ∙ ap (λ n. n ∷ []) (from_zero k)) ∙ same

-- the kind of the only key column of a table that is read
pub single_kinds : (earlier : List TableDef) (columns : List ColumnText) (kind : Kind) → key_kind columns ≡ Some kind
    → single_kind (map (column_of earlier) columns) (key_places 0 columns) ≡ Some kind
single_kinds earlier columns kind is = single_at earlier columns (key_places 0 columns) kind (key_single earlier columns 0 kind is)

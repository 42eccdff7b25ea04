-- The form of a `lookuptable` router's expression: four lines, each a key and a name, in any order.
use Rattle.std.specs.Prelude.{◌≡◌, ◌⊎◌, ◌+◌, ℕ, Bool, true, false, if◌then◌else◌, List, [], ◌∷◌, ◌++◌, codes}
use Rattle.sds_types.specs.declared.lookup.Lookup.{Lookup}
use Rattle.sds_value.specs.Names.{is_name_text}
use Rattle.sds_expressions.specs.declared.lookup_router.LookupKey.{LookupKey}
use Rattle.sds_expressions.specs.declared.lookup_router.LookupKey.TheVariants.{Table, Column, LookupColumn, ExternalId}

-- the keys, each with its `=`
abbrev pub key_text : LookupKey → List ℕ
key_text Table = codes "LOOKUP_TABLE="
key_text Column = codes "KEY_COLUMN="
key_text LookupColumn = codes "LOOKUP_KEY_COLUMN="
key_text ExternalId = codes "EXTERNAL_ID_COLUMN="

-- the name that stands for a key
abbrev pub name_for : LookupKey → Lookup → List ℕ
name_for Table lookup = lookup.table
name_for Column lookup = lookup.column
name_for LookupColumn lookup = lookup.lookup_column
name_for ExternalId lookup = lookup.external_id

abbrev pub is_same_key : LookupKey → LookupKey → Bool
is_same_key Table Table = true
is_same_key Column Column = true
is_same_key LookupColumn LookupColumn = true
is_same_key ExternalId ExternalId = true
is_same_key key other = false

-- how often a key stands in a list
abbrev pub count_of : LookupKey → List LookupKey → ℕ
count_of key [] = 0
count_of key (other ∷ keys) = (if is_same_key key other then 1 else 0) + count_of key keys

-- an order of the four keys has each of them once
abbrev pub IsOrder : List LookupKey → Type 0
IsOrder keys = (key : LookupKey) → count_of key keys ≡ 1

-- the lines of the keys, joined by line feeds (10)
abbrev pub lookup_lines : Lookup → List LookupKey → List ℕ
lookup_lines lookup [] = []
lookup_lines lookup (key ∷ []) = key_text key ++ name_for key lookup
lookup_lines lookup (key ∷ next ∷ keys) =
    key_text key ++ (name_for key lookup ++ 10 ∷ lookup_lines lookup (next ∷ keys))

-- the names of the lookup are names
abbrev pub HasNames : Lookup → Type 0
HasNames lookup = (key : LookupKey) → is_name_text (name_for key lookup) ≡ true

-- The text is an expression that says this lookup. One line feed may stand at the end.
abbrev pub IsLookupForm : List ℕ → Lookup → Type 0
IsLookupForm text lookup = HasNames lookup × (keys : List LookupKey) × IsOrder keys
    × ((text ≡ lookup_lines lookup keys) ⊎ (text ≡ lookup_lines lookup keys ++ 10 ∷ []))

-- Decides a `lookuptable` router's expressions character by character; the form is in LookupForm.
use Rattle.std.specs.Prelude.{ℕ, Bool, not, ◌&&◌, ◌||◌, ◌==◌, nat_lt, if◌then◌else◌, List, [], ◌∷◌, ◌++◌, length, Option, Some, None, is_some, Result}
use Rattle.std.specs.List.{starts_with}
use Rattle.std.specs.Str.{bytes_eq}
use Rattle.sds_types.specs.declared.lookup.Lookup.{Lookup}
use Rattle.sds_expressions.specs.declared.lookup_router.LookupKey.{LookupKey}
use Rattle.sds_expressions.specs.declared.lookup_router.LookupKey.TheVariants.{Table, Column, LookupColumn, ExternalId}
use Rattle.sds_expressions.specs.declared.lookup_router.LookupPart.{LookupPart}
use Rattle.sds_expressions.specs.declared.lookup_router.LookupPart.TheVariants as part
use Rattle.sds_expressions.specs.declared.lookup_router.LookupReading.{LookupReading}
use Rattle.sds_value.specs.Names.{is_name_character}
use Rattle.sds_expressions.specs.Automaton.{run}
use Rattle.sds_expressions.specs.LookupForm.{key_text}

-- the name that is read for a key
abbrev pub found : LookupKey → LookupReading → Option (List ℕ)
found Table reading = reading.table
found Column reading = reading.column
found LookupColumn reading = reading.lookup_column
found ExternalId reading = reading.external_id

-- a line of the key may still come
abbrev pub is_open : LookupReading → LookupKey → Bool
is_open reading key = not (is_some (found key reading))

-- the word is such a key, and the word is the prefix of such a key
abbrev pub is_key : LookupReading → List ℕ → LookupKey → Bool
is_key reading word key = is_open reading key && bytes_eq word (key_text key)

abbrev pub begins_key : LookupReading → List ℕ → LookupKey → Bool
begins_key reading word key = is_open reading key && starts_with (λ a b. a == b) (key_text key) word

abbrev pub key_of : LookupReading → List ℕ → Option LookupKey
key_of reading word = if is_key reading word Table then Some Table
    else (if is_key reading word Column then Some Column
    else (if is_key reading word LookupColumn then Some LookupColumn
    else (if is_key reading word ExternalId then Some ExternalId else None)))

abbrev pub begins : LookupReading → List ℕ → Bool
begins reading word = begins_key reading word Table
    || (begins_key reading word Column || (begins_key reading word LookupColumn
    || begins_key reading word ExternalId))

-- a line is read
abbrev pub with_line : LookupKey → LookupReading → List ℕ → LookupReading
with_line Table reading name = record reading { table = Some name }
with_line Column reading name = record reading { column = Some name }
with_line LookupColumn reading name = record reading { lookup_column = Some name }
with_line ExternalId reading name = record reading { external_id = Some name }

-- the four names, where they are all there
abbrev pub four : Option (List ℕ) → Option (List ℕ) → Option (List ℕ) → Option (List ℕ)
    → Option Lookup
four (Some table) (Some column) (Some lookup_column) (Some external_id) =
    Some (record {
      table = table;
      column = column;
      lookup_column = lookup_column;
      external_id =
          external_id;
    })
four table column lookup_column external_id = None

abbrev pub lookup_of : LookupReading → Option Lookup
lookup_of reading = four reading.table reading.column reading.lookup_column reading.external_id

-- in a key
abbrev pub key_read : LookupReading → List ℕ → Option LookupKey → Option LookupReading
key_read reading word (Some key) = Some (record reading { word = []; key = key; part = part.Name })
key_read reading word None = if begins reading word then Some (record reading { word = word })
    else None

abbrev pub step_key : LookupReading → ℕ → Option LookupReading
step_key reading c = key_read reading (reading.word ++ c ∷ []) (key_of reading (reading.word
    ++ c ∷ []))

-- after a line: another key, or the end
abbrev pub part_after : Option Lookup → LookupPart
part_after (Some lookup) = part.Ended
part_after None = part.Key

abbrev pub next_line : LookupReading → LookupReading
next_line reading = record reading { word = []; part = part_after (lookup_of reading) }

-- the reading with one character more in its word
abbrev pub longer : LookupReading → ℕ → LookupReading
longer reading c = record reading { word = reading.word ++ c ∷ [] }

-- in a name
abbrev pub step_name : LookupReading → ℕ → Option LookupReading
step_name reading c =
    if is_name_character c
    then (if nat_lt (length reading.word) 50 then Some (longer reading c) else None)
    else (if c == 10 && nat_lt 0 (length reading.word)
    then Some (next_line (with_line reading.key reading reading.word)) else None)

abbrev pub step_at : LookupPart → LookupReading → ℕ → Option LookupReading
step_at part.Key reading c = step_key reading c
step_at part.Name reading c = step_name reading c
step_at part.Ended reading c = None

abbrev pub step : LookupReading → ℕ → Option LookupReading
step reading c = step_at reading.part reading c

-- the lookup of a text that ends here, where it may
abbrev pub last_line : LookupReading → List ℕ → Option Lookup
last_line reading [] = None
last_line reading (c ∷ cs) = lookup_of (with_line reading.key reading (c ∷ cs))

abbrev pub lookup_at : LookupPart → LookupReading → Option Lookup
lookup_at part.Key reading = None
lookup_at part.Name reading = last_line reading reading.word
lookup_at part.Ended reading = lookup_of reading

abbrev pub finish : LookupReading → Option Lookup
finish reading = lookup_at reading.part reading

abbrev pub beginning : LookupReading
beginning = record {
  table = None;
  column = None;
  lookup_column = None;
  external_id = None;
  key =
      Table;
  word = [];
  part = part.Key;
}

-- the lookup that a text says, or the place at which it leaves the form
abbrev pub lookup_read : List ℕ → Result Lookup ℕ
lookup_read text = run step finish 0 beginning text

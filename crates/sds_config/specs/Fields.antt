-- The fields of an entry: where each is found, what it may hold, and what is answered where it doesn't.
-- A path is given by its bytes. At the top of the file the path of the entry is empty.
use Rattle.std.specs.Prelude.{◌≡◌, ℕ, ℤ, pos, negsuc, Bool, true, false, ◌&&◌, nat_le, if◌then◌else◌, List, [], ◌∷◌, ◌++◌, codes, position, Option, Some, None, Result, Ok, Err}
use Rattle.std.specs.Cmp.Lexicographic.{slice_cmp}
use Rattle.std.specs.Fmt.{decimal}
use Rattle.std.specs.Ordering.{is_lt, nat_cmp}
use Rattle.std.specs.Str.{bytes_eq, chars}
use Rattle.toml.specs.Data.{Data, Members, no_members, member, get_member, as_str, as_integer, as_bool}
use Rattle.sds_value.specs.Names.{is_name_text}
use Rattle.sds_types.specs.declared.config_refusal.ConfigRefusal.{ConfigRefusal}
use Rattle.sds_types.specs.declared.config_refusal.ConfigRefusal.TheVariants.{MissingEntry, WrongType, BadSetting, Duplicate, UnknownName}
use Rattle.sds_config.specs.Refusals.{and_then}

-- the path of a section's entry, as `channel[0]`
abbrev pub entry_path : List ℕ → ℕ → List ℕ
entry_path section place = section ++ (codes "[" ++ (decimal place ++ codes "]"))

-- the path of a field, as `channel[0].id`
abbrev pub field_path : List ℕ → List ℕ → List ℕ
field_path [] key = key
field_path (c ∷ cs) key = (c ∷ cs) ++ (codes "." ++ key)

-- the value of a field that has to be there
abbrev pub required : Members → List ℕ → List ℕ → Result Data ConfigRefusal
required entry at key = elim (get_member key entry) [ None ↦ Err (MissingEntry (chars (field_path at key))) | Some value ↦ Ok value ]

-- what a value is seen as, where it is of the right type
abbrev pub typed : {T : Type 0} → Option T → List ℕ → List ℕ → Result T ConfigRefusal
typed (Some value) at key = Ok value
typed None at key = Err (WrongType (chars (field_path at key)))

-- a setting that is one of those that are allowed
abbrev pub allowed : {T : Type 0} → Option T → List ℕ → List ℕ → Result T ConfigRefusal
allowed (Some value) at key = Ok value
allowed None at key = Err (BadSetting (chars (field_path at key)))

-- a text, by its characters
abbrev pub text_at : Members → List ℕ → List ℕ → Result (List ℕ) ConfigRefusal
text_at entry at key = and_then (required entry at key) (λ value. and_then (typed (as_str value) at key) (λ bytes. Ok (chars bytes)))

-- a text that may be absent and is then empty
abbrev pub text_or_empty : Members → List ℕ → List ℕ → Result (List ℕ) ConfigRefusal
text_or_empty entry at key = elim (get_member key entry) [ None ↦ Ok [] | Some value ↦ text_at entry at key ]

-- a name
abbrev pub name_at : Members → List ℕ → List ℕ → Result (List ℕ) ConfigRefusal
name_at entry at key = and_then (text_at entry at key) (λ text. allowed (if is_name_text text then Some text else None) at key)

-- a number from the least to the most
abbrev pub number_within : ℕ → ℕ → ℤ → Option ℕ
number_within least most (pos n) = if nat_le least n && nat_le n most then Some n else None
number_within least most (negsuc n) = None

abbrev pub number_at : ℕ → ℕ → Members → List ℕ → List ℕ → Result ℕ ConfigRefusal
number_at least most entry at key =
    and_then (required entry at key) (λ value. and_then (typed (as_integer value) at key) (λ z. allowed (number_within least most z) at key))

-- true or false, and the default where it is absent
abbrev pub flag_at : Bool → Members → List ℕ → List ℕ → Result Bool ConfigRefusal
flag_at default entry at key = elim (get_member key entry) [ None ↦ Ok default | Some value ↦ typed (as_bool value) at key ]

-- one of the field's words, which are given by their bytes
abbrev pub word_at : {W : Type 0} → (List ℕ → Option W) → Members → List ℕ → List ℕ → Result W ConfigRefusal
word_at word_of entry at key =
    and_then (required entry at key) (λ value. and_then (typed (as_str value) at key) (λ word. allowed (word_of word) at key))

-- one of the field's words, and the default where it is absent
abbrev pub word_or : {W : Type 0} → W → (List ℕ → Option W) → Members → List ℕ → List ℕ → Result W ConfigRefusal
word_or default word_of entry at key = elim (get_member key entry) [ None ↦ Ok default | Some value ↦ word_at word_of entry at key ]

-- the place of the first entry of a name, from 0
abbrev pub place_of : {E : Type 0} → (E → List ℕ) → List E → List ℕ → Option ℕ
place_of name_of entries name = position (λ entry. bytes_eq (name_of entry) name) entries

-- a name that no earlier entry of the section has
abbrev pub id_at : {E : Type 0} → (E → List ℕ) → List E → Members → List ℕ → List ℕ → Result (List ℕ) ConfigRefusal
id_at name_of earlier entry at key = and_then (name_at entry at key)
    (λ name. elim (place_of name_of earlier name) [ None ↦ Ok name | Some place ↦ Err (Duplicate (chars (field_path at key))) ])

-- the place of the entry that is named
abbrev pub place_at : {E : Type 0} → (E → List ℕ) → List E → Members → List ℕ → List ℕ → Result ℕ ConfigRefusal
place_at name_of entries entry at key = and_then (name_at entry at key)
    (λ name. elim (place_of name_of entries name) [ None ↦ Err (UnknownName (chars (field_path at key))) | Some place ↦ Ok place ])

-- one of the names is the key
abbrev pub is_listed : List (List ℕ) → List ℕ → Bool
is_listed [] key = false
is_listed (name ∷ names) key = if bytes_eq name key then true else is_listed names key

-- the lesser of a key and another, in byte order
abbrev pub lesser : List ℕ → Option (List ℕ) → List ℕ
lesser key None = key
lesser key (Some other) = if is_lt (slice_cmp nat_cmp other key) then other else key

-- the least key, in byte order, that isn't listed, in whatever order the members stand
abbrev pub first_unlisted : List (List ℕ) → Members → Option (List ℕ)
first_unlisted names no_members = None
first_unlisted names (member key value rest) =
    if is_listed names key then first_unlisted names rest
    else Some (lesser key (first_unlisted names rest))

-- no key of the entry that isn't listed comes before this one
abbrev pub NoneBefore : List (List ℕ) → Members → List ℕ → Type 0
NoneBefore names no_members key = Unit {0}
NoneBefore names (member other value rest) key =
    (is_listed names other ≡ false → is_lt (slice_cmp nat_cmp other key) ≡ false)
    × NoneBefore names rest key

-- no key but these stands in the entry
abbrev pub only_keys : List (List ℕ) → Members → List ℕ → Result (Unit {0}) ConfigRefusal
only_keys names entry at = elim (first_unlisted names entry) [ None ↦ Ok tt | Some key ↦ Err (BadSetting (chars (field_path at key))) ]

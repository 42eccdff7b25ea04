-- Names, numbers and words among the fields of a line.
use Rattle.std.specs.Prelude.{ℕ, Bool, true, false, ◌&&◌, nat_le, List, [], ◌∷◌, length, Option, None, Some}
use Rattle.std.specs.List.{list_all}
use Rattle.std.specs.Char.{is_ascii_digit}
use Rattle.std.specs.Str.{bytes_eq}
use Rattle.sds_value.specs.declared.row.Field.{Field}
use Rattle.sds_value.specs.declared.row.Field.TheVariants.{Null, Text}
use Rattle.sds_value.specs.Names.{is_name_text}
use Rattle.sds_value.specs.Values.{digits_value}

-- the name of a node, a group, a writer or a channel
abbrev pub name_if : Bool → List ℕ → Option (List ℕ)
name_if true text = Some text
name_if false text = None

abbrev pub as_name : Field → Option (List ℕ)
as_name Null = None
as_name (Text text) = name_if (is_name_text text) text

-- the names in fields, if each has one
abbrev pub with_name : Option (List ℕ) → Option (List (List ℕ)) → Option (List (List ℕ))
with_name (Some name) (Some names) = Some (name ∷ names)
with_name name names = None

abbrev pub as_names : List Field → Option (List (List ℕ))
as_names [] = Some []
as_names (field ∷ fields) = with_name (as_name field) (as_names fields)

-- the most digits of a number
abbrev pub most_digits : ℕ
most_digits = 19

abbrev pub is_digits : List ℕ → Bool
is_digits text =
    nat_le 1 (length text) && (nat_le (length text) most_digits && list_all is_ascii_digit text)

-- the number of 1 to 19 decimal digits
abbrev pub number_if : Bool → List ℕ → Option ℕ
number_if true text = Some (digits_value text)
number_if false text = None

abbrev pub as_number : Field → Option ℕ
as_number Null = None
as_number (Text text) = number_if (is_digits text) text

-- a field is a word
abbrev pub is_word : Field → List ℕ → Bool
is_word Null word = false
is_word (Text text) word = bytes_eq text word

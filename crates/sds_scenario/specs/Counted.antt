-- Fields by their count: one, two or three names, or one number.
use Rattle.std.specs.Prelude.{ℕ, List, [], ◌∷◌, Option, None, Some, option_and_then}
use Rattle.sds_value.specs.declared.row.Field.{Field}
use Rattle.sds_scenario.specs.Words.{as_names, as_number}

-- the name of a list of one
abbrev pub only : List (List ℕ) → Option (List ℕ)
only (name ∷ []) = Some name
only names = None

-- the names of a list of two
abbrev pub pair : List (List ℕ) → Option (List ℕ × List ℕ)
pair (first ∷ (second ∷ [])) = Some (first, second)
pair names = None

-- the names of a list of three
abbrev pub triple : List (List ℕ) → Option (List ℕ × List ℕ × List ℕ)
triple (first ∷ (second ∷ (third ∷ []))) = Some (first, second, third)
triple names = None

-- the one name that the fields are
abbrev pub one_name : List Field → Option (List ℕ)
one_name fields = option_and_then only (as_names fields)

-- the two
abbrev pub two_names : List Field → Option (List ℕ × List ℕ)
two_names fields = option_and_then pair (as_names fields)

-- the three
abbrev pub three_names : List Field → Option (List ℕ × List ℕ × List ℕ)
three_names fields = option_and_then triple (as_names fields)

-- the number that the one field writes
abbrev pub one_number : List Field → Option ℕ
one_number (field ∷ []) = as_number field
one_number fields = None

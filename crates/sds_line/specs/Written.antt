-- The written form of a line.
use Rattle.std.specs.Prelude.{ℕ, ◌≡◌, Bool, true, false, ◌&&◌, ◌||◌, ◌==◌, if◌then◌else◌, List, [], ◌∷◌, ◌++◌}
use Rattle.std.specs.Str.{encode_utf8_all, all_scalars}
use Rattle.sds_value.specs.declared.row.Field.{Field}
use Rattle.sds_value.specs.declared.row.Field.TheVariants.{Null, Text}

-- a backslash (92) before each byte that is a quote (34) or a backslash
abbrev pub escaped : List ℕ → List ℕ
escaped [] = []
escaped (b ∷ bs) = if b == 34 || b == 92 then 92 ∷ b ∷ escaped bs else b ∷ escaped bs

-- null as nothing, a text in quotes
abbrev pub written_field : Field → List ℕ
written_field Null = []
written_field (Text text) = 34 ∷ (escaped (encode_utf8_all text) ++ 34 ∷ [])

-- each further field behind a comma (44)
abbrev pub further_fields : List Field → List ℕ
further_fields [] = []
further_fields (field ∷ fields) = 44 ∷ (written_field field ++ further_fields fields)

-- the fields, divided by commas
abbrev pub written_line : List Field → List ℕ
written_line [] = []
written_line (field ∷ fields) = written_field field ++ further_fields fields

-- Fields that have a written form of their own: some field, and not a lone null, whose written form is a blank line.
abbrev pub has_form : List Field → Bool
has_form [] = false
has_form (Null ∷ []) = false
has_form (field ∷ fields) = true

-- the field's text is made of characters
abbrev pub is_field : Field → Bool
is_field Null = true
is_field (Text text) = all_scalars text

abbrev pub are_fields : List Field → Bool
are_fields [] = true
are_fields (field ∷ fields) = is_field field && are_fields fields

-- the new bytes are the old ones and something behind them
pub record Extends (old new : List ℕ) : Type 0 where
  pub more : List ℕ
  pub seam : new ≡ old ++ more

-- Words, and fields that are words.
use Rattle.std.specs.Prelude.{◌≡◌, ℕ, Bool, true, false, ◌&&◌, nat_lt, List, [], ◌∷◌, map}
use Rattle.std.specs.Borrow.{Bor}
use Rattle.std.specs.List.{list_all}
use Rattle.std.specs.Str.{bytes_eq}
use Rattle.sds_value.specs.declared.row.Field.{Field}
use Rattle.sds_value.specs.declared.row.Field.TheVariants.{Null, Text}

-- every byte is ASCII, so that the characters are the bytes
abbrev pub is_plain : List ℕ → Bool
is_plain word = list_all (λ b. nat_lt b 128) word

-- the field is this word; a null is none
abbrev pub is_word : Field → List ℕ → Bool
is_word Null word = false
is_word (Text text) word = bytes_eq text word

-- the fields are these words
abbrev pub are : List Field → List (List ℕ) → Bool
are [] [] = true
are [] (word ∷ words) = false
are (field ∷ fields) [] = false
are (field ∷ fields) (word ∷ words) = is_word field word && are fields words

-- the bytes of each word
abbrev pub texts : List (Bor (List ℕ)) → List (List ℕ)
texts words = map (λ word. word.now) words

abbrev pub ArePlain : List (List ℕ) → Type 0
ArePlain [] = Unit {0}
ArePlain (word ∷ words) = (is_plain word ≡ true) × ArePlain words

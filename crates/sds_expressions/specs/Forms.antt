-- Forms of texts, and how a form is put together from those of its pieces.
use Rattle.std.specs.Prelude.{◌≡◌, ℕ, Bool, true, List, ◌++◌}
use Rattle.std.specs.List.{list_all}
use Rattle.sds_value.specs.Names.{is_name_text}

-- a form says of each text whether it has it
abbrev pub Form : Type 1
Form = List ℕ → Type 0

-- a text of the first form, and directly after it one of the second
infixr 30 ◌▸◌
abbrev pub ◌▸◌ : Form → Form → Form
(first ▸ second) text = (a b : List ℕ) × (text ≡ a ++ b) × first a × second b

-- this text and no other
abbrev pub Exactly : List ℕ → Form
Exactly word text = text ≡ word

-- any number of characters that pass
abbrev pub AnyOf : (ℕ → Bool) → Form
AnyOf passes text = list_all passes text ≡ true

-- this text, which is a name
abbrev pub Name : List ℕ → Form
Name name text = (text ≡ name) × (is_name_text name ≡ true)

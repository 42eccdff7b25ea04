-- The texts that may name a node, a group, a table, a column or an entry of the configuration.
use Rattle.std.specs.Prelude.{ℕ, Bool, ◌&&◌, ◌||◌, ◌==◌, nat_le, List, length}
use Rattle.std.specs.List.{list_all}
use Rattle.std.specs.Char.{is_ascii_alphanumeric}

-- an ASCII letter, an ASCII digit, `_` or `-`
abbrev pub is_name_character : ℕ → Bool
is_name_character c = is_ascii_alphanumeric c || (c == 95 || c == 45)

-- 1 to 50 of these characters
abbrev pub is_name_text : List ℕ → Bool
is_name_text text = nat_le 1 (length text) && (nat_le (length text) 50 && list_all is_name_character text)

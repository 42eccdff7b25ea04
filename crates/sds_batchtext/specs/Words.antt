-- Words in ASCII.
use Rattle.std.specs.Prelude.{ℕ, Bool, nat_lt, List}
use Rattle.std.specs.List.{list_all}

-- every byte is ASCII, so that the characters are the bytes
abbrev pub is_plain : List ℕ → Bool
is_plain word = list_all (λ b. nat_lt b 128) word

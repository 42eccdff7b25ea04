-- The numbers that the generator draws.
use Rattle.std.specs.Prelude.{ℕ, suc, zero, ◌+◌, ◌*◌, ◌^◌, ◌/◌, ◌%◌, List, [], ◌∷◌}

-- each number follows from the one before it
abbrev pub next_drawn : ℕ → ℕ
next_drawn x = (x * 6364136223846793005 + 1442695040888963407) % (2 ^ 64)

-- so many numbers after a first one
abbrev pub drawn_after : ℕ → ℕ → List ℕ
drawn_after x zero = []
drawn_after x (suc count) = next_drawn x ∷ drawn_after (next_drawn x) count

-- what stands in a number above a bit, up to a bound
abbrev pub part_above : ℕ → ℕ → ℕ → ℕ
part_above x bit bound = (x / (2 ^ bit)) % bound

-- the kind of a step, its store, its item, a count of pieces, and a price in hundredths
abbrev pub kind_of_step : ℕ → ℕ
kind_of_step x = part_above x 33 8

abbrev pub store_of_step : ℕ → ℕ
store_of_step x = part_above x 40 3 + 1

abbrev pub item_of_step : ℕ → ℕ
item_of_step x = part_above x 48 100 + 1

abbrev pub pieces_of_step : ℕ → ℕ
pieces_of_step x = part_above x 36 9 + 1

abbrev pub price_of_step : ℕ → ℕ
price_of_step x = part_above x 20 1000

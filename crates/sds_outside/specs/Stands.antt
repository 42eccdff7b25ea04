-- Which commits of a keeper in memory fail.
use Rattle.std.specs.Prelude.{ℕ, Bool, List, [], ◌∷◌, Option, Some, None, drop, nat_eq, slice_get, if◌then◌else◌}
use Rattle.std.specs.Option.{option_or}
use Rattle.sds_outside.specs.declared.mem_keeper.FailAt.{FailAt}

-- whether the failing commit of this number stands, or none where it doesn't fail
abbrev pub stand_of : List FailAt → ℕ → Option Bool
stand_of [] number = None
stand_of (fail ∷ fails) number = if nat_eq fail.commit number then Some fail.stands else stand_of fails number

-- whether the commit of this number stands: as it is listed, or else as the next that is armed
abbrev pub next_stand_of : List FailAt → ℕ → List Bool → Option Bool
next_stand_of commits number armed = option_or (stand_of commits number) (slice_get armed 0)

-- what is armed after the commit of this number: a listed one takes nothing of it
abbrev pub left_after : Option Bool → List Bool → List Bool
left_after None armed = drop 1 armed
left_after (Some stands) armed = armed

abbrev pub left_armed : List FailAt → ℕ → List Bool → List Bool
left_armed commits number armed = left_after (stand_of commits number) armed

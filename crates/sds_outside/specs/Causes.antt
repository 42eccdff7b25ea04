-- When a fault may be answered, and which calls of a fake fail.
use Rattle.std.specs.Prelude.{ℕ, ◌+◌, ◌-◌, ◌^◌, ◌≤◌, min, Bool, List, nat_eq, Result, OnErr}
use Rattle.std.specs.List.{list_any}

-- the number after this one, in a u64 that stands still at its last value
abbrev pub next_number : ℕ → ℕ
next_number n = min (n + 1) (2 ^ 64 - 1)

-- a count of faults has risen, or stands at its last value
abbrev pub Rose : ℕ → ℕ → Type 0
Rose before now = next_number before ≤ now

-- a count doesn't fall, and a fault is answered only where it rose
pub record HasCause {T E : Type 0} (before now : ℕ) (result : Result T E) : Type 0 where
  pub later : before ≤ now
  pub failed : OnErr result (Rose before now)

-- whether this number is in the list
abbrev pub is_listed : List ℕ → ℕ → Bool
is_listed numbers n = list_any (λ y. nat_eq y n) numbers

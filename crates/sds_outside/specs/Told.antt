-- What a source has left and a sink has taken, where they tell it.
use Rattle.std.specs.Prelude.{◌≡◌, ℕ, ◌<◌, ◌≤◌, List, [], ◌++◌, length, take, Option, Some, None, Result, IfOk, OnErr, ⊤}
use Rattle.std.specs.Option.{option_map}

-- these bytes, and then what is told
abbrev pub before_told : List ℕ → Option (List ℕ) → Option (List ℕ)
before_told bytes told = option_map (λ rest. bytes ++ rest) told

-- what is told, and then these bytes
abbrev pub after_told : Option (List ℕ) → List ℕ → Option (List ℕ)
after_told told bytes = option_map (λ front. front ++ bytes) told

-- nothing is left, as far as is told
abbrev pub IsAtEnd : Option (List ℕ) → Type 0
IsAtEnd None = ⊤
IsAtEnd (Some left) = left ≡ []

-- a read took the bytes that it gave, none only at the end or with no room, and at an error nothing
pub record Reads {E : Type 0} (old new : Option (List ℕ)) (result : Result ℕ E) (into : List ℕ) : Type 0 where
  pub bound : IfOk result (λ n. n ≤ length into)
  pub took : IfOk result (λ n. old ≡ before_told (take n into) new)
  pub end : IfOk result (λ n. n ≡ 0 → 0 < length into → IsAtEnd new)
  pub err : OnErr result (new ≡ old)

-- a write added the bytes that it took, at least one of a piece that isn't empty, and at an error nothing
pub record Writes {E : Type 0} (old new : Option (List ℕ)) (result : Result ℕ E) (bytes : List ℕ) : Type 0 where
  pub bound : IfOk result (λ n. n ≤ length bytes)
  pub took : IfOk result (λ n. new ≡ after_told old (take n bytes))
  pub some : IfOk result (λ n. 0 < length bytes → 0 < n)
  pub err : OnErr result (new ≡ old)

-- A piece of the bytes that are left.
use Rattle.std.proofs.Common.{◌≡◌, ℕ, ◌+◌, List, ◌++◌, take, drop, sym}
use Rattle.std.proofs.lemmas.List.{take-append-drop, drop-drop}

-- what was given, and what is left
pub given_part : (bytes rest into : List ℕ) (at n : ℕ) → rest ≡ drop at bytes → take n into ≡ take n rest
    → drop at bytes ≡ take n into ++ drop (at + n) bytes
given_part bytes rest into at n back given =
    rw given (rw back (rw (← drop-drop n at bytes) (sym (take-append-drop n (drop at bytes)))))

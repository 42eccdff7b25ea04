-- Tests of numbers, and what they say.
use Rattle.std.proofs.Common.{◌≡◌, ◌≢◌, ℕ, ◌<◌, ◌≤◌, refl, Bool, true, false, ◌&&◌, ◌⊎◌, inl, inr, nat_eq, nat_lt, nat_le, arith}
use Rattle.std.proofs.lemmas.Bool.Decides.{nat_tests}

pub lt_no : (a b : ℕ) → b ≤ a → nat_lt a b ≡ false
lt_no a b h = grind (arith, nat_tests)

pub lt_yes : (a b : ℕ) → a < b → nat_lt a b ≡ true
lt_yes a b h = grind (arith, nat_tests)

pub le_no : (a b : ℕ) → b < a → nat_le a b ≡ false
le_no a b h = grind (arith, nat_tests)

pub le_yes : (a b : ℕ) → a ≤ b → nat_le a b ≡ true
le_yes a b h = grind (arith, nat_tests)

pub eq_no : (a b : ℕ) → a ≢ b → nat_eq a b ≡ false
eq_no a b h = grind (arith, nat_tests)

pub eq_zero_no : (n : ℕ) → 0 < n → nat_eq n 0 ≡ false
eq_zero_no n h = grind (arith, nat_tests)

pub eq_from : (a b : ℕ) → nat_eq a b ≡ true → a ≡ b
eq_from a b e = grind (arith, nat_tests)

pub lt_from : (a b : ℕ) → nat_lt a b ≡ true → a < b
lt_from a b e = grind (arith, nat_tests)

pub ge_from : (a b : ℕ) → nat_lt a b ≡ false → b ≤ a
ge_from a b e = grind (arith, nat_tests)

pub le_from : (a b : ℕ) → nat_le a b ≡ true → a ≤ b
le_from a b e = grind (arith, nat_tests)

pub order : (m n : ℕ) → (m < n) ⊎ (n ≤ m)
order m n = at (nat_lt m n) refl
  where
    at : (t : Bool) → nat_lt m n ≡ t → (m < n) ⊎ (n ≤ m)
    at true e = inl (lt_from m n e)
    at false e = inr (ge_from m n e)

pub both : (a b : Bool) → (a && b) ≡ true → (a ≡ true) × (b ≡ true)
both true true e = (refl, refl)
both true false e = absurd (cc)
both false b e = absurd (cc)

-- Tests and numbers: small lemmas that all the laws need.
use Rattle.std.proofs.Common.{◌≡◌, ◌≢◌, ℕ, ◌≤◌, ◌==◌, Bool, true, false, refl, sym, arith, true≢false, ◌||◌}
use Rattle.std.proofs.lemmas.Bool.Decides.{nat_tests}

-- one of two tests passes
pub or_cases : {G : Type 0} (a b : Bool) → (a || b) ≡ true → (a ≡ true → G) → (b ≡ true → G) → G
or_cases true b is left right = left refl
or_cases false b is left right = right is

pub or_left : (a b : Bool) → a ≡ true → (a || b) ≡ true
or_left true b is = refl
or_left false b is = absurd (true≢false (sym is))

pub or_right : (a b : Bool) → b ≡ true → (a || b) ≡ true
or_right true b is = refl
or_right false b is = is

-- numbers that are one or differ
pub same_number : (a b : ℕ) → (a == b) ≡ true → a ≡ b
same_number a b is = grind (arith, nat_tests)

pub other_number : (a b : ℕ) → a ≢ b → (b == a) ≡ false
other_number a b apart = grind (arith, nat_tests)

pub at_most : (a b c : ℕ) → a ≤ b → b ≤ c → a ≤ c
at_most a b c first second = omega (arith, first, second)

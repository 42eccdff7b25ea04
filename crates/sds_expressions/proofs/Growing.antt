-- Numbers only grow while their digits are read.
use Rattle.std.proofs.Common.{◌≡◌, ◌≤◌, ◌+◌, ◌-◌, ◌*◌, ◌<◌, ℕ, List, [], ◌∷◌, length, get_or, drop, None, arith}
use Rattle.std.proofs.lemmas.Bool.Decides.{nat_tests}
use Rattle.std.proofs.lemmas.List.{drop_more}
use Rattle.sds_expressions.specs.Numbers.{number_from, up_to}

pub grown : (n : ℕ) (digits : List ℕ) → n ≤ number_from n digits
grown n [] = omega arith
grown n (digit ∷ digits) = omega (arith, grown (n * 10 + (digit - 48)) digits)

pub above : (most n : ℕ) → most < n → None ≡ up_to most n
above most n h = grind (arith, nat_tests)

-- a number that is too great before its last digit is too great
pub too_great : (most n : ℕ) (digits : List ℕ) (i : ℕ) → i < length digits → number_from n (drop i digits) ≡ number_from 0 digits
    → most < n * 10 + (get_or digits i 0 - 48) → None ≡ up_to most (number_from 0 digits)
too_great most n digits i inside same great =
    let e = rw (drop_more digits i 0 inside) at same in
    let g : n * 10 + (get_or digits i 0 - 48) ≤ number_from 0 digits = rw (← e) (grown (n * 10 + (get_or digits i 0 - 48)) (drop (i + 1) digits)) in
    above most (number_from 0 digits) (omega arith)

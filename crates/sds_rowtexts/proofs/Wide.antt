-- So many times the difference of two numbers of 64 bits has room in 128 bits.
use Rattle.std.proofs.Common.{◌≤◌, ◌^◌, ◌-◌, ℤ, ◌*ℤ◌, ◌-ℤ◌, FitsSigned, w64, arith}
use Rattle.std.specs.Int.RustNames.{unsigned_abs}
use Rattle.std.proofs.lemmas.Int.{ints, fits_signed_mul}
use mir.Syntax.{w128}

narrow_abs : (z : ℤ) → FitsSigned w64 z → unsigned_abs z ≤ 2 ^ 63
narrow_abs z fits = omega (arith, ints)

difference_abs : (a b : ℤ) → FitsSigned w64 a → FitsSigned w64 b → unsigned_abs (a -ℤ b) ≤ 2 ^ 64 - 1
difference_abs a b f g = omega (arith, ints)

pub difference_fits : (a b : ℤ) → FitsSigned w64 a → FitsSigned w64 b → FitsSigned w128 (a -ℤ b)
difference_fits a b f g = omega (arith, ints)

pub widened : (z : ℤ) → FitsSigned w64 z → FitsSigned w128 z
widened z fits = omega (arith, ints)

pub product_fits : (n a b : ℤ) → FitsSigned w64 n → FitsSigned w64 a → FitsSigned w64 b → FitsSigned w128 (n *ℤ (a -ℤ b))
product_fits n a b h f g = fits_signed_mul w128 n (a -ℤ b) (2 ^ 63) (2 ^ 64 - 1) (narrow_abs n h) (difference_abs a b f g) (omega arith)

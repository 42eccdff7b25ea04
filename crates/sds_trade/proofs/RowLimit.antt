-- A node takes no row more than it may have, and takes the last one.
use Rattle.std.proofs.Common.{◌≡◌, ℕ, ◌+◌, true, false, length, ap, arith}
use Rattle.std.specs.Prelude.{nat_le}
use Rattle.sds_trade.specs.worked.Limits.{FullRefuses, NearlyFullTakes}

full : (n : ℕ) → n ≡ 200000 → nat_le 200000 n ≡ true
full n is = ap (nat_le 200000) is

nearly : (n : ℕ) → n + 1 ≡ 200000 → nat_le 200000 n ≡ false
nearly n is = let e : n ≡ 199999 = omega (arith, is) in ap (nat_le 200000) e

pub full_refuses : FullRefuses
full_refuses rows is = full (length rows) is

pub nearly_full_takes : NearlyFullTakes
nearly_full_takes rows is = nearly (length rows) is

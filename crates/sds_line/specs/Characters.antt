-- Characters of more than one byte in UTF-8 (RFC 3629), byte by byte.
use Rattle.std.specs.Prelude.{ℕ, ◌+◌, ◌-◌, ◌*◌, ◌^◌, ◌≡◌, ◌<◌, ◌≤◌, Bool, ◌&&◌, ◌==◌, nat_le, if◌then◌else◌}
use Rattle.std.specs.Str.{continuation_len, lead_bits}
use Rattle.sds_line.specs.declared.partial.Partial.{Partial}

-- between two characters
abbrev pub whole : Partial
whole = record { wanted = 0; bits = 0; low = 0; high = 0 }

-- the first byte of a character of two to four bytes
abbrev pub is_lead : ℕ → Bool
is_lead b = nat_le 0xC2 b && nat_le b 0xF4

-- What follows a first byte. The second byte's range leaves out the longer forms of characters that have a shorter one,
-- the surrogates, and what is above U+10FFFF.
abbrev pub lowest : ℕ → ℕ
lowest b = if b == 0xE0 then 0xA0 else if b == 0xF0 then 0x90 else 0x80

abbrev pub highest : ℕ → ℕ
highest b = if b == 0xED then 0x9F else if b == 0xF4 then 0x8F else 0xBF

abbrev pub lead_of : ℕ → Partial
lead_of b = record { wanted = continuation_len b; bits = lead_bits b; low = lowest b; high = highest b }

-- the byte may come next
abbrev pub continues : Partial → ℕ → Bool
continues p b = nat_le p.low b && nat_le b p.high

-- what has come behind it
abbrev pub next_of : Partial → ℕ → Partial
next_of p b = record { wanted = p.wanted - 1; bits = p.bits * 64 + (b - 128); low = 0x80; high = 0xBF }

-- the bits leave room for those that are still to come
pub record HasRoom (p : Partial) : Type 0 where
  pub wanted : p.wanted ≤ 3
  pub low : 0 < p.wanted → 128 ≤ p.low
  pub high : p.high ≤ 0xBF
  pub one : p.wanted ≡ 1 → p.bits < 2 ^ 16
  pub two : p.wanted ≡ 2 → p.bits < 2 ^ 10
  pub three : p.wanted ≡ 3 → p.bits < 2 ^ 4

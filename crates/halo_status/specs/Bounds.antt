-- How long a list of members is.
use Rattle.std.specs.Prelude.{ℕ, ◌≤◌, Bool, ◌&&◌, nat_le}

-- from 1 to 16
abbrev pub IsShort : ℕ → Type 0
IsShort n = (1 ≤ n) × (n ≤ 16)

-- the same as a test, which a list in memory keeps
abbrev pub is_short : ℕ → Bool
is_short n = nat_le 1 n && nat_le n 16

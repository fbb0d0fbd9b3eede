-- Sets within sets, as the bits of numbers.
use Rattle.std.specs.Prelude.{ℕ, Bool, bit_and, nat_eq}

-- whether each number of one mask is in another
abbrev pub is_within : ℕ → ℕ → Bool
is_within mask all = nat_eq (bit_and mask all) mask

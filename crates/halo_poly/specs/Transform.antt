-- What single steps over all sets of lives read.
use Rattle.std.specs.Prelude.{ℕ, ◌+◌, ◌-◌, ◌^◌, cond, nat_eq, bit_and, List, ℤ, pos}
use Rattle.halo_sums.specs.Masks.{has_bit}
use Rattle.halo_poly.specs.Poly.{coefficient_at}

-- what there is at a set without one of its lives, and 0 where it is no life of the set
unfoldable pub without : List ℤ → ℕ → ℕ → ℤ
without values life mask =
    cond (has_bit mask life) (coefficient_at values (mask - 2 ^ life)) (pos 0)

-- what there is at a set with one life more, and 0 where it is a life of the set already
unfoldable pub with_life : List ℤ → ℕ → ℕ → ℤ
with_life values life mask =
    cond (has_bit mask life) (pos 0) (coefficient_at values (mask + 2 ^ life))

-- what there is at a mask that lies within another one, and else 0
abbrev pub within : List ℤ → ℕ → ℕ → ℤ
within values set mask = cond (nat_eq (bit_and mask set) mask) (coefficient_at values mask) (pos 0)

-- Sets of small numbers as the bits of one number.
use Rattle.std.specs.Prelude.{ℕ, zero, suc, ◌/◌, ◌%◌, Bool, nat_eq, List, [], ◌∷◌}
use Rattle.std.specs.Int.{bit_at}

-- whether bit i of a mask is set: whether i is in the set that the mask stands for
abbrev pub has_bit : ℕ → ℕ → Bool
has_bit mask i = nat_eq (bit_at mask i) 1

-- the set that the n lowest bits of a mask stand for
abbrev pub bits : ℕ → ℕ → List Bool
bits zero mask = []
bits (suc n) mask = nat_eq (mask % 2) 1 ∷ bits n (mask / 2)

-- The ends of an interval in printed units: the lower one rounded down, the upper one rounded up.
use Rattle.std.specs.Prelude.{suc, ◌/◌, ℤ, pos, negsuc, neg_ℤ}
use Rattle.halo_num.specs.Ends.{Ends, printed, printed_ceiling}
use Rattle.halo_num.specs.declared.nano.Nano.{Nano}

-- a number of fine units in printed units, rounded down, and rounded up
abbrev pub floor_of : ℤ → ℤ
floor_of (pos n) = pos (n / printed)
floor_of (negsuc n) = negsuc (n / printed)

abbrev pub ceiling_of : ℤ → ℤ
ceiling_of (pos n) = pos (printed_ceiling n)
ceiling_of (negsuc n) = neg_ℤ (pos (suc n / printed))

-- an interval, rounded outward
abbrev pub printed_of : Ends → Nano
printed_of i = record { lo = floor_of i.lo; hi = ceiling_of i.hi }

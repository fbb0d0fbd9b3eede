-- The chance that something does not happen.
use Rattle.std.specs.Prelude.{pos, ◌-ℤ◌}
use Rattle.halo_num.specs.Ends.{Ends, fine}

-- by the chance that it does: 1 less that
abbrev pub complement : Ends → Ends
complement chance = record { lo = pos fine -ℤ chance.hi; hi = pos fine -ℤ chance.lo }

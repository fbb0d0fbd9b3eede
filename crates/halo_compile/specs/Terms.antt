-- At which times the terms of a pay end.
use Rattle.std.specs.Prelude.{ℕ, ◌-◌}
use Rattle.halo_status.specs.declared.pay.Kind.{Kind}
use Rattle.halo_status.specs.declared.pay.Kind.TheVariants.{Insurance, Due, Immediate}

-- the length of the term that is on at the time before t and no longer on at t
abbrev pub last_term : Kind → ℕ → ℕ
last_term Immediate t = t - 1
last_term Insurance t = t
last_term Due t = t

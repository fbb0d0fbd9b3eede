-- The two views of time: payments at the beginning of a year and at its end.
use Rattle.std.specs.Prelude.{ℕ, Bool, nat_le, nat_lt}
use Rattle.halo_status.specs.declared.view.View.{View}
use Rattle.halo_status.specs.declared.view.View.TheVariants.{Due, Immediate}

-- whether a term of n years is on at time t: an annuity-due of n years pays at 0 to n - 1, an
-- annuity-immediate at 1 to n
abbrev pub is_on : View → ℕ → ℕ → Bool
is_on Due t n = nat_lt t n
is_on Immediate t n = nat_le t n

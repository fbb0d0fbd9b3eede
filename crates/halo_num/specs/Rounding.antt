-- Rounding to a whole number, down and up, of quotients of either sign.
use Rattle.std.specs.Prelude.{ℤ, ◌+ℤ◌, ◌*ℤ◌, ◌≤ℤ◌, ◌<ℤ◌}

-- r is the floor of z / d: the greatest whole number not above it
pub record IsFloor (r z d : ℤ) : Type 0 where
  pub reached : (r *ℤ d) ≤ℤ z
  pub nearest : z <ℤ (r *ℤ d +ℤ d)

-- r is the ceiling of z / d: the least whole number not below it
pub record IsCeiling (r z d : ℤ) : Type 0 where
  pub reached : z ≤ℤ (r *ℤ d)
  pub nearest : (r *ℤ d) <ℤ (z +ℤ d)

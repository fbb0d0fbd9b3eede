-- Intervals that come from others, rounded outward: a quotient, and a difference from a product.
use Rattle.std.specs.Prelude.{ℕ, ◌+◌, ◌*◌, ℤ, pos, ◌-ℤ◌, ◌*ℤ◌, ◌≤ℤ◌}
use Rattle.halo_num.specs.Ends.{Ends, HasWidth, fine}
use Rattle.halo_num.specs.Enclosure.{Encloses}

-- i is a quotient: it encloses each quotient of a fraction in the one by a fraction in the other
pub record IsQuotient (dividend divisor i : Ends) : Type 0 where
  pub encloses : (n : ℤ) (m d : ℕ) → Encloses dividend n d → Encloses divisor (pos m) d
      → Encloses i n m
  pub narrow : (v w t : ℕ) → dividend.hi ≤ℤ pos (t * fine) → HasWidth dividend v
      → HasWidth divisor w
      → HasWidth i (v + t * w + 1)
  pub from : pos 0 ≤ℤ i.lo
  pub bound : (t : ℕ) → dividend.hi ≤ℤ pos (t * fine) → i.hi ≤ℤ pos (t * fine)

-- i is what a product leaves of a whole: it encloses n / d - (m / e) * (k / d) for each choice of
-- fractions in the whole and the two factors
pub record IsLessProduct (whole left right i : Ends) : Type 0 where
  pub encloses : (n m k : ℤ) (d e : ℕ) → Encloses whole n d → Encloses left m e → Encloses right k d
      → Encloses i (n *ℤ pos e -ℤ m *ℤ k) (d * e)
  pub narrow : (v w u t g : ℕ) → left.hi ≤ℤ pos (t * fine) → right.hi ≤ℤ pos (g * fine)
      → HasWidth whole v → HasWidth left w → HasWidth right u → HasWidth i (v + t * u + g * w + 1)
